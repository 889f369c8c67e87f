-- Which records a block has, and what each is: by the cases of the test whether there is one.
-- Assumes nothing.
use Rattle.std.specs.Prelude.{Option, Some, None}
use Prim.Native.Nat.{ℕ, ◌+◌, ◌-◌, ◌*◌, ◌%◌, ◌^◌, ◌<◌, ◌≤◌}
use mathlib.Core.Path.{◌≡◌, refl, sym, ap₂, subst, ◌∙◌}
use mathlib.Core.Logic.{◌⊎◌, inl, inr}
use mathlib.Core.Bool.{true, false, ◌&&◌}
use mathlib.Core.List.{List, []}
use native.Mathlib.Omega.{arith}
use borrow.Author.Tests.{eqb-true, ltb-true, ltb-false, eq-eqb, lt-ltb, le-ltb}
use lib.Dec.{eqb, ltb}
use lib.ListN.{length, drop}
use Rattle.fields.specs.Bytes.{Bytes}
use Rattle.fields.proofs.Bytes.{bytes_take, bytes_drop, number_whole}
use Rattle.fields.proofs.Bools.{not_each, and-false, by_test}
use Rattle.capture.specs.Block.{part, count_of, start_of, time_of, good, at, has_record, record_of, message_of}
use Rattle.capture.specs.declared.Record.{Record}
use Rattle.capture.proofs.Parts.{length_part}
use Rattle.capture.proofs.Rules.{all_three, good_keeps}

-- where there is a record, the block has 512 bytes, and the record is one of the count's and one of 23
pub has_record_lem : (b : List ℕ) (i : ℕ) → has_record b i ≡ true → (length b ≡ 512) × (i < count_of b) × (i < 23)
has_record_lem b i e =
    let p = all_three (eqb (length b) 512) (ltb i (count_of b)) (ltb i 23) e in
    (eqb-true _ _ p.0, ltb-true _ _ p.1, ltb-true _ _ p.2)

-- ---- where there is a record, and where there is none

pub there : (b : List ℕ) (i : ℕ) → length b ≡ 512 → i < count_of b → i < 23 → record_of b i ≡ Some (at (time_of b i) (start_of i + 8))
unfolding record_of
there b i e h l = rw (eq-eqb (length b) 512 e, lt-ltb i (count_of b) h, lt-ltb i 23 l)

pub no_block : (b : List ℕ) (i : ℕ) → eqb (length b) 512 ≡ false → record_of b i ≡ None
unfolding record_of
no_block b i e = rw e

pub count_ended : (b : List ℕ) (i : ℕ) → count_of b ≤ i → record_of b i ≡ None
unfolding record_of
count_ended b i h = rw (le-ltb i (count_of b) h, and-false (eqb (length b) 512))

pub past_ended : (b : List ℕ) (i : ℕ) → 23 ≤ i → record_of b i ≡ None
unfolding record_of
past_ended b i h = rw (le-ltb i 23 h, and-false (eqb (length b) 512 && ltb i (count_of b)))

-- so a good block's records are as many as its count says, and then it has ended (`count_ended`)
pub good_at : (b : List ℕ) (i : ℕ) → good b ≡ true → i < count_of b → record_of b i ≡ Some (at (time_of b i) (3 + 22 * i + 8))
good_at b i e h =
    let k = good_keeps b e in
    there b i k.size h (omega (arith, k.most))

-- a time has 64 bits
pub time_whole : (b : List ℕ) (i : ℕ) → Bytes b → start_of i + 8 ≤ length b → time_of b i % 2 ^ 64 ≡ time_of b i
time_whole b i y h =
    let k : length (part (start_of i) (start_of i + 8) b) ≡ 8 = length_part (start_of i) (start_of i + 8) b h ∙ omega arith in
    number_whole (part (start_of i) (start_of i + 8) b) (bytes_take (start_of i + 8 - start_of i) (drop (start_of i) b) (bytes_drop (start_of i) b y)) (omega (arith, k))

-- ---- what an answer tells

abbrev Told : List ℕ → ℕ → Option Record → Type 0
Told b i (Some r) = (has_record b i ≡ true) × (r.time ≡ time_of b i) × (r.start ≡ start_of i + 8)
Told b i None = has_record b i ≡ false

told : (b : List ℕ) (i : ℕ) → Told b i (record_of b i)
unfolding record_of
told b i = by_test (Told b i) (has_record b i) _ _ (λ h. (h, refl, refl)) (λ h. h)

pub record_at_lem : (b : List ℕ) (i t a : ℕ) → record_of b i ≡ Some (at t a) → (has_record b i ≡ true) × (t ≡ time_of b i) × (a ≡ start_of i + 8)
record_at_lem b i t a e = subst (Told b i) e (told b i)

pub record_ended : (b : List ℕ) (i : ℕ) → record_of b i ≡ None → has_record b i ≡ false
record_ended b i e = subst (Told b i) e (told b i)

later : (b : List ℕ) (i j : ℕ) → i ≤ j → (eqb (length b) 512 ≡ false) ⊎ (ltb i (count_of b) ≡ false) → record_of b j ≡ None
later b i j l (inl e) = no_block b j e
later b i j l (inr e) = count_ended b j (omega (arith, ltb-false i (count_of b) e))

latest : (b : List ℕ) (i j : ℕ) → i ≤ j → (eqb (length b) 512 && ltb i (count_of b) ≡ false) ⊎ (ltb i 23 ≡ false) → record_of b j ≡ None
latest b i j l (inl e) = later b i j l (not_each (eqb (length b) 512) (ltb i (count_of b)) e)
latest b i j l (inr e) = past_ended b j (omega (arith, ltb-false i 23 e))

-- after the end there is no record
pub ended_on : (b : List ℕ) (i j : ℕ) → i ≤ j → record_of b i ≡ None → record_of b j ≡ None
ended_on b i j l e = latest b i j l (not_each (eqb (length b) 512 && ltb i (count_of b)) (ltb i 23) (record_ended b i e))

-- ---- the message of a record

-- it ends before the three last bytes
pub inside : (b : List ℕ) (i t a : ℕ) → Some (at t a) ≡ record_of b i → (a + 14 ≤ 509) × (length b ≡ 512)
inside b i t a e =
    let r = record_at_lem b i t a (sym e) in
    let h = has_record_lem b i r.0 in
    (omega (arith, r.2, h.2), h.0)

pub message_at : (b : List ℕ) (i t a : ℕ) → Some (at t a) ≡ record_of b i → part a (a + 14) b ≡ message_of b i
unfolding message_of
message_at b i t a e =
    let r = record_at_lem b i t a (sym e) in
    let k : a + 14 ≡ start_of i + 22 = omega (arith, r.2) in
    simp r.0 (ap₂ (λ (x y : ℕ). part x y b) r.2 k)

pub message_ended : (b : List ℕ) (i : ℕ) → None ≡ record_of b i → [] ≡ message_of b i
unfolding message_of
message_ended b i e = simp (record_ended b i (sym e))

-- a record's message has 14 bytes
pub message_length : (b : List ℕ) (i : ℕ) → has_record b i ≡ true → length (message_of b i) ≡ 14
unfolding message_of
message_length b i e =
    let h = has_record_lem b i e in
    rw e (length_part (start_of i + 8) (start_of i + 22) b (omega (arith, h.0, h.2)) ∙ omega arith)
