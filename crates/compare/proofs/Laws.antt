-- What a check says, for every capture and every text: yes exactly where RULES 14.4 says so, else the first line at fault, or 14, or 16; and our own listing gets yes. By the tests, and the laws of the comparison.
-- Assumes nothing.
use Rattle.std.specs.Prelude.{Option, Some, None, Result, Ok, Err}
use Prim.Native.Nat.{ℕ, zero, suc, ◌+◌, ◌^◌, ◌≤◌, ◌<◌}
use native.Mathlib.Omega.{arith}
use mathlib.Core.Path.{◌≡◌, refl, sym, ap, ◌∙◌}
use mathlib.Core.Logic.{◌⊎◌, inl, inr, ◌↔◌}
use mathlib.Core.Bool.{Bool, true, false, cond, not, false≢true}
use mathlib.Core.List.{List, ◌∷◌, ◌++◌}
use borrow.Author.Tests.{not-true, not-false, ltb-true, ltb-false, lt-ltb, le-ltb}
use lib.Dec.{ltb}
use lib.ListN.{length, replicate}
use Rattle.refusals.specs.declared.Refusal.{Refusal}
use Rattle.refusals.specs.declared.Refusal.TheVariants.{Log, Form}
use Rattle.fields.specs.Bytes.{Bytes}
use Rattle.fields.proofs.Bools.{by_test}
use Rattle.capture.specs.Block.{count_of, good, time_of, message_of}
use Rattle.memory.specs.Offsets.{table_size}
use Rattle.table_bytes.specs.Layout.{emptied, clock_of}
use Rattle.table.proofs.Emptied.{emptied_bytes}
use Rattle.table.proofs.Lawful.{bytes_after}
use Rattle.text.specs.Lines.{newline}
use Rattle.feed.specs.Feed.{records_into, block_into, blocks_in, block_at, blocks_into, bad_in}
use Rattle.report.specs.Listing.{header_for, listing}
use Rattle.form.specs.Form.{same, in_form}
use Rattle.form.proofs.Loops.{same_equal}
use Rattle.form.proofs.Pieces.{same_self}
use Rattle.form.proofs.Walking.{some_header}
use Rattle.compare.specs.Compared.{table_of, bad_of, ours, our_header, our_rows, compared, against, lines_of, verdict, records_of, checked}
use Rattle.compare.specs.Right.{Right, Faulty, header_faulty, row_faulty}
use Rattle.compare.proofs.Rows.{AllOurs, rows_ours, listing_in_form}
use Rattle.compare.proofs.Faults.{yes_agree, agree_yes, first_fault, never_refused, own_yes}

-- ---- our table is bytes, whatever the capture

records_bytes : (s b : List ℕ) → Bytes s → (n : ℕ) → Bytes (records_into s b n)
records_bytes s b h zero = h
records_bytes s b h (suc n) = bytes_after (records_into s b n) (message_of b n) (time_of b n) (records_bytes s b h n)

block_bytes : (s b : List ℕ) → Bytes s → Bytes (block_into s b)
unfolding block_into
block_bytes s b h = by_test Bytes (good b) _ _ (λ _. records_bytes s b h (count_of b)) (λ _. h)

blocks_bytes : (s c : List ℕ) → Bytes s → (k : ℕ) → Bytes (blocks_into s c k)
blocks_bytes s c h zero = h
blocks_bytes s c h (suc k) = block_bytes (blocks_into s c k) (block_at c k) (blocks_bytes s c h k)

table_bytes : (c : List ℕ) → Bytes (table_of c)
unfolding table_of
table_bytes c = blocks_bytes (emptied (replicate (table_size 256) 0)) c (emptied_bytes (replicate (table_size 256) 0)) (blocks_in c)

pub bad_most : (c : List ℕ) (k : ℕ) → bad_in c k ≤ k
bad_most c zero = omega arith
bad_most c (suc k) = by (good (block_at c k)) (bad_most c k)
  where
    by : (t : Bool) → bad_in c k ≤ k → bad_in c k + cond t 0 1 ≤ suc k
    by true h = omega arith
    by false h = omega arith

-- ---- the cases

module _ (c l : List ℕ) where
  -- each answer with what earned it
  data Way : Result (Option ℕ) Refusal → Type 0 where
    too_many : 2900 < records_of c → Way (Err Log)
    no_form : records_of c ≤ 2900 → in_form l ≡ false → Way (Err Form)
    compares : records_of c ≤ 2900 → in_form l ≡ true → Way (verdict c l)

  way : Way (checked c l)
  unfolding checked
  way =
      by_test Way (ltb 2900 (records_of c)) _ _ (λ e. too_many (ltb-true 2900 (records_of c) e))
      (λ e. by_test Way (not (in_form l)) _ _ (λ f. no_form (ltb-false 2900 (records_of c) e) (not-true _ f)) (λ f. compares (ltb-false 2900 (records_of c) e) (not-false _ f)))

  -- the header's line is equal, or at fault
  module _ {h : List ℕ} {ls : List (List ℕ)} (lines : lines_of l ≡ h ∷ ls) where
    by_header : (t : Bool) → same (h ++ newline) (our_header c) ≡ t → verdict c l ≡ cond t (compared 2 ls (our_rows c)) (Ok (Some 1))
    unfolding verdict against
    by_header t e = ap (λ (x : List (List ℕ)). against x (our_header c) (our_rows c)) lines ∙ ap (λ (b : Bool). cond b (compared 2 ls (our_rows c)) (Ok (Some 1))) e

  all_ours : AllOurs (our_rows c)
  all_ours = rows_ours (table_of c) (table_bytes c)

  -- what a verdict tells
  abbrev Told : Result (Option ℕ) Refusal → Type 0
  Told (Ok None) = Right c l
  Told (Ok (Some n)) = Faulty c l n
  Told (Err r) = ⊥

  module _ (few : records_of c ≤ 2900) (form : in_form l ≡ true) where
    rows_told : {h : List ℕ} {ls : List (List ℕ)} → lines_of l ≡ h ∷ ls → h ++ newline ≡ our_header c → (x : Result (Option ℕ) Refusal) → compared 2 ls (our_rows c) ≡ x → Told x
    rows_told {h} {ls} lines e (Ok None) f = record { few = few; form = form; first = h; others = ls; lines = lines; header = e; rows = yes_agree 2 ls all_ours f }
    rows_told {h} {ls} lines e (Ok (Some n)) f = row_faulty lines e (first_fault 2 n ls all_ours f)
    rows_told {h} {ls} lines e (Err r) f = never_refused 2 ls (our_rows c) f

    header_told : {h : List ℕ} {ls : List (List ℕ)} → lines_of l ≡ h ∷ ls → (t : Bool) → same (h ++ newline) (our_header c) ≡ t → Told (cond t (compared 2 ls (our_rows c)) (Ok (Some 1)))
    header_told {h} {ls} lines true e = rows_told lines (same_equal (h ++ newline) (our_header c) e) (compared 2 ls (our_rows c)) refl
    header_told {h} {ls} lines false e =
        header_faulty lines (λ f. false≢true (sym e ∙ ap (λ (x : List ℕ). same x (our_header c)) f ∙ same_self (our_header c)))

    verdict_told : Told (verdict c l)
    verdict_told =
        let p = some_header l form in
        let t : Bool = same (p.0 ++ newline) (our_header c) in
        rw (by_header p.1.1 t refl) (header_told p.1.1 t refl)

  -- ---- what each answer tells

  pub record Many (r : Refusal) : Type 0 where
    pub is : r ≡ Log
    pub over : 2900 < records_of c

  pub record Formless (r : Refusal) : Type 0 where
    pub is : r ≡ Form
    pub few : records_of c ≤ 2900
    pub not_in : in_form l ≡ false

  abbrev pub Tells : Result (Option ℕ) Refusal → Type 0
  Tells (Ok None) = Right c l
  Tells (Ok (Some n)) = Faulty c l n
  Tells (Err r) = Many r ⊎ Formless r

  told_tells : (x : Result (Option ℕ) Refusal) → Told x → Tells x
  told_tells (Ok None) p = p
  told_tells (Ok (Some n)) p = p
  told_tells (Err r) p = absurd p

  by_way : {x : Result (Option ℕ) Refusal} → Way x → Tells x
  by_way (too_many h) = inl (record { is = refl; over = h })
  by_way (no_form h f) = inr (record { is = refl; few = h; not_in = f })
  by_way (compares h f) = told_tells (verdict c l) (verdict_told h f)

  -- of yes that all is right, of a line that it is the first at fault, of 14 and 16 their reasons; and no other number comes
  pub check_tells : Tells (checked c l)
  check_tells = by_way way

  -- ---- and what is right gets yes

  right_verdict : Right c l → verdict c l ≡ Ok None
  right_verdict p =
      by_header p.lines true (ap (λ (x : List ℕ). same x (our_header c)) p.header ∙ same_self (our_header c)) ∙ agree_yes 2 all_ours p.rows

  taken : records_of c ≤ 2900 → in_form l ≡ true → checked c l ≡ verdict c l
  unfolding checked
  taken few form = rw (le-ltb 2900 (records_of c) few, form)

  pub yes_exactly : checked c l ≡ Ok None ↔ Right c l
  yes_exactly = (λ e. rw e at check_tells, λ p. taken p.few p.form ∙ right_verdict p)

  pub fault_first : {n : ℕ} → checked c l ≡ Ok (Some n) → Faulty c l n
  fault_first e = rw e at check_tells

  pub fourteen_exactly : checked c l ≡ Err Log ↔ 2900 < records_of c
  unfolding checked
  fourteen_exactly = (λ e. back (rw e at check_tells), λ h. rw (lt-ltb 2900 (records_of c) h))
    where
      back : Tells (Err Log) → 2900 < records_of c
      back (inl p) = p.over
      back (inr p) = let e : Log ≡ Form = p.is in let z : ◌≡◌ {A = ℕ} 0 1 = cc in absurd (omega arith)

  pub sixteen_exactly : checked c l ≡ Err Form ↔ (records_of c ≤ 2900) × (in_form l ≡ false)
  unfolding checked
  sixteen_exactly = (λ e. back (rw e at check_tells), λ h. rw (le-ltb 2900 (records_of c) h.0, h.1))
    where
      back : Tells (Err Form) → (records_of c ≤ 2900) × (in_form l ≡ false)
      back (inl p) = let e : Form ≡ Log = p.is in let z : ◌≡◌ {A = ℕ} 0 1 = cc in absurd (omega arith)
      back (inr p) = (p.few, p.not_in)

  pub only_these : {r : Refusal} → checked c l ≡ Err r → (r ≡ Log) ⊎ (r ≡ Form)
  only_these {r} e = reason (rw e at check_tells)
    where
      reason : Many r ⊎ Formless r → (r ≡ Log) ⊎ (r ≡ Form)
      reason (inl p) = inl p.is
      reason (inr p) = inr p.is

-- ---- our own listing

own_verdict : (c : List ℕ) → verdict c (ours c) ≡ Ok None
unfolding verdict listing header_for
own_verdict c = own_yes (clock_of (table_of c)) (length (our_rows c)) (bad_of c) (our_rows c)

-- of every capture within the bound, which as any slice has fewer than 2^64 bytes
pub own_listing_yes : (c : List ℕ) → length c < 2 ^ 64 → records_of c ≤ 2900 → checked c (ours c) ≡ Ok None
own_listing_yes c size few =
    taken c (ours c) few (listing_in_form (table_of c) (table_bytes c) (bad_of c) (omega (arith, bad_most c (blocks_in c))))
    ∙ own_verdict c
