-- Messages both ways: what is encoded is decoded to the same fields, and what is decoded is encoded to the same 14 bytes.
-- Four bytes, seven and the seal are a message just when they are cut and put together alike, by the laws of bytes, layouts and parity.
-- Assumes nothing.
use Rattle.std.specs.Prelude.{Result, Ok, Err}
use Prim.Native.Nat.{ℕ, ◌/◌, ◌%◌, ◌^◌, ◌<◌}
use mathlib.Core.Path.{◌≡◌, refl, sym, ap, ap₂, subst, ◌∙◌}
use mathlib.Core.Bool.{Bool, true, false, not, ◌&&◌}
use mathlib.Core.List.{List, ◌++◌}
use native.Mathlib.Nat.{mod-eq_of_lt, mod-lt}
use native.Mathlib.Omega.{arith}
use lib.Dec.{eqb, lit<}
use lib.ListN.{length, take, drop, get_or, take-append-drop, length-drop}
use lib.Seq.{take-add}
use borrow.Author.Tests.{eqb-true, not-true, not-false}
use Rattle.fields.specs.Packing.{pack, unpack, Fit, fits}
use Rattle.fields.specs.Bytes.{number, bytes_of, Bytes}
use Rattle.fields.proofs.Bools.{each, both, by_test}
use Rattle.fields.proofs.Fits.{fits_fit, unpack_fits}
use Rattle.fields.proofs.Packing.{pack_lt, unpack_pack, pack_unpack}
use Rattle.fields.proofs.Bytes.{bytes_take, bytes_drop, fit_bytes, number_bytes, bytes_number}
use Rattle.parity.specs.Parity.{remainder}
use Rattle.parity.proofs.Seal.{sealed, only_sealed}
use Rattle.layouts.specs.Bodies.{type_by, taken_by, flag_in, body_coarse, body_type, flag_of, body_me, body_fits}
use Rattle.layouts.proofs.BothWays.{written_read, read_good, coarse_read, type_read, flag_read, me_lt}
use Rattle.messages.specs.Message.{bits, format_taken, coarse_by, is_reserved, reserved_in, with_body, opened, decoded, head_widths, head_fields, agree, head_taken, message_fits, sealed_by, message_bytes}
use Rattle.messages.specs.declared.Frame.{Frame}
use Rattle.messages.specs.declared.Message.{Message}
use Rattle.messages.proofs.Fitting.{fits_head, fits_taken, fits_body}
use Rattle.messages.proofs.Parts.{four, seven, head_lt, me_is, head_is, frame_is}
use Rattle.layouts.specs.declared.bodies.Body.{Body}
use Rattle.refusals.specs.declared.Refusal.{Refusal}

-- ---- what is encoded is decoded to the same fields

-- both or neither: the two are the same
same : (a b : Bool) → agree a b ≡ true → b ≡ a
same true b e = e
same false b e = not-true b e

alike : (a b : Bool) → b ≡ a → agree a b ≡ true
alike true b e = e
alike false b e = rw e

opened_back : (m : Message) → head_taken m ≡ true → body_fits m.body ≡ true
    → opened m.format m.control m.address (body_me m.body) ≡ Ok m
unfolding opened
opened_back m h b =
    let n : ℕ = body_me m.body in
    let c : Bool = coarse_by m.format m.control in
    let r : ℕ → ℕ → Bool = is_reserved m.format m.control in
    let q : Bool = r (body_type m.body) (flag_of m.body) in
    let g = each (format_taken m.format m.control && not q) (agree c (body_coarse m.body)) h in
    let t = each (format_taken m.format m.control) (not q) g.0 in
    let e : taken_by c n ≡ Ok m.body = ap (λ (k : Bool). taken_by k n) (sym (same c (body_coarse m.body) g.1)) ∙ written_read n m.body (rw b) in
    let f : r (type_by c n) (flag_in c n) ≡ false = sym (ap₂ r (type_read c n m.body e) (flag_read c n m.body e)) ∙ not-true q t.1 in
    rw (t.0, f) (ap (with_body m.format m.control m.address) e)

-- a message's bytes from the numbers of its first four and next seven
frame : ℕ → ℕ → List ℕ
frame h n = sealed_by (bytes_of 4 h ++ bytes_of 7 n)

frame_bytes : (h n : ℕ) → Bytes (frame h n)
unfolding frame
frame_bytes h n =
    let m : (x : ℕ) → x % 256 < 256 = λ x. omega arith in
    fit_bytes 14 (frame h n) (m _, (m _, (m _, (m _, (m _, (m _, (m _, (m _, (m _, (m _, (m _, (m _, (m _, (m _, tt))))))))))))))

frame_decoded : (h n : ℕ) → h < 2 ^ 32 → n < 2 ^ 56 → decoded (frame h n) ≡ opened (h / 2 ^ 27 % 32) (h / 2 ^ 24 % 8) (h / 1 % 2 ^ 24) n
unfolding frame
frame_decoded h n lh ln =
    let eh : h ≡ number (bytes_of 4 h) % 2 ^ 64 = sym (ap (λ (x : ℕ). x % 2 ^ 64) (number_bytes 4 h lh) ∙ mod-eq_of_lt (omega arith)) in
    let en : n ≡ number (bytes_of 7 n) % 2 ^ 64 = sym (ap (λ (x : ℕ). x % 2 ^ 64) (number_bytes 7 n ln) ∙ mod-eq_of_lt (omega arith)) in
    rw (sealed (bytes_of 4 h ++ bytes_of 7 n)) (sym (ap (λ (f : Frame). opened f.format f.control f.address f.me) (frame_is (frame h n) refl (frame_bytes h n) h n eh en)))

pub message_bytes_lem : (m : Message) → Bytes (message_bytes m)
unfolding frame
message_bytes_lem m = frame_bytes (pack head_widths (head_fields m)) (body_me m.body)

pub encoded_decoded : (m : Message) → message_fits m ≡ true → decoded (message_bytes m) ≡ Ok m
unfolding frame
encoded_decoded m e =
    let b : body_fits m.body ≡ true = fits_body m e in
    let g : Fit head_widths (head_fields m) = fits_fit head_widths (head_fields m) (fits_head m e) in
    let h : ℕ = pack head_widths (head_fields m) in
    let u : unpack head_widths h ≡ head_fields m = unpack_pack head_widths (head_fields m) g in
    frame_decoded h (body_me m.body) (pack_lt head_widths (head_fields m) g) (me_lt m.body b)
    ∙ ap (λ (x : List ℕ). opened (get_or x 0 0) (get_or x 1 0) (get_or x 2 0) (body_me m.body)) u
    ∙ opened_back m (fits_taken m e) b

-- ---- what is decoded is encoded to the same bytes

abbrev Good : List ℕ → Result Message Refusal → Type 0
Good s (Ok m) = (message_fits m ≡ true) × (message_bytes m ≡ s)
Good s (Err r) = Unit

module _ (s : List ℕ) (e : length s ≡ 14) (h : Bytes s) (z : remainder s ≡ 0) where
  head : ℕ
  head = number (take 4 s)

  first : bytes_of 4 head ≡ take 4 s
  unfolding head
  first = subst (λ (k : ℕ). bytes_of k (number (take 4 s)) ≡ take 4 s) (four s e h) (bytes_number (take 4 s) (bytes_take 4 s h))

  next : bytes_of 7 (number (take 7 (drop 4 s))) ≡ take 7 (drop 4 s)
  next =
      subst (λ (k : ℕ). bytes_of k (number (take 7 (drop 4 s))) ≡ take 7 (drop 4 s)) (seven s e h)
      (bytes_number (take 7 (drop 4 s)) (bytes_take 7 (drop 4 s) (bytes_drop 4 s h)))

  framed : (x n : ℕ) → x ≡ head → n ≡ number (take 7 (drop 4 s)) → frame x n ≡ s
  unfolding frame
  framed x n ex en =
      let j : bytes_of 4 x ++ bytes_of 7 n ≡ take 11 s = ap₂ (λ (a b : List ℕ). a ++ b) (ap (bytes_of 4) ex ∙ first) (ap (bytes_of 7) en ∙ next) ∙ sym (take-add 4 7 s) in
      let l : length (drop 11 s) ≡ 3 = omega (arith, length-drop 11 s) in
      let q : remainder (take 11 s ++ drop 11 s) ≡ 0 = ap remainder (take-append-drop 11 s) ∙ z in
      ap sealed_by j ∙ ap (λ (y : List ℕ). take 11 s ++ y) (sym (only_sealed (take 11 s) (drop 11 s) l (bytes_drop 11 s h) q)) ∙ take-append-drop 11 s

  abbrev coarse : Bool
  coarse = coarse_by (bits 1 5 s) (bits 6 8 s)

  body_good : format_taken (bits 1 5 s) (bits 6 8 s) ≡ true → reserved_in (bits 1 5 s) (bits 6 8 s) (bits 33 88 s) ≡ false → (b : Result Body Refusal) → taken_by coarse (bits 33 88 s) ≡ b
      → Good s (with_body (bits 1 5 s) (bits 6 8 s) (bits 9 32 s) b)
  unfolding head frame
  body_good t r (Ok b) p =
      let n : ℕ = bits 33 88 s in
      let g = read_good coarse n b (mod-lt (number s / 2 ^ 24) (lit< tt)) p in
      let f = ap (fits head_widths) (head_is s e h) ∙ unpack_fits head_widths head in (
        both (both f (both (both t (ap not (ap₂ (is_reserved (bits 1 5 s) (bits 6 8 s)) (type_read coarse n b p) (flag_read coarse n b p) ∙ r))) (alike coarse (body_coarse b) (coarse_read coarse n b p)))) g.0,
        framed _ _ (ap (pack head_widths) (head_is s e h) ∙ pack_unpack head_widths head ∙ mod-eq_of_lt (head_lt s e h)) (g.1 ∙ me_is s e h),
      )
  body_good t r (Err q) p = tt

  opened_good : Good s (opened (bits 1 5 s) (bits 6 8 s) (bits 9 32 s) (bits 33 88 s))
  unfolding opened
  opened_good =
      by_test (Good s) (not (format_taken (bits 1 5 s) (bits 6 8 s))) _ _ (λ t. tt)
      (λ t. by_test (Good s) (reserved_in (bits 1 5 s) (bits 6 8 s) (bits 33 88 s)) _ _ (λ r. tt)
      (λ r. body_good (not-false (format_taken (bits 1 5 s) (bits 6 8 s)) t) r (taken_by coarse (bits 33 88 s)) refl))

pub decoded_good : (s : List ℕ) (m : Message) → Bytes s → decoded s ≡ Ok m → (message_fits m ≡ true) × (message_bytes m ≡ s)
decoded_good s m h d =
    subst (Good s) d
    (by_test (Good s) (not (eqb (length s) 14)) _ _ (λ e. tt)
    (λ e. by_test (Good s) (not (eqb (remainder s) 0)) _ _ (λ z. tt)
    (λ z. opened_good s (eqb-true (length s) 14 (not-false (eqb (length s) 14) e)) h (eqb-true (remainder s) 0 (not-false (eqb (remainder s) 0) z)))))
