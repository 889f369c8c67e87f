-- A row laid into an array in three parts, each of which is filled.
-- Assumes nothing.
use Prim.Native.Nat.{ℕ, ◌+◌, ◌-◌, ◌≤◌}
use mathlib.Core.Path.{◌≡◌, refl, sym, ap, ap₂, ◌∙◌}
use mathlib.Core.Bool.{Bool}
use mathlib.Core.List.{List, [], ◌∷◌, ◌++◌, append_assoc, append-nil}
use native.Mathlib.Omega.{arith}
use lib.Dec.{eqb}
use lib.ListN.{length, drop, length-append, length-drop, drop_of_length-le}
use lib.Seq.{take_at, drop_at}
use borrow.Rule.Slice.PartMut.{mid_of, put_mid, mid_len, same_len_mid}
use Rattle.entries.proofs.Filling.{filled_zeros}
use borrow.Author.Tests.{eq-eqb, ne_eqb}
use Rattle.entries.specs.Arrays.{filled}
use Rattle.layouts.specs.declared.bodies.Layout.{Layout}
use Rattle.layouts.specs.Bodies.{layout_widths, taken_as}
use Rattle.fields.specs.Packing.{unpack}
use Rattle.rows.specs.declared.message.Four.{Four}
use Rattle.rows.specs.Rows.{layout_number, row_of, four_in, four_values, me_row, row_into}
use Rattle.rows.proofs.Cutting.{chosen, length_filled, filled_all}

-- ---- the row of an ME

-- the next part is put behind those that are there
put_next : (p r y : List ℕ) (a k : ℕ) → length p ≡ a → put_mid a k (p ++ r) y ≡ (p ++ y) ++ drop k r
put_next p r y a k e =
    ap₂ (λ (x z : List ℕ). x ++ (y ++ drop k z)) (take_at p r a e) (drop_at p r a e) ∙ sym (append_assoc p y (drop k r))

pub row_length : (l : Layout) (a b c d : ℕ) (fields : List ℕ) (four : Four) → length (row_of l (a ∷ b ∷ c ∷ d ∷ []) fields four) ≡ 28
unfolding row_of
row_length l a b c d fields four = omega (arith, length-append (filled 15 fields) (four_values four), length_filled 15 fields)

pub row_kept : (out row : List ℕ) → (length out ≡ 28 → ⊥) → out ≡ row_into out row
row_kept out row h = rw (ne_eqb (length out) 28 h)

mid_length : (a k : ℕ) (l : List ℕ) → a + k ≤ length l → length (mid_of a k l) ≡ k
mid_length a k l h =
    let less : (a + k) - a ≡ k = omega arith in
    ap (λ (n : ℕ). length (mid_of a n l)) (sym less) ∙ mid_len a (a + k) l h ∙ less

-- an array keeps its length where a part of it is filled
pub put_length : (a k : ℕ) (out values y : List ℕ) → y ≡ filled (length (mid_of a k out)) values → length (put_mid a k out y) ≡ length out
put_length a k out values y e = same_len_mid a k out y (ap length e ∙ length_filled (length (mid_of a k out)) values)

-- three parts of an array, of a, b and c entries, each filled, are the three lists one after the other
module _ (a b c : ℕ) (out : List ℕ) (size : length out ≡ a + b + c) (h f r : List ℕ) where
  abbrev one : List ℕ
  one = put_mid 0 a out h

  abbrev two : List ℕ
  two = put_mid a b one f

  pub parts : (x y z : List ℕ) → length x ≡ a → length y ≡ b → length z ≡ c
      → h ≡ filled (length (mid_of 0 a out)) x → f ≡ filled (length (mid_of a b one)) y → r ≡ filled (length (mid_of (a + b) c two)) z
      → put_mid (a + b) c two r ≡ x ++ (y ++ z)
  parts x y z l m n p q e =
      let left : List ℕ = drop b (drop a out) in
      let hs : h ≡ x = p ∙ ap (λ (k : ℕ). filled k x) (mid_length 0 a out (omega arith) ∙ sym l) ∙ filled_all x in
      let hl : length h ≡ a = ap length hs ∙ l in
      let ol : a + b ≤ length one = omega (arith, length-append h (drop a out), length-drop a out) in
      let fs : f ≡ y = q ∙ ap (λ (k : ℕ). filled k y) (mid_length a b one ol ∙ sym m) ∙ filled_all y in
      let fl : length f ≡ b = ap length fs ∙ m in
      let t : two ≡ (h ++ f) ++ left = put_next h (drop a out) f a b hl in
      let hf : length (h ++ f) ≡ a + b = omega (arith, length-append h f) in
      let tl : a + b + c ≤ length two = omega (arith, ap length t, length-append (h ++ f) left, length-drop b (drop a out), length-drop a out) in
      let rs : r ≡ z = e ∙ ap (λ (k : ℕ). filled k z) (mid_length (a + b) c two tl ∙ sym n) ∙ filled_all z in
      let none : drop c left ≡ [] = drop_of_length-le left {i = c} (omega (arith, length-drop b (drop a out), length-drop a out)) in
      ap (λ (l : List ℕ). put_mid (a + b) c l r) t
      ∙ put_next (h ++ f) left r (a + b) c hf
      ∙ ap (λ (l : List ℕ). ((h ++ f) ++ r) ++ l) none
      ∙ append-nil ((h ++ f) ++ r)
      ∙ append_assoc h f r
      ∙ rw (hs, fs, rs)

module _ (out : List ℕ) (size : length out ≡ 28) (h f r : List ℕ) where
  pub row_put : (l : Layout) (n k : ℕ) (traffic : Bool) (four : Four) → k ≡ layout_number l → four ≡ four_in (taken_as l n) traffic
      → h ≡ filled (length (mid_of 0 5 out)) (k ∷ []) → f ≡ filled (length (mid_of 5 15 (put_mid 0 5 out h))) (filled 15 (unpack (layout_widths l) n))
      → r ≡ filled (length (mid_of 20 8 (put_mid 5 15 (put_mid 0 5 out h) f))) (four_values four)
      → put_mid 20 8 (put_mid 5 15 (put_mid 0 5 out h) f) r ≡ row_into out (me_row l n traffic)
  unfolding row_of
  row_put l n k traffic four a b p q e =
      let fields : List ℕ = filled 15 (unpack (layout_widths l) n) in
      let zeros = filled_zeros (length (mid_of 0 5 out)) (k ∷ []) 4 in
      parts 5 15 8 out size h f r (k ∷ 0 ∷ 0 ∷ 0 ∷ 0 ∷ []) fields (four_values four) refl (length_filled 15 (unpack (layout_widths l) n)) refl (p ∙ sym zeros) q e
      ∙ ap₂ (λ (x : ℕ) (y : Four). x ∷ 0 ∷ 0 ∷ 0 ∷ 0 ∷ (fields ++ four_values y)) a b
      ∙ sym (chosen (eqb (length out) 28) (me_row l n traffic) out (eq-eqb (length out) 28 size))
