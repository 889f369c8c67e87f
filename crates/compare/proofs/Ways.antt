-- The ways through a check: 14, 16, the header's line, and what is left to compare; a lemma for each, so that the definitions stay shut in the proofs of the functions.
-- Assumes nothing.
use Rattle.std.specs.Prelude.{Result, Ok, Err, Option, Some, ⊤}
use Prim.Native.Nat.{ℕ, ◌-◌, ◌≤◌, ◌<◌}
use native.Mathlib.Omega.{arith}
use mathlib.Core.Path.{◌≡◌, refl, sym, ap, ap₂, ◌∙◌}
use mathlib.Core.Logic.{inl, inr}
use mathlib.Core.Bool.{Bool, true, false, cond, not, false≢true}
use mathlib.Core.List.{List, []}
use borrow.Author.Tests.{not-true, not-false, lt-ltb, le-ltb}
use lib.ListN.{length, take, drop, length-replicate}
use Rattle.refusals.specs.declared.Refusal.{Refusal}
use Rattle.refusals.specs.declared.Refusal.TheVariants.{Log, Form}
use Rattle.memory.specs.Offsets.{table_size, whole_places}
use Rattle.table_bytes.specs.Layout.{emptied}
use Rattle.table.specs.Table.{After, after, set_up}
use Rattle.table.proofs.Answers.{set_up_on}
use Rattle.table.proofs.Emptied.{emptied_length}
use Rattle.text.specs.Lines.{field, header_text, line_of, text_in}
use Rattle.feed.specs.Feed.{blocks_in, blocks_into, fed}
use Rattle.feed.proofs.Answers.{fed_bad, fed_refused}
use Rattle.feed.proofs.Lengths.{blocks_length}
use Rattle.text.specs.declared.Line.{Line}
use Rattle.text.proofs.Fits.{line_text_lem}
use Rattle.report.specs.Listing.{header_for, rows_in, header_in}
use Rattle.form.specs.Form.{same, in_form, lines_in}
use Rattle.form.specs.Scan.{part, lines_from, NextLine}
use Rattle.form.proofs.Loops.{from_here}
use Rattle.compare.specs.Compared.{table_of, lines_of, records_of, compared, against, verdict, checked, zeros}

-- ---- the header

abbrev is_given : Result Line Refusal → Bool
is_given (Ok l) = true
is_given (Err r) = false

abbrev given : Result Line Refusal → Line
given (Ok l) = l
given (Err r) = line_of []

module _ (s : List ℕ) (bad : ℕ) (whole : whole_places (length s) ≡ true) {x : Result Line Refusal} (x-is : x ≡ header_in true s bad) where
  here : x ≡ Ok (line_of (header_for true s bad))
  unfolding header_in
  here = x-is ∙ rw whole

  -- a table of whole places has a header
  pub header_given : {A : Type 0} {r : Refusal} → x ≡ Err r → A
  header_given q = absurd (false≢true (ap is_given (sym q ∙ here)))

  -- no header is empty
  some_header : false ≡ same [] (header_for true s bad)
  unfolding header_for header_text field same
  some_header = refl

  module _ {l : Line} (q : x ≡ Ok l) (u : List ℕ) {e : ℕ} (p : NextLine u 0 e) {v : List ℕ} (v_is : v ≡ text_in l) {t : Bool} (t_is : t ≡ same (part 0 e u) v) where
    same_header : t ≡ same (part 0 e u) (header_for true s bad)
    same_header = t_is ∙ ap (same (part 0 e u)) (v_is ∙ ap (λ (y : Result Line Refusal). text_in (given y)) (sym q ∙ here) ∙ line_text_lem (header_for true s bad))

    -- by whether there is a line
    first_differs : NextLine u 0 e → t ≡ false → Ok (Some 1) ≡ against (lines_from u 0) (header_for true s bad) (rows_in true s)
    unfolding against
    first_differs (inl q) f = sym (ap (λ (ls : List (List ℕ)). against ls (header_for true s bad) (rows_in true s)) q.1)
    first_differs (inr q) f =
        sym (ap (λ (ls : List (List ℕ)). against ls (header_for true s bad) (rows_in true s)) q.first
        ∙ ap (λ (b : Bool). cond b (compared 2 (lines_from u e) (rows_in true s)) (Ok (Some 1))) (ap (λ (l : List ℕ). same l (header_for true s bad)) q.text ∙ sym same_header ∙ f))

    first_same : NextLine u 0 e → t ≡ true → {r : Result (Option ℕ) Refusal} → r ≡ compared 2 (lines_from u e) (rows_in true s) → r ≡ against (lines_from u 0) (header_for true s bad) (rows_in true s)
    unfolding against
    first_same (inl q) f g =
        let none : part 0 e u ≡ [] = ap (λ (k : ℕ). take (k - 0) (drop 0 u)) q.0 in
        absurd (false≢true (some_header ∙ ap (λ (l : List ℕ). same l (header_for true s bad)) (sym none) ∙ sym same_header ∙ f))
    first_same (inr q) f g =
        g
        ∙ sym (ap (λ (ls : List (List ℕ)). against ls (header_for true s bad) (rows_in true s)) q.first
        ∙ ap (λ (b : Bool). cond b (compared 2 (lines_from u e) (rows_in true s)) (Ok (Some 1))) (ap (λ (l : List ℕ). same l (header_for true s bad)) q.text ∙ sym same_header ∙ f))

    pub header_differs : not t ≡ true → Ok (Some 1) ≡ against (lines_from u 0) (header_for true s bad) (rows_in true s)
    header_differs f = first_differs p (not-true t f)

    pub header_same : not t ≡ false → {r : Result (Option ℕ) Refusal} → r ≡ compared 2 (lines_from u e) (rows_in true s) → r ≡ against (lines_from u 0) (header_for true s bad) (rows_in true s)
    header_same f = first_same p (not-false t f)

-- a line ends within the text
pub within : (u : List ℕ) {e : ℕ} → NextLine u 0 e → e ≤ length u
within u (inl q) = omega (arith, q.0)
within u (inr q) = q.high

-- ---- ours

whole_256 : whole_places (table_size 256) ≡ true
unfolding whole_places
whole_256 = refl

pub whole_zeros : whole_places (length zeros) ≡ true
whole_zeros = ap whole_places (length-replicate {A = ℕ} (table_size 256) 0) ∙ whole_256

module _ (c : List ℕ) {x : Result ⊤ Refusal} {l : List ℕ} (set : after x l ≡ set_up zeros) where
  pub emptied_is : l ≡ emptied zeros
  emptied_is = ap (λ (y : After (Result ⊤ Refusal)). y.table) (set ∙ sym (set_up_on zeros {t = true} (sym whole_zeros) refl refl))

  pub whole_emptied : whole_places (length l) ≡ true
  whole_emptied = ap (λ (k : List ℕ). whole_places (length k)) emptied_is ∙ ap whole_places (emptied_length zeros) ∙ whole_zeros

  module _ {k : List ℕ} where
    -- a table of 256 places takes the capture
    pub not_refused : {A : Type 0} {r : Refusal} → after (Err r) k ≡ fed l c → A
    not_refused {r = r} q = absurd (false≢true (sym (fed_refused l c r q).0 ∙ whole_emptied))

    module _ {n : ℕ} (q : after (Ok n) k ≡ fed l c) where
      table_is : k ≡ table_of c
      unfolding table_of
      table_is = (fed_bad l c n q).2 ∙ ap (λ (y : List ℕ). blocks_into y c (blocks_in c)) emptied_is

      pub whole_fed : whole_places (length k) ≡ true
      whole_fed = ap (λ (y : List ℕ). whole_places (length y)) (fed_bad l c n q).2 ∙ ap whole_places (blocks_length l c (blocks_in c)) ∙ whole_emptied

      pub verdict_by : (u : List ℕ) {r : Result (Option ℕ) Refusal} → r ≡ against (lines_from u 0) (header_for true k n) (rows_in true k) → r ≡ verdict c u
      unfolding verdict
      verdict_by u e =
          e
          ∙ ap (λ (ps : List (List ℕ)). against (lines_in ps) (header_for true k n) (rows_in true k)) (from_here 10 u 0 0 (omega arith))
          ∙ ap₂ (λ (y : List ℕ) (m : ℕ). against (lines_of u) (header_for true y m) (rows_in true y)) table_is (fed_bad l c n q).1

-- ---- the refusals

module _ (c l : List ℕ) {n : ℕ} (n-is : n ≡ records_of c) where
  pub too_many : 2900 < n → Err Log ≡ checked c l
  unfolding checked
  too_many h = rw (← n-is, lt-ltb 2900 n h)

  module _ (few : n ≤ 2900) {t : Bool} (t_is : t ≡ in_form l) where
    pub out_of_form : not t ≡ true → Err Form ≡ checked c l
    unfolding checked
    out_of_form f = rw (← n-is, le-ltb 2900 n few, ← t_is, f)

    pub both_taken : not t ≡ false → {r : Result (Option ℕ) Refusal} → r ≡ verdict c l → r ≡ checked c l
    unfolding checked
    both_taken f e = e ∙ rw (← n-is, le-ltb 2900 n few, ← t_is, f)
