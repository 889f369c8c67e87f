-- A text's lines, walked by the places where they start: the line there, and the rest.
-- Assumes nothing.
use Prim.Native.Nat.{ℕ, suc, ◌+◌, ◌-◌, ◌≤◌, ◌<◌}
use native.Mathlib.Omega.{arith}
use mathlib.Core.Path.{◌≡◌, refl, sym, ap, ◌∙◌}
use mathlib.Core.Bool.{true, false≢true, and-false}
use mathlib.Core.Logic.{inl, inr}
use mathlib.Core.List.{List, [], ◌∷◌, ◌++◌}
use lib.ListN.{length, take, drop, get_or, length-drop, length-append}
use lib.Seq.{take-suc, get_or-drop, length-take-le}
use Rattle.text.specs.Lines.{newline}
use Rattle.form.specs.Form.{pieces, header_form, body_form, text_form, in_form, lines_in}
use Rattle.form.specs.Scan.{part, pieces_from, lines_from, LineTo, end_of, NextLine}
use Rattle.form.specs.Code.{Ends}
use Rattle.form.proofs.Pieces.{some_piece}
use Rattle.form.proofs.Loops.{past, from_here}

one_more : (a e : ℕ) (s : List ℕ) → a ≤ e → e < length s → get_or s e 0 ≡ 10 → part a e s ++ newline ≡ part a (e + 1) s
one_more a e s l h q =
    let f : a + (e - a) ≡ e = omega arith in
    sym (ap (λ (k : ℕ). take k (drop a s)) (let g : e + 1 - a ≡ suc (e - a) = omega arith in g)
    ∙ take-suc (drop a s) (e - a) 0 (omega (arith, length-drop a s))
    ∙ ap (λ (b : ℕ). part a e s ++ (b ∷ [])) (get_or-drop a s (e - a) 0 ∙ ap (λ (k : ℕ). get_or s k 0) f ∙ q))

lines_cons : (l : List ℕ) (ps : List (List ℕ)) (w : List ℕ) (ws : List (List ℕ)) → ps ≡ w ∷ ws → lines_in (l ∷ ps) ≡ l ∷ lines_in ps
unfolding lines_in
lines_cons l ps w ws e = ap (λ (x : List (List ℕ)). lines_in (l ∷ x)) e ∙ sym (ap (λ (x : List (List ℕ)). l ∷ lines_in x) e)

lines_last : (l : List ℕ) → lines_in (l ∷ []) ≡ []
unfolding lines_in
lines_last l = refl

lines_none : lines_in [] ≡ []
unfolding lines_in
lines_none = refl

module _ (s : List ℕ) (at : ℕ) where
  pub line_past : length s < at → NextLine s at 0
  line_past h = inl (refl, ap lines_in (past 10 s 0 at h) ∙ lines_none)

  pub line_there : (e : ℕ) → Ends 10 s at e → e < length s → get_or s e 0 ≡ 10 → NextLine s at (e + 1)
  line_there e p h q =
      let m = some_piece 10 (drop (e + 1) s) in
      inr (record {
        line = part at e s;
        low = omega (arith, p.low);
        high = omega arith;
        first = ap lines_in p.cut ∙ lines_cons (part at e s) (pieces_from 10 s (e + 1)) m.0 m.1.0 (from_here 10 s 0 (e + 1) (omega arith) ∙ m.1.1);
        text = one_more at e s p.low h q;
      })

  pub line_none : (e : ℕ) → Ends 10 s at e → length s ≤ e → NextLine s at 0
  line_none e p h = inl (refl, ap lines_in (p.cut ∙ ap (λ (x : List (List ℕ)). part at e s ∷ x) (past 10 s 0 (e + 1) (omega arith))) ∙ lines_last (part at e s))

  -- by the answer
  pub no_line : {r : ℕ} → NextLine s at r → r ≡ 0 → lines_from s at ≡ []
  no_line (inl p) e = p.1
  no_line (inr p) e = absurd (let z : ⊥ = omega (arith, p.low) in z)

  pub some_line : {r : ℕ} → NextLine s at r → (r ≡ 0 → ⊥) → LineTo s at r
  some_line (inl p) e = absurd (e p.0)
  some_line (inr p) e = p

  -- as an equation
  next_is : {r : ℕ} → NextLine s at r → r ≡ end_of at (lines_from s at)
  next_is (inl p) = p.0 ∙ sym (ap (end_of at) p.1)
  next_is {r} (inr p) =
      let n = length-take-le (r - at) (drop at s) (omega (arith, length-drop at s, p.high)) in
      let e : r ≡ at + length p.line + 1 = omega (arith, ap length p.text, length-append p.line newline, n, p.low) in
      e ∙ sym (ap (end_of at) p.first)

  pub next_line : {r : ℕ} → NextLine s at r → (r ≡ end_of at (lines_from s at)) × NextLine s at r
  next_line p = (next_is p, p)

-- ---- a text in the form has a line at least, its header

header_there : (ps : List (List ℕ)) → text_form ps ≡ true → (h : List ℕ) × ((ls : List (List ℕ)) × (lines_in ps ≡ h ∷ ls))
unfolding text_form body_form lines_in
header_there [] e = absurd (false≢true e)
header_there (h ∷ []) e = absurd (false≢true (sym (and-false (header_form h)) ∙ e))
header_there (h ∷ m ∷ ms) e = (h, (lines_in (m ∷ ms), refl))

pub some_header : (s : List ℕ) → in_form s ≡ true → (h : List ℕ) × ((ls : List (List ℕ)) × (lines_in (pieces 10 s) ≡ h ∷ ls))
unfolding in_form
some_header s e = header_there (pieces 10 s) e
