-- The laws of the walk over a line's words and a text's lines: a piece passed, and the rest.
-- Assumes nothing.
use Prim.Native.Nat.{ℕ, suc, ◌+◌, ◌-◌, ◌<◌, ◌≤◌}
use mathlib.Core.Path.{◌≡◌, refl, sym, ap, ap₂, ◌∙◌}
use mathlib.Core.Bool.{Bool, true, false, ◌&&◌, ◌||◌, and-false}
use mathlib.Core.List.{List, [], ◌∷◌}
use native.Mathlib.Omega.{arith}
use borrow.Author.Tests.{eqb-true, eqb-false, ne_eqb, eq-eqb, ltb-true, ltb-false}
use lib.Dec.{eqb, ltb}
use lib.ListN.{length, drop, get_or, length-take, length-drop, drop_of_length-le}
use lib.Seq.{drop-cons}
use Rattle.form.specs.Form.{pieces, same, clock_word, tracks_word, bad_word, fits, all_fit, is_kind, is_coarse, is_address, is_figure, header_form, line_form, lines_form, body_form, text_form, in_form}
use Rattle.form.specs.declared.words.Sort as code
use Rattle.form.specs.declared.words.Sort.TheVariants as sort
use Rattle.form.specs.Scan.{part, pieces_from}
use Rattle.form.specs.Code.{Ends, sort_of, sorts_of}
use Rattle.form.proofs.Pieces.{some_piece}
use Rattle.form.proofs.Loops.{past, from_here, same_length}

-- ---- words

module _ (line : List ℕ) (sorts : List code.Sort) where
  -- what is left to test
  abbrev pub left : ℕ → ℕ → Bool
  left i at = all_fit (sorts_of (drop i sorts)) (pieces_from 32 line at)

  sorts_cons : (i : ℕ) → i < length sorts → sorts_of (drop i sorts) ≡ sort_of (get_or sorts i sort.Kind) ∷ sorts_of (drop (suc i) sorts)
  unfolding sorts_of
  sorts_cons i h = ap sorts_of (drop-cons sorts i sort.Kind h)

  pub left_first : all_fit (sorts_of sorts) (pieces 32 line) ≡ left 0 0
  left_first = ap (all_fit (sorts_of sorts)) (sym (from_here 32 line 0 0 (omega arith)))

  pub left_short : (i at : ℕ) → i < length sorts → length line < at → left i at ≡ false
  unfolding all_fit
  left_short i at h l = ap₂ all_fit (sorts_cons i h) (past 32 line 0 at l)

  head : (i at e : ℕ) → i < length sorts → Ends 32 line at e → left i at ≡ (fits (sort_of (get_or sorts i sort.Kind)) (part at e line) && left (suc i) (e + 1))
  unfolding all_fit
  head i at e h p = ap₂ all_fit (sorts_cons i h) p.cut

  pub left_stops : (i at e : ℕ) → i < length sorts → Ends 32 line at e → fits (sort_of (get_or sorts i sort.Kind)) (part at e line) ≡ false → left i at ≡ false
  left_stops i at e h p f = head i at e h p ∙ ap (λ (t : Bool). t && left (suc i) (e + 1)) f

  pub left_on : (i at e : ℕ) → i < length sorts → Ends 32 line at e → fits (sort_of (get_or sorts i sort.Kind)) (part at e line) ≡ true → left i at ≡ left (i + 1) (e + 1)
  left_on i at e h p f = head i at e h p ∙ ap (λ (t : Bool). t && left (suc i) (e + 1)) f ∙ ap (λ (k : ℕ). left k (e + 1)) (let q : suc i ≡ i + 1 = omega arith in q)

  none_left : (ps : List (List ℕ)) (w : List ℕ) (ws : List (List ℕ)) → ps ≡ w ∷ ws → all_fit [] ps ≡ false
  unfolding all_fit
  none_left ps w ws e = ap (all_fit []) e

  ends_by : (i at : ℕ) (t : Bool) → ltb (length line) at ≡ t → all_fit [] (pieces_from 32 line at) ≡ t
  unfolding all_fit
  ends_by i at true e = ap (all_fit []) (past 32 line 0 at (ltb-true (length line) at e))
  ends_by i at false e =
      let p = some_piece 32 (drop at line) in
      none_left (pieces_from 32 line at) p.0 p.1.0 (from_here 32 line 0 at (ltb-false (length line) at e) ∙ p.1.1)

  pub left_ends : (i at : ℕ) → length sorts ≤ i → left i at ≡ ltb (length line) at
  unfolding sorts_of
  left_ends i at h = ap (λ (x : List code.Sort). all_fit (sorts_of x) (pieces_from 32 line at)) (drop_of_length-le sorts {i = i} h) ∙ ends_by i at (ltb (length line) at) refl

-- ---- lines

pub header_fits : (l : List ℕ) → all_fit (sorts_of (sort.Clock ∷ sort.Figure ∷ sort.Tracks ∷ sort.Figure ∷ sort.BadBlocks ∷ sort.Figure ∷ [])) (pieces 32 l) ≡ header_form l
unfolding sorts_of header_form
header_fits l = refl

pub line_fits : (l : List ℕ) {a b : Bool} → a ≡ all_fit (sorts_of (sort.Kind ∷ sort.Address ∷ sort.Figure ∷ sort.Figure ∷ sort.Figure ∷ sort.Figure ∷ sort.Figure ∷ [])) (pieces 32 l)
    → b ≡ all_fit (sorts_of (sort.Coarse ∷ sort.Address ∷ sort.Figure ∷ sort.Figure ∷ sort.Figure ∷ sort.Figure ∷ sort.Figure ∷ sort.Figure ∷ sort.Figure ∷ [])) (pieces 32 l) → a || b ≡ line_form l
unfolding sorts_of line_form
line_fits l p q = ap₂ ◌||◌ p q

module _ (s : List ℕ) where
  abbrev pub body : ℕ → Bool
  body at = body_form (pieces_from 10 s at)

  pub header_cut : (e : ℕ) → Ends 10 s 0 e → in_form s ≡ (header_form (part 0 e s) && body (e + 1))
  unfolding in_form text_form
  header_cut e p = ap text_form (sym (from_here 10 s 0 0 (omega arith)) ∙ p.cut)

  more_lines : (l : List ℕ) (ps : List (List ℕ)) (w : List ℕ) (ws : List (List ℕ)) → ps ≡ w ∷ ws → body_form (l ∷ ps) ≡ (line_form l && body_form ps)
  unfolding body_form lines_form
  more_lines l ps w ws e = ap (λ (x : List (List ℕ)). body_form (l ∷ x)) e ∙ sym (ap (λ (x : List (List ℕ)). line_form l && body_form x) e)

  last_line : (l : List ℕ) (ps : List (List ℕ)) → ps ≡ [] → (length l ≡ 0 → ⊥) → body_form (l ∷ ps) ≡ (line_form l && body_form ps)
  unfolding body_form lines_form
  last_line l ps e h =
      ap (λ (x : List (List ℕ)). body_form (l ∷ x)) e ∙ sym (same_length l [] h) ∙ sym (ap (λ (x : List (List ℕ)). line_form l && body_form x) e ∙ and-false (line_form l))

  body_by : (at e : ℕ) → at < length s → Ends 10 s at e → (t : Bool) → ltb e (length s) ≡ t → body_form (part at e s ∷ pieces_from 10 s (e + 1)) ≡ (line_form (part at e s) && body (e + 1))
  body_by at e h p true l =
      let q = some_piece 10 (drop (e + 1) s) in
      more_lines (part at e s) (pieces_from 10 s (e + 1)) q.0 q.1.0 (from_here 10 s 0 (e + 1) (omega (arith, ltb-true e (length s) l)) ∙ q.1.1)
  body_by at e h p false l =
      let m = ltb-false e (length s) l in
      last_line (part at e s) (pieces_from 10 s (e + 1)) (past 10 s 0 (e + 1) (omega arith))
      (λ z. omega (arith, length-take (e - at) (drop at s), length-drop at s, p.high))

  pub body_cut : (at e : ℕ) → at < length s → Ends 10 s at e → body at ≡ (line_form (part at e s) && body (e + 1))
  body_cut at e h p = ap body_form p.cut ∙ body_by at e h p (ltb e (length s)) refl

  body_last : (at : ℕ) → at ≡ length s → body at ≡ true
  unfolding body_form lines_form pieces same
  body_last at h = ap body_form (from_here 10 s 0 at (omega arith) ∙ ap (pieces 10) (drop_of_length-le s {i = at} (omega arith)))

  body_past : (at : ℕ) → length s < at → body at ≡ false
  unfolding body_form
  body_past at h = ap body_form (past 10 s 0 at h)

  ends_by_2 : (at : ℕ) → length s ≤ at → (t : Bool) → eqb at (length s) ≡ t → body at ≡ t
  ends_by_2 at h true e = body_last at (eqb-true at (length s) e)
  ends_by_2 at h false e = body_past at (omega (arith, eqb-false at (length s) e))

  pub body_ends : (at : ℕ) → length s ≤ at → body at ≡ eqb at (length s)
  body_ends at h = ends_by_2 at h (eqb at (length s)) refl
