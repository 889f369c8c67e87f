-- Two listings of our own, merged: each is one in the form whose lines have the keys of its rows. The lower line first at each step is the order in which rows are put together, and the lines of both are those of all rows.
-- Assumes nothing.
use Prim.Native.Nat.{ℕ, suc, ◌+◌, ◌^◌, ◌≤◌, ◌<◌}
use native.Mathlib.Omega.{arith}
use mathlib.Core.Bool.{Bool, true, false, cond, ◌&&◌}
use mathlib.Core.Path.{◌≡◌, refl, ap, ap₂, sym, ◌∙◌}
use mathlib.Core.List.{List, [], ◌∷◌, ◌++◌}
use lib.Dec.{ltb}
use lib.ListN.{length, length-append}
use borrow.Author.Tests.{eq-eqb, le-leb, lt-ltb, ltb-true, ltb-false}
use Rattle.fields.proofs.Bools.{both}
use Rattle.keys.specs.Keys.{is_key}
use Rattle.keys.proofs.Laws.{never_zero}
use Rattle.text.specs.declared.Row.{Row}
use Rattle.text.specs.Lines.{header_text, row_text}
use Rattle.form.specs.Form.{pieces, same, body_form}
use Rattle.form.specs.Own.{Fitting}
use Rattle.form.proofs.Pieces.{same_self}
use Rattle.form.proofs.OwnLines.{row_line, row_text_lem, header_text_lem, no_rows, row_then, header_then}
use Rattle.report.specs.Listing.{texts}
use Rattle.merge.proofs.Fits.{header_fits}
use Rattle.compare.proofs.Faults.{own_lines, own_lines_lem}
use Rattle.fleet.specs.Together.{listed, put_in, together}
use Rattle.fleet.proofs.Together.{together_length}
use Rattle.merge.specs.Merged.{most, clock_in, bad_in, first_of, others_of, header_of, tracks_of, is_listing, among, in_order, rising, joined, mergeable, merged}
use Rattle.c_fleet.proofs.Rows.{Above, Rising, put_first, after_first}
use Rattle.c_fleet.proofs.Sound.{Sound}
use Rattle.c_fleet.proofs.Lines.{clock_back, bad_back, line_key}

-- ---- rows put together

above_less : (j k : ℕ) → j ≤ k → (xs : List Row) → Above k xs → Above j xs
above_less j k h [] a = tt
above_less j k h (x ∷ xs) a = (omega (arith, a.0), above_less j k h xs a.1)

above_put : (k : ℕ) (x : Row) (ys : List Row) → k < x.key → Above k ys → Above k (put_in x ys)
above_put k x [] h a = (h, tt)
above_put k x (y ∷ ys) h a = by (ltb x.key y.key) (above_put k x ys h a.1)
  where
    by : (b : Bool) → Above k (put_in x ys) → Above k (cond b (x ∷ y ∷ ys) (y ∷ put_in x ys))
    by true more = (h, a)
    by false more = (a.0, more)

above_both : (k : ℕ) (xs ys : List Row) → Above k xs → Above k ys → Above k (together xs ys)
above_both k [] ys a b = b
above_both k (x ∷ xs) ys a b = above_put k x (together xs ys) a.0 (above_both k xs ys a.1 b)

sound_put : (x : Row) (ys : List Row) → (is_key x.key ≡ true) × Fitting x → Sound ys → Sound (put_in x ys)
sound_put x [] p q = (p, tt)
sound_put x (y ∷ ys) p q = by (ltb x.key y.key) (sound_put x ys p q.1)
  where
    by : (b : Bool) → Sound (put_in x ys) → Sound (cond b (x ∷ y ∷ ys) (y ∷ put_in x ys))
    by true more = (p, q)
    by false more = (q.0, more)

sound_both : (xs ys : List Row) → Sound xs → Sound ys → Sound (together xs ys)
sound_both [] ys p q = q
sound_both (x ∷ xs) ys p q = sound_put x (together xs ys) p.0 (sound_both xs ys p.1 q)

sound_above : (xs : List Row) → Sound xs → Above 0 xs
sound_above [] p = tt
sound_above (x ∷ xs) p = (never_zero x.key p.0.0, sound_above xs p.1)

-- ---- the lines of both

module _ (x : Row) (xs : List Row) (its : is_key x.key ≡ true) (above : Above x.key xs)
    (more : (ys : List Row) → Sound ys → Rising ys → in_order (own_lines xs) (own_lines ys) ≡ own_lines (together xs ys)) where
  put_among : (ys : List Row) → Sound ys → Rising ys → among (row_line x) (in_order (own_lines xs)) (own_lines ys) ≡ own_lines (put_in x (together xs ys))
  unfolding own_lines
  put_among [] q s = ap (λ (l : List (List ℕ)). row_line x ∷ l) (more [] tt tt) ∙ ap own_lines (sym (put_first x (together xs []) (above_both x.key xs [] above tt)))
  put_among (y ∷ ys) q s =
      ap (λ (b : Bool). cond b (row_line x ∷ in_order (own_lines xs) (own_lines (y ∷ ys))) (row_line y ∷ among (row_line x) (in_order (own_lines xs)) (own_lines ys)))
      (ap₂ ltb (line_key x its) (line_key y q.0.0))
      ∙ by (ltb x.key y.key) refl (put_among ys q.1 s.1)
    where
      by : (b : Bool) → ltb x.key y.key ≡ b → among (row_line x) (in_order (own_lines xs)) (own_lines ys) ≡ own_lines (put_in x (together xs ys))
          → cond b (row_line x ∷ in_order (own_lines xs) (own_lines (y ∷ ys))) (row_line y ∷ among (row_line x) (in_order (own_lines xs)) (own_lines ys)) ≡ own_lines (put_in x (together xs (y ∷ ys)))
      by true e rest =
          let l : x.key < y.key = ltb-true x.key y.key e in
          ap (λ (z : List (List ℕ)). row_line x ∷ z) (more (y ∷ ys) q s)
          ∙ ap own_lines (sym (put_first x (together xs (y ∷ ys)) (above_both x.key xs (y ∷ ys) above (l, above_less x.key y.key (omega arith) ys s.0))))
      by false e rest =
          let l : y.key ≤ x.key = ltb-false x.key y.key e in
          ap (λ (z : List (List ℕ)). row_line y ∷ z) rest
          ∙ ap own_lines
          (sym (ap (put_in x) (after_first y xs ys (above_less y.key x.key l xs above)) ∙ ap (λ (b : Bool). cond b (x ∷ y ∷ together xs ys) (y ∷ put_in x (together xs ys))) e))

lines_both : (xs ys : List Row) → Sound xs → Sound ys → Rising xs → Rising ys → in_order (own_lines xs) (own_lines ys) ≡ own_lines (together xs ys)
unfolding own_lines
lines_both [] ys p q r s = refl
lines_both (x ∷ xs) ys p q r s = put_among x xs p.0.0 r.0 (λ zs u v. lines_both xs zs p.1 u r.1 v) ys q s

lines_rise : (k : ℕ) (xs : List Row) → Sound xs → Above k xs → Rising xs → rising k (own_lines xs) ≡ true
unfolding rising own_lines
lines_rise k [] p a r = refl
lines_rise k (x ∷ xs) p a r =
    ap (λ (n : ℕ). ltb k n && rising n (own_lines xs)) (line_key x p.0.0) ∙ both (lt-ltb k x.key a.0) (lines_rise x.key xs p.1 r.0 r.1)

lines_text : (xs : List Row) → joined (own_lines xs) ≡ texts xs
unfolding joined own_lines texts
lines_text [] = refl
lines_text (x ∷ xs) = ap₂ (λ (l m : List ℕ). l ++ m) (sym (row_text_lem x)) (lines_text xs)

lines_many : (xs : List Row) → length (own_lines xs) ≡ length xs
unfolding own_lines
lines_many [] = refl
lines_many (x ∷ xs) = ap suc (lines_many xs)

-- ---- one listing

texts_form : (xs : List Row) → Sound xs → body_form (pieces 10 (texts xs)) ≡ true
unfolding texts
texts_form [] p = no_rows
texts_form (x ∷ xs) p = row_then x p.0.1 (texts xs) (texts_form xs p.1)

module _ (clock bad : ℕ) (xs : List Row) (p : Sound xs) (c : clock < 2 ^ 64) (m : length xs < 2 ^ 64) (b : bad < 2 ^ 64) where
  abbrev text : List ℕ
  text = listed clock xs bad

  header_is : header_of text ≡ header_text clock (length xs) bad
  header_is = ap first_of (own_lines_lem clock (length xs) bad xs) ∙ sym (header_text_lem clock (length xs) bad)

  tracks_are : tracks_of text ≡ own_lines xs
  tracks_are = ap others_of (own_lines_lem clock (length xs) bad xs)

  clock_is : clock_in (header_of text) ≡ clock
  clock_is = ap clock_in header_is ∙ clock_back clock (length xs) bad c

  bad_is : bad_in (header_of text) ≡ bad
  bad_is = ap bad_in header_is ∙ bad_back clock (length xs) bad b

  many_are : length (tracks_of text) ≡ length xs
  many_are = ap length tracks_are ∙ lines_many xs

  is_listing_lem : is_listing text ≡ true
  unfolding is_listing
  is_listing_lem =
      both (header_then clock (length xs) bad (omega arith) (omega arith) (omega arith) (texts xs) (texts_form xs p))
      (ap₂ same header_is (ap (λ (n : ℕ). header_text n (length (tracks_of text)) (bad_in (header_of text))) clock_is ∙ ap₂ (λ (n k : ℕ). header_text clock n k) many_are bad_is)
      ∙ same_self (header_text clock (length xs) bad))

-- ---- two

module _ (clock bad bad' : ℕ) (xs ys : List Row) (p : Sound xs) (q : Sound ys) (r : Rising xs) (s : Rising ys) (once : Rising (together xs ys))
    (c : clock < 2 ^ 64) (m : length xs < 2 ^ 64) (n : length ys < 2 ^ 64) (b : bad + bad' < 2 ^ 64) where
  abbrev one : List ℕ
  one = listed clock xs bad

  abbrev other : List ℕ
  other = listed clock ys bad'

  both_lines : in_order (tracks_of one) (tracks_of other) ≡ own_lines (together xs ys)
  both_lines =
      ap₂ in_order (tracks_are clock bad xs p c m (omega arith)) (tracks_are clock bad' ys q c n (omega arith)) ∙ lines_both xs ys p q r s

  both_bad : bad_in (header_of one) + bad_in (header_of other) ≡ bad + bad'
  both_bad = ap₂ (λ (x y : ℕ). x + y) (bad_is clock bad xs p c m (omega arith)) (bad_is clock bad' ys q c n (omega arith))

  pub are_one : mergeable one other ≡ true
  unfolding mergeable
  are_one =
      both (both (both (both (is_listing_lem clock bad xs p c m (omega arith)) (is_listing_lem clock bad' ys q c n (omega arith)))
      (eq-eqb _ _ (clock_is clock bad xs p c m (omega arith) ∙ sym (clock_is clock bad' ys q c n (omega arith)))))
      (le-leb (bad_in (header_of one) + bad_in (header_of other)) most (omega (arith, both_bad))))
      (ap (rising 0) both_lines ∙ lines_rise 0 (together xs ys) (sound_both xs ys p q) (sound_above (together xs ys) (sound_both xs ys p q)) once)

  pub one_text : merged one other ≡ listed clock (together xs ys) (bad + bad')
  unfolding merged
  one_text =
      ap₂ (λ (h t : List ℕ). h ++ t)
      (ap₂ (λ (x k : ℕ). header_text x k (bad_in (header_of one) + bad_in (header_of other))) (clock_is clock bad xs p c m (omega arith))
      (ap₂ (λ (x y : ℕ). x + y) (many_are clock bad xs p c m (omega arith)) (many_are clock bad' ys q c n (omega arith)) ∙ sym (together_length xs ys))
      ∙ ap (header_text clock (length (together xs ys))) both_bad)
      (ap joined both_lines ∙ lines_text (together xs ys))

-- ---- there is room for it

put_long : (x : Row) (ys : List Row) → length (texts (put_in x ys)) ≡ length (row_text x) + length (texts ys)
unfolding texts
put_long x [] = length-append (row_text x) []
put_long x (y ∷ ys) = by (ltb x.key y.key) (put_long x ys)
  where
    by : (b : Bool) → length (texts (put_in x ys)) ≡ length (row_text x) + length (texts ys)
        → length (texts (cond b (x ∷ y ∷ ys) (y ∷ put_in x ys))) ≡ length (row_text x) + length (row_text y ++ texts ys)
    by true e = length-append (row_text x) (row_text y ++ texts ys)
    by false e = omega (arith, length-append (row_text y) (texts (put_in x ys)), length-append (row_text y) (texts ys))

texts_long : (xs ys : List Row) → length (texts (together xs ys)) ≡ length (texts xs) + length (texts ys)
unfolding texts
texts_long [] ys = omega arith
texts_long (x ∷ xs) ys = omega (arith, put_long x (together xs ys), texts_long xs ys, length-append (row_text x) (texts xs))

pub text_room : (clock bad bad' : ℕ) (xs ys : List Row) → length (listed clock (together xs ys) (bad + bad')) ≤ length (listed clock xs bad) + length (listed clock ys bad')
text_room clock bad bad' xs ys =
    let many = ap (λ (k : ℕ). length (header_text clock k (bad + bad'))) (together_length xs ys) in
    omega (
      arith,
      many,
      header_fits clock (length xs) (length ys) bad bad',
      texts_long xs ys,
      length-append (header_text clock (length (together xs ys)) (bad + bad')) (texts (together xs ys)),
      length-append (header_text clock (length xs) bad) (texts xs),
      length-append (header_text clock (length ys) bad') (texts ys),
    )
