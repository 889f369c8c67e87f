-- The ways in which `merge` ends, each with what its steps have said: a wrong length, texts that cannot be one, and both as one in the buffer.
-- Assumes nothing.
use Rattle.std.specs.Prelude.{Ok, Err}
use Prim.Native.Nat.{ℕ, zero, suc, ◌+◌, ◌-◌, ◌≤◌}
use native.Mathlib.Omega.{arith}
use mathlib.Core.Path.{◌≡◌, refl, sym, ap, ap₂, ◌∙◌}
use mathlib.Core.Bool.{Bool, true, false, ◌&&◌}
use mathlib.Core.List.{List, [], ◌∷◌, ◌++◌, append_assoc, append-nil}
use borrow.Author.Tests.{eq-eqb, ne_eqb, eqb-true, leb-true}
use lib.Dec.{eqb, leb}
use lib.ListN.{length, take, drop, set, length-append}
use lib.Seq.{sets}
use Rattle.refusals.specs.declared.Refusal.TheVariants.{Length, Form}
use Rattle.entries.specs.Arrays.{filled}
use Rattle.text.specs.declared.Line.{Line}
use Rattle.text.specs.Lines.{header_text, line_of, text_in, text_in}
use Rattle.text.specs.Code.{written, Wrote}
use Rattle.text.proofs.Fits.{line_text_lem}
use Rattle.fields.proofs.Bools.{each, and-false}
use Rattle.form.specs.Form.{same, in_form}
use Rattle.form.specs.Scan.{lines_from}
use Rattle.form.proofs.Loops.{same_equal}
use Rattle.merge.specs.declared.head.Head.{Head}
use Rattle.merge.specs.Merged.{most, clock_in, bad_in, header_of, tracks_of, is_listing, in_order, rising, joined, mergeable, merged, left, merged_into}
use Rattle.merge.specs.Code.{HeadOf}
use Rattle.merge.proofs.Fits.{header_fits}

-- ---- refusals

pub wrong_length : (a b out : List ℕ) → (length out ≡ length a + length b → ⊥) → left (Err Length) out ≡ merged_into a b out
unfolding merged_into
wrong_length a b out n = sym (simp (ne_eqb (length out) (length a + length b) n))

pub no_one : (a b out : List ℕ) → length out ≡ length a + length b → mergeable a b ≡ false → left (Err Form) out ≡ merged_into a b out
unfolding merged_into
no_one a b out e m = sym (simp (eq-eqb (length out) (length a + length b) e, m))

-- ---- what two heads say

abbrev heads : Head → Head → Bool
heads x y = x.right && y.right && eqb x.clock y.clock && leb (x.bad + y.bad) most

module _ {a b : List ℕ} {x y : Head} (p : HeadOf a x) (q : HeadOf b y) where
  by_heads : mergeable a b ≡ heads x y && rising 0 (in_order (lines_from a x.end) (lines_from b y.end))
  unfolding mergeable
  by_heads = cc (p.right, q.right, p.clock, q.clock, p.bad, q.bad, p.lines, q.lines)

  pub heads_apart : heads x y ≡ false → mergeable a b ≡ false
  heads_apart e = by_heads ∙ ap (λ (t : Bool). t && rising 0 (in_order (lines_from a x.end) (lines_from b y.end))) e

  pub keys_apart : rising 0 (in_order (lines_from a x.end) (lines_from b y.end)) ≡ false → mergeable a b ≡ false
  keys_apart e = by_heads ∙ ap (λ (t : Bool). heads x y && t) e ∙ and-false (heads x y)

  pub sums_fit : heads x y ≡ true → x.bad + y.bad ≤ most
  sums_fit e = leb-true _ _ (each (x.right && y.right && eqb x.clock y.clock) (leb (x.bad + y.bad) most) e).1

  clocks_same : heads x y ≡ true → x.clock ≡ y.clock
  clocks_same e = eqb-true _ _ (each (x.right && y.right) (eqb x.clock y.clock) (each (x.right && y.right && eqb x.clock y.clock) (leb (x.bad + y.bad) most) e).0).1

  both_right : heads x y ≡ true → (x.right ≡ true) × (y.right ≡ true)
  both_right e = each x.right y.right (each (x.right && y.right) (eqb x.clock y.clock) (each (x.right && y.right && eqb x.clock y.clock) (leb (x.bad + y.bad) most) e).0).0

-- the header of a listing is as long as that of its numbers
header_is : {s : List ℕ} {x : Head} → HeadOf s x → x.right ≡ true → x.end ≡ length (header_text x.clock x.tracks x.bad)
unfolding is_listing
header_is {s} {x} p e =
    let r = each (in_form s) (same (header_of s) (header_text (clock_in (header_of s)) (length (tracks_of s)) (bad_in (header_of s)))) (sym p.right ∙ e) in
    let h = ap length (same_equal (header_of s) (header_text (clock_in (header_of s)) (length (tracks_of s)) (bad_in (header_of s))) r.1) in
    let c = ap₂ (λ (u v : ℕ). length (header_text u (length (tracks_of s)) v)) p.clock p.bad in
    let t = ap (λ (u : ℕ). length (header_text x.clock u x.bad)) p.tracks in
    sym p.header ∙ h ∙ sym (t ∙ c)

pub header_room : {a b : List ℕ} {x y : Head} → HeadOf a x → HeadOf b y → heads x y ≡ true
    → length (header_text x.clock (x.tracks + y.tracks) (x.bad + y.bad)) ≤ x.end + y.end
header_room {a} {b} {x} {y} p q e =
    let r = both_right p q e in
    let c = ap (λ (u : ℕ). length (header_text u y.tracks y.bad)) (clocks_same p q e) in
    omega (arith, header_fits x.clock x.tracks y.tracks x.bad y.bad, header_is p r.0, header_is q r.1, c)

-- ---- the text in the buffer

one_set : (n : ℕ) (t : List ℕ) (w : ℕ) → set (filled n t) (length t) w ≡ filled n (t ++ (w ∷ []))
one_set zero [] w = refl
one_set (suc n) [] w = refl
one_set zero (x ∷ t) w = refl
one_set (suc n) (x ∷ t) w = ap (λ (l : List ℕ). x ∷ l) (one_set n t w)

filled_then : (n : ℕ) (t ws : List ℕ) → sets (filled n t) (length t) ws ≡ filled n (t ++ ws)
filled_then n t [] = ap (filled n) (sym (append-nil t))
filled_then n t (w ∷ ws) =
    let e : suc (length t) ≡ length (t ++ (w ∷ [])) = sym (length-append t (w ∷ []) ∙ (let q : length t + 1 ≡ suc (length t) = omega arith in q)) in
    ap₂ (λ (l : List ℕ) (k : ℕ). sets l k ws) (one_set n t w) e
    ∙ filled_then n (t ++ (w ∷ [])) ws
    ∙ ap (filled n) (append_assoc t (w ∷ []) ws)

pub line_length : (text : List ℕ) {l : Line} → l ≡ line_of text → l.len ≡ length text
unfolding line_of
line_length text e = ap (λ (x : Line). x.len) e

pub both_one : {a b : List ℕ} {x y : Head} → HeadOf a x → HeadOf b y → (out : List ℕ) → length out ≡ length a + length b → heads x y ≡ true
    → rising 0 (in_order (lines_from a x.end) (lines_from b y.end)) ≡ true
    → {l : Line} → l ≡ line_of (header_text x.clock (x.tracks + y.tracks) (x.bad + y.bad))
    → {t one two : List ℕ} {r : ℕ} → t ≡ text_in l → one ≡ filled (length out) t
    → Wrote one l.len (joined (in_order (lines_from a x.end) (lines_from b y.end))) r two
    → left (Ok r) two ≡ merged_into a b out
unfolding merged_into merged written
both_one {a} {b} {x} {y} p q out e h k {l} i {t} {one} {two} {r} g f w =
    let head = header_text x.clock (x.tracks + y.tracks) (x.bad + y.bad) in
    let lines = joined (in_order (lines_from a x.end) (lines_from b y.end)) in
    let m : mergeable a b ≡ true = by_heads p q ∙ ap₂ (λ (s t : Bool). s && t) h k in
    let n = line_length head i in
    let text : head ++ lines ≡ merged a b = cc (p.clock, p.bad, q.bad, p.tracks, q.tracks, p.lines, q.lines) in
    let put : two ≡ filled (length out) (head ++ lines) =
    w.text ∙ ap₂ (λ (s : List ℕ) (j : ℕ). sets s j lines) (f ∙ ap (filled (length out)) (g ∙ ap text_in i ∙ line_text_lem head)) n ∙ filled_then (length out) head lines in
    let long : r ≡ length (head ++ lines) = w.next ∙ ap (λ (j : ℕ). j + length lines) n ∙ sym (length-append head lines) in
    ap₂ (λ (j : ℕ) (s : List ℕ). left (Ok j) s) (long ∙ ap length text) (put ∙ ap (filled (length out)) text)
    ∙ sym (simp (eq-eqb (length out) (length a + length b) e, m))
