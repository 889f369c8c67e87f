-- A text's header and its other lines, by the place where the first line ends; and what the header's fields say.
-- Assumes nothing.
use Prim.Native.Nat.{ℕ, ◌-◌, ◌≤◌}
use native.Mathlib.Omega.{arith}
use mathlib.Core.Path.{◌≡◌, sym, ap, ap₂, ◌∙◌}
use mathlib.Core.Bool.{Bool, ◌&&◌}
use mathlib.Core.Logic.{inl, inr}
use mathlib.Core.List.{List}
use lib.ListN.{length, take, drop}
use lib.Seq.{length-take-le}
use Rattle.text.specs.declared.Line.{Line}
use Rattle.text.specs.Lines.{header_text, line_of, text_in}
use Rattle.form.specs.Form.{pieces, same, in_form, lines_in}
use Rattle.form.specs.Scan.{part, lines_from, NextLine}
use Rattle.form.proofs.Loops.{from_here}
use Rattle.text.proofs.Fits.{line_text_lem}
use Rattle.merge.specs.declared.head.Field.{Field}
use Rattle.merge.specs.Merged.{number_from, behind, clock_in, bad_in, first_of, others_of, header_of, tracks_of, is_listing}
use Rattle.merge.specs.Code.{FieldAt, HeadOf}

lines_here : (s : List ℕ) → lines_from s 0 ≡ lines_in (pieces 10 s)
lines_here s = ap lines_in (from_here 10 s 0 0 (omega arith))

module _ (s : List ℕ) {e : ℕ} where
  pub end_high : NextLine s 0 e → e ≤ length s
  end_high (inl p) = omega (arith, p.0)
  end_high (inr p) = p.high

  pub header_part : NextLine s 0 e → header_of s ≡ part 0 e s
  header_part (inl p) = ap first_of (sym (lines_here s) ∙ p.1) ∙ sym (ap (λ (k : ℕ). part 0 k s) p.0)
  header_part (inr p) = ap first_of (sym (lines_here s) ∙ p.first) ∙ p.text

  pub tracks_from : NextLine s 0 e → lines_from s e ≡ tracks_of s
  tracks_from (inl p) = ap (lines_from s) p.0 ∙ p.1 ∙ sym (ap others_of (sym (lines_here s) ∙ p.1))
  tracks_from (inr p) = sym (ap others_of (sym (lines_here s) ∙ p.first))

  part_long : e ≤ length s → length (part 0 e s) ≡ e
  part_long h = length-take-le (e - 0) s (omega arith) ∙ (let q : e - 0 ≡ e = omega arith in q)

  pub header_long : NextLine s 0 e → length (header_of s) ≡ e
  header_long n = ap length (header_part n) ∙ part_long (end_high n)

-- ---- the fields

pub clock_read : {h : List ℕ} {x : Field} → FieldAt h 0 6 x → x.value ≡ clock_in h
unfolding clock_in
clock_read f = f.value

pub bad_read : {h : List ℕ} {x y z : Field} → FieldAt h 0 6 x → FieldAt h x.end 8 y → FieldAt h y.end 12 z → z.value ≡ bad_in h
unfolding bad_in
bad_read f g k = k.value ∙ ap (λ (t : List ℕ). number_from 0 (drop 12 t)) (g.rest ∙ ap (λ (t : List ℕ). behind (drop 8 t)) f.rest)

-- ---- what `head_of` says

pub headed : (s : List ℕ) {e tracks : ℕ} {x y z : Field} {l : Line} {in-form sames : Bool} → NextLine s 0 e
    → tracks ≡ length (lines_from s e) → tracks ≤ length s
    → FieldAt (part 0 e s) 0 6 x → FieldAt (part 0 e s) x.end 8 y → FieldAt (part 0 e s) y.end 12 z
    → l ≡ line_of (header_text x.value tracks z.value) → in-form ≡ in_form s → sames ≡ same (part 0 e s) (text_in l)
    → HeadOf s (record { right = in-form && sames; end = e; clock = x.value; tracks = tracks; bad = z.value })
unfolding is_listing
headed s {e} {tracks} {x} {y} {z} {l} {in-form} {sames} n t few f g k i p q =
    let h = header_part s n in
    let c : x.value ≡ clock_in (header_of s) = clock_read f ∙ sym (ap clock_in h) in
    let b : z.value ≡ bad_in (header_of s) = bad_read f g k ∙ sym (ap bad_in h) in
    let w : tracks ≡ length (tracks_of s) = t ∙ ap length (tracks_from s n) in
    let same_text : sames ≡ same (header_of s) (header_text (clock_in (header_of s)) (length (tracks_of s)) (bad_in (header_of s))) =
    q
    ∙ ap (same (part 0 e s)) (ap text_in i ∙ line_text_lem _)
    ∙ ap (λ (a : List ℕ). same a (header_text x.value tracks z.value)) (sym h)
    ∙ ap (same (header_of s)) (ap₂ (λ (a d : ℕ). header_text a tracks d) c b ∙ ap (λ (a : ℕ). header_text (clock_in (header_of s)) a (bad_in (header_of s))) w) in
    record {
      right = ap₂ (λ (a d : Bool). a && d) p same_text;
      high = end_high s n;
      lines = tracks_from s n;
      header = header_long s n;
      clock = c;
      tracks = w;
      few = few;
      bad = b;
    }
