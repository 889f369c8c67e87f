-- Every line fits into its 128 bytes, and its first bytes are its text: each number has at most 20 digits, and the lengths are added.
-- Assumes nothing.
use Rattle.std.specs.Prelude.{Option, Some, None}
use Prim.Native.Nat.{ℕ, ◌+◌, ◌-◌, ◌≤◌, ◌<◌}
use mathlib.Core.Path.{◌≡◌, sym, ap, ap₂, ◌∙◌}
use mathlib.Core.Bool.{Bool, true, false, cond}
use mathlib.Core.List.{List, [], ◌∷◌, ◌++◌}
use native.Mathlib.Omega.{arith}
use lib.IntN.{ℤ, pos, nat_abs}
use lib.Signed.{lt_z}
use lib.ListN.{length, take, drop, replicate, length-append, length-replicate, replicate-append-replicate}
use lib.Seq.{take-append_seam, drop_at}
use Rattle.keys.specs.Keys.{letter_in, address_in, coarse_in, flag_in, station_in}
use Rattle.text.specs.Numbers.{decimal, hex, minus, signed}
use Rattle.text.specs.Lines.{space, newline, field, figure, clock_label, tracks_label, bad_label, header_text, sender_text, key_text, row_text, line_room, line_of, text_in}
use Rattle.text.specs.Code.{Wrote}
use Rattle.text.specs.declared.Line.{Line}
use Rattle.text.specs.declared.Row.{Row}
use Rattle.text.proofs.Buffer.{text_first}
use Rattle.text.proofs.Digits.{decimal_most, decimal_short, hex_length}

field_most : (label : List ℕ) (n : ℕ) → length (field label n) ≤ length label + 20
unfolding field
field_most label n = omega (arith, length-append label (decimal n), decimal_most n)

signed_most : (z : ℤ) → length (signed z) ≤ 21
unfolding signed
signed_most z = by (lt_z z (pos 0))
  where
    by : (t : Bool) → length (cond t (minus ++ decimal (nat_abs z)) (decimal (nat_abs z))) ≤ 21
    by true = omega (arith, length-append minus (decimal (nat_abs z)), decimal_most (nat_abs z))
    by false = omega (arith, decimal_most (nat_abs z))

figure_most : (f : Option ℤ) → length (figure f) ≤ 22
unfolding figure
figure_most None = omega arith
figure_most (Some z) = omega (arith, length-append space (signed z), signed_most z)

-- a flag or a station behind a space has at most two digits
short_most : (n : ℕ) → n < 100 → length (field space n) ≤ 3
unfolding field
short_most n h = omega (arith, length-append space (decimal n), decimal_short n h)

sender_most : (key : ℕ) → length (sender_text key) ≤ 6
unfolding sender_text
sender_most key = by (coarse_in key)
  where
    by : (t : Bool) → length (cond t (field space (flag_in key) ++ field space (station_in key)) []) ≤ 6
    by true =
        omega (
          arith,
          length-append (field space (flag_in key)) (field space (station_in key)),
          short_most (flag_in key) (omega arith),
          short_most (station_in key) (omega arith),
        )
    by false = omega arith

pub key_most : (key : ℕ) → length (key_text key) ≤ 14
unfolding key_text
key_most key =
    let l : List ℕ = letter_in key ∷ [] in
    let h : List ℕ = hex 6 (address_in key) in
    omega (
      arith,
      length-append (l ++ space ++ h) (sender_text key),
      length-append (l ++ space) h,
      hex_length 6 (address_in key),
      sender_most key,
    )

-- the header has at most 87 bytes
pub header_most : (clock tracks bad : ℕ) → length (header_text clock tracks bad) ≤ 87
unfolding header_text
header_most clock tracks bad =
    let c : List ℕ = field clock_label clock in
    let t : List ℕ = field tracks_label tracks in
    let b : List ℕ = field bad_label bad in
    omega (
      arith,
      length-append (c ++ t ++ b) newline,
      length-append (c ++ t) b,
      length-append c t,
      field_most clock_label clock,
      field_most tracks_label tracks,
      field_most bad_label bad,
    )

-- a track's line has at most 124
pub row_most : (r : Row) → length (row_text r) ≤ 124
unfolding row_text
row_most r =
    let k : List ℕ = key_text r.key in
    let h : List ℕ = field space r.heard in
    let y : List ℕ = figure r.latitude in
    let x : List ℕ = figure r.longitude in
    let a : List ℕ = figure r.altitude in
    let s : List ℕ = figure r.step in
    omega (
      arith,
      length-append (k ++ h ++ y ++ x ++ a ++ s) newline,
      length-append (k ++ h ++ y ++ x ++ a) s,
      length-append (k ++ h ++ y ++ x) a,
      length-append (k ++ h ++ y) x,
      length-append (k ++ h) y,
      length-append k h,
      key_most r.key,
      field_most space r.heard,
      figure_most r.latitude,
      figure_most r.longitude,
      figure_most r.altitude,
      figure_most r.step,
    )

drop_zeros : (n m : ℕ) → n ≤ m → drop {A = ℕ} n (replicate m 0) ≡ replicate (m - n) 0
drop_zeros n m h =
    let e : m ≡ n + (m - n) = omega arith in
    ap (λ (k : ℕ). drop {A = ℕ} n (replicate k 0)) e
    ∙ ap (drop n) (sym (replicate-append-replicate {A = ℕ} n (m - n) 0))
    ∙ drop_at (replicate n 0) (replicate (m - n) 0) n (length-replicate n 0)

-- no text is cut off
pub line_text_lem : (text : List ℕ) → text_in (line_of text) ≡ text
unfolding line_of
line_text_lem text = take-append_seam text (replicate (line_room - length text) 0)

-- what is written from the start of zeros is the line
pub line_made : {text : List ℕ} {n : ℕ} {l : List ℕ} → length text ≤ line_room → Wrote (replicate line_room 0) 0 text n l → ◌≡◌ {A = Line} (record { bytes = l; len = n }) (line_of text)
unfolding line_of
line_made {text} {n} {l} h w =
    ap₂ (λ (b : List ℕ) (k : ℕ). record { bytes = b; len = k })
    (w.text ∙ text_first (replicate line_room 0) text (omega (arith, length-replicate {A = ℕ} line_room 0)) ∙ ap (λ (r : List ℕ). text ++ r) (drop_zeros (length text) line_room h))
    (let e : n ≡ length text = omega (arith, w.next) in e)

-- .. and its first bytes are the text
pub line_kept : {text : List ℕ} {n : ℕ} {l : List ℕ} → length text ≤ line_room → Wrote (replicate line_room 0) 0 text n l → take n l ≡ text
line_kept {text} {n} {l} h w = ap text_in (line_made h w) ∙ line_text_lem text

pub line_long : {text : List ℕ} {n : ℕ} {l : List ℕ} → length text ≤ line_room → Wrote (replicate line_room 0) 0 text n l → n ≤ length l
unfolding line_of
line_long {text} h w = omega (arith, w.next, ap (λ (x : Line). length x.bytes) (line_made h w), length-append text (replicate (line_room - length text) 0))
