-- The bytes of a row's line are its text.
-- Assumes nothing.
use Prim.Native.Nat.{ℕ, ◌-◌, ◌≤◌}
use native.Mathlib.Omega.{arith}
use mathlib.Core.Path.{◌≡◌, ap, ◌∙◌}
use mathlib.Core.List.{List, ◌++◌}
use lib.ListN.{length, take, drop, replicate, length-append}
use Rattle.text.specs.declared.Line.{Line}
use Rattle.text.specs.Lines.{line_room, line_of, text_in}
use Rattle.text.proofs.Fits.{line_text_lem}
use Rattle.form.specs.Form.{same}

module _ (text : List ℕ) {l : Line} (e : l ≡ line_of text) where
  pub line_holds : l.len ≤ length l.bytes
  unfolding line_of
  line_holds =
      let p : l.len ≡ length text = ap (λ (x : Line). x.len) e in
      let q : length l.bytes ≡ length (text ++ replicate (line_room - length text) 0) = ap (λ (x : Line). length x.bytes) e in
      omega (arith, length-append text (replicate (line_room - length text) 0))

  pub line_same : (a : List ℕ) → same a (take (l.len - 0) (drop 0 l.bytes)) ≡ same a text
  line_same a =
      ap (λ (k : ℕ). same a (take k l.bytes)) (let p : l.len - 0 ≡ l.len = omega arith in p)
      ∙ ap (λ (x : Line). same a (text_in x)) e
      ∙ ap (same a) (line_text_lem text)
