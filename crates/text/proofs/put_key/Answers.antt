-- `text::put_key` meets its contract: four texts, one after the other.
use native.Mathlib.Omega.{arith}
use mathlib.Core.Path.{ap}
use mathlib.Core.List.{[], ◌∷◌}
use Prim.Native.Nat.{ℕ}
use Rattle.text.specs.Lines.{key_text}
use Rattle.text.specs.Numbers.{hex}
use Rattle.text.proofs.Buffer.{wrote_then, wrote_as}
use Rattle.text.proofs.Digits.{hex_length}
use Rattle.text.proofs.Fits.{key_most}
use Rattle.text.proofs.put_key.Goals as goal

pub put_sender-requires : goal.put_sender-requires
put_sender-requires c = omega (arith, c.put_hex-a.ensures.next, hex_length 6 c.address_in.result)

pub returns : goal.returns
unfolding key_text
returns c =
    let k = wrote_as c.put_byte-a.ensures (ap (λ (x : ℕ). x ∷ []) c.letter_in.ensures) in
    let a = wrote_as c.put_hex-a.ensures (ap (hex 6) c.address_in.ensures) in
    let p = wrote_then (wrote_then (wrote_then k c.put_byte-a-2.ensures) a) c.put_sender.ensures in
    record { wrote = p; upper_bound = omega (arith, p.next, key_most c.args.key) }
