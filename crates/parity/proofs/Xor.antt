-- Laws of the exclusive-or: an element that comes twice goes.
-- Assumes nothing.
use Prim.Native.Nat.{ℕ}
use mathlib.Core.Path.{◌≡◌, sym, ap, ◌∙◌}
use lib.Bits.{bit_xor, xor_comm, xor_self, xor_zero_l, xor_zero_r}
use Rattle.std.specs.Int.Bits.{xor_assoc}

pub swap : (a b c : ℕ) → bit_xor (bit_xor a b) c ≡ bit_xor (bit_xor a c) b
swap a b c = xor_assoc a b c ∙ ap (bit_xor a) (xor_comm b c) ∙ sym (xor_assoc a c b)

pub twice : (x y g : ℕ) → bit_xor x y ≡ bit_xor (bit_xor x g) (bit_xor y g)
twice x y g =
    sym (xor_assoc x g (bit_xor y g)
    ∙ ap (bit_xor x) (ap (bit_xor g) (xor_comm y g) ∙ sym (xor_assoc g g y) ∙ ap (λ (w : ℕ). bit_xor w y) (xor_self g) ∙ xor_zero_l y))

pub xor_zero : (a b : ℕ) → bit_xor a b ≡ 0 → b ≡ a
xor_zero a b e =
    sym (xor_zero_l b) ∙ ap (λ (x : ℕ). bit_xor x b) (sym (xor_self a)) ∙ xor_assoc a a b ∙ ap (bit_xor a) e ∙ xor_zero_r a
