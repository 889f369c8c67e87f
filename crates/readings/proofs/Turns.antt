-- A part of a turn fits 32 bits.
-- Assumes nothing.
use Prim.Native.Nat.{ℕ, ◌+◌, ◌-◌, ◌*◌, ◌^◌, ◌%◌, ◌<◌, ◌≤◌}
use mathlib.Core.Path.{◌≡◌, ap, subst, sym, ◌∙◌}
use native.Mathlib.Nat.{mod-eq_of_lt, mul-lt-mul_of_pos_right}
use native.Mathlib.Omega.{arith}
use lib.Pow.{pow_pos, pow-add}

turn_lt : (bits code : ℕ) → bits ≤ 32 → code < 2 ^ bits → code * 2 ^ (32 - bits) < 2 ^ 32
turn_lt bits code b h =
    let whole : 2 ^ bits * 2 ^ (32 - bits) ≡ 2 ^ 32 = sym (pow-add 2 bits (32 - bits)) ∙ ap (λ (k : ℕ). 2 ^ k) {y = 32} (omega arith) in
    subst (λ (n : ℕ). code * 2 ^ (32 - bits) < n) whole (mul-lt-mul_of_pos_right h (pow_pos (32 - bits)))

pub turn_kept : (bits code : ℕ) → bits ≤ 32 → code < 2 ^ bits → code * 2 ^ (32 - bits) % 4294967296 ≡ code * 2 ^ (32 - bits)
turn_kept bits code b h = mod-eq_of_lt (turn_lt bits code b h)
