-- RULES 20.2: a signed number in 64 bits without a sign.
use Rattle.std.specs.Prelude.{ℕ, suc, ◌-◌, ◌^◌, ℤ, pos, negsuc}

-- two's complement: a number below zero is 2^64 up. Here negsuc n is -(n + 1)
unfoldable pub twos : ℤ → ℕ
twos (pos n) = n
twos (negsuc n) = 2 ^ 64 - suc n
