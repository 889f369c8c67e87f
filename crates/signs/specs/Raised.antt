-- RULES 20.2: a number of 32 bits that can be below zero, 2^32 up, so that it is not.
use Rattle.std.specs.Prelude.{ℕ, suc, ◌+◌, ◌-◌, ℤ, pos, negsuc}

-- here negsuc a is -(a + 1)
abbrev pub raised : ℤ → ℕ
raised (pos a) = a + 4294967296
raised (negsuc a) = 4294967296 - suc a
