-- RULES 7.3: whole numbers of either sign: divided and rounded down, the remainder, and rounded to nearest.
use Rattle.std.specs.Prelude.{ℕ, suc, ◌-◌, ◌*◌, ◌/◌, ◌%◌, ℤ, pos, negsuc, ◌+ℤ◌, ◌*ℤ◌}

-- z / d rounded down, also under zero: -(a + 1) / d is -(a / d + 1)
unfoldable pub floor : ℤ → ℕ → ℤ
floor (pos a) d = pos (a / d)
floor (negsuc a) d = negsuc (a / d)

-- z modulo d: what z is above d times z / d rounded down, from 0 to d - 1
unfoldable pub modulo : ℤ → ℕ → ℕ
modulo (pos a) d = a % d
modulo (negsuc a) d = d - suc (a % d)

-- z / d to nearest, half up: z / d + 1/2, rounded down
unfoldable pub nearest : ℤ → ℕ → ℤ
nearest z d = floor (pos 2 *ℤ z +ℤ pos d) (2 * d)
