-- The two's complement of a number of 32 bits is what its cast to 64 bits without a sign is, by the sign.
-- Assumes nothing.
use mathlib.Core.Path.{◌≡◌, refl}
use lib.IntN.{ℤ, pos, negsuc}
use mir.Syntax.{w64}
use mir.Val.{of_z}
use Rattle.entries.specs.Twos.{twos}

pub twos_is : (z : ℤ) → of_z w64 z ≡ twos z
unfolding twos
twos_is (pos a) = refl
twos_is (negsuc a) = refl

-- -1 has all 64 bits, and not 32; the least number of 32 bits keeps its size
pub all_ones : (twos (negsuc 0) ≡ 0xFFFF_FFFF_FFFF_FFFF) × (twos (negsuc 0x7FFF_FFFF) ≡ 0xFFFF_FFFF_8000_0000)
unfolding twos
all_ones = (refl, refl)
