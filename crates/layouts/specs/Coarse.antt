-- RULES 2.10: the layout of a coarse traffic message, DF 18 with CF 3, by source 002's bit numbers of ME; bit 1 is the highest of the 56. It has no TYPE, and every ME is one.
use Rattle.std.specs.Prelude.{ℕ, List, [], ◌∷◌}
use Rattle.fields.specs.Packing.{me}
use Rattle.layouts.specs.declared.coarse.Coarse.{Coarse}

-- what the bits say
abbrev pub coarse_of : ℕ → Coarse
coarse_of n = record {
  flag = me 1 1 n;
  surveillance = me 2 3 n;
  station = me 4 7 n;
  altitude = me 8 19 n;
  status = me 20 20 n;
  angle = me 21 25 n;
  speed = me 26 31 n;
  f = me 32 32 n;
  latitude = record { 0 = me 33 44 n };
  longitude = record { 0 = me 45 56 n };
}

-- the fields in the order of their bits, and how many bits each has

-- from F on
abbrev pub position_widths : List ℕ
position_widths = 1 ∷ 12 ∷ 12 ∷ []

abbrev pub coarse_widths : List ℕ
coarse_widths = 1 ∷ 2 ∷ 4 ∷ 12 ∷ 1 ∷ 5 ∷ 6 ∷ position_widths

abbrev pub position_fields : Coarse → List ℕ
position_fields b = b.f ∷ b.latitude.0 ∷ b.longitude.0 ∷ []

abbrev pub coarse_fields : Coarse → List ℕ
coarse_fields b = b.flag ∷ b.surveillance ∷ b.station ∷ b.altitude ∷ b.status ∷ b.angle ∷ b.speed ∷ position_fields b
