-- RULES 2.6 and 2.7: the layouts of ME but for those of velocity, status and coarse messages, by bit numbers of ME; bit 1 is the highest of the 56.
use Rattle.std.specs.Prelude.{ℕ, List, [], ◌∷◌, Bool, ◌&&◌, ◌||◌, leb, eqb}
use Rattle.fields.specs.Packing.{me}
use Rattle.layouts.specs.declared.identification.Identification.{Identification}
use Rattle.layouts.specs.declared.surface.Surface.{Surface}
use Rattle.layouts.specs.declared.airborne.Airborne.{Airborne}

-- ---- which layout a TYPE has

abbrev pub is_identification : ℕ → Bool
is_identification type = leb 1 type && leb type 4

abbrev pub is_surface : ℕ → Bool
is_surface type = leb 5 type && leb type 8

abbrev pub is_airborne_position : ℕ → Bool
is_airborne_position type = (leb 9 type && leb type 18) || (leb 20 type && leb type 22)

-- TYPE 0 has no position, but this layout
abbrev pub is_airborne : ℕ → Bool
is_airborne type = eqb type 0 || is_airborne_position type

-- position messages, on the surface or in the air
abbrev pub is_position : ℕ → Bool
is_position type = is_surface type || is_airborne_position type

-- ---- what the bits say

abbrev pub identification_of : ℕ → Identification
identification_of n = record { typecode = me 1 5 n; category = me 6 8 n; characters = me 9 56 n }

abbrev pub surface_of : ℕ → Surface
surface_of n = record {
  typecode = me 1 5 n;
  movement = me 6 12 n;
  status = me 13 13 n;
  heading = me 14 20 n;
  t = me 21 21 n;
  f = me 22 22 n;
  latitude = record { 0 = me 23 39 n };
  longitude = record { 0 = me 40 56 n };
}

abbrev pub airborne_of : ℕ → Airborne
airborne_of n = record {
  typecode = me 1 5 n;
  surveillance = me 6 7 n;
  bit8 = me 8 8 n;
  altitude = me 9 20 n;
  t = me 21 21 n;
  f = me 22 22 n;
  latitude = record { 0 = me 23 39 n };
  longitude = record { 0 = me 40 56 n };
}

-- ---- the fields in the order of their bits, and how many bits each has

abbrev pub identification_widths : List ℕ
identification_widths = 5 ∷ 3 ∷ 48 ∷ []

abbrev pub identification_fields : Identification → List ℕ
identification_fields b = b.typecode ∷ b.category ∷ b.characters ∷ []

abbrev pub surface_widths : List ℕ
surface_widths = 5 ∷ 7 ∷ 1 ∷ 7 ∷ 1 ∷ 1 ∷ 17 ∷ 17 ∷ []

abbrev pub surface_fields : Surface → List ℕ
surface_fields b = b.typecode ∷ b.movement ∷ b.status ∷ b.heading ∷ b.t ∷ b.f ∷ b.latitude.0 ∷ b.longitude.0 ∷ []

abbrev pub airborne_widths : List ℕ
airborne_widths = 5 ∷ 2 ∷ 1 ∷ 12 ∷ 1 ∷ 1 ∷ 17 ∷ 17 ∷ []

abbrev pub airborne_fields : Airborne → List ℕ
airborne_fields b =
    b.typecode ∷ b.surveillance ∷ b.bit8 ∷ b.altitude ∷ b.t ∷ b.f ∷ b.latitude.0 ∷ b.longitude.0 ∷ []
