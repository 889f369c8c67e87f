-- RULES 2.8: the layouts of velocity, TYPE 19, by bit numbers of ME; bit 1 is the highest of the 56.
use Rattle.std.specs.Prelude.{ℕ, List, [], ◌∷◌, Bool, ◌&&◌, leb, eqb}
use Rattle.fields.specs.Packing.{me}
use Rattle.layouts.specs.declared.velocity.Vertical.{Vertical}
use Rattle.layouts.specs.declared.velocity.Ground.{Ground}
use Rattle.layouts.specs.declared.velocity.Air.{Air}

-- ---- which subtypes are over ground, and which through air

abbrev pub is_ground : ℕ → ℕ → Bool
is_ground type subtype = eqb type 19 && leb 1 subtype && leb subtype 2

abbrev pub is_air : ℕ → ℕ → Bool
is_air type subtype = eqb type 19 && leb 3 subtype && leb subtype 4

-- ---- what the bits say

abbrev pub vertical_of : ℕ → Vertical
vertical_of n = record {
  source = me 36 36 n;
  down = me 37 37 n;
  rate = me 38 46 n;
  reserved = me 47 48 n;
  below = me 49 49 n;
  difference = me 50 56 n;
}

abbrev pub ground_of : ℕ → Ground
ground_of n = record {
  typecode = me 1 5 n;
  subtype = me 6 8 n;
  bit9 = me 9 9 n;
  bit10 = me 10 10 n;
  nacv = me 11 13 n;
  west = me 14 14 n;
  eastward = me 15 24 n;
  south = me 25 25 n;
  northward = me 26 35 n;
  vertical = vertical_of n;
}

abbrev pub air_of : ℕ → Air
air_of n = record {
  typecode = me 1 5 n;
  subtype = me 6 8 n;
  bit9 = me 9 9 n;
  bit10 = me 10 10 n;
  nacv = me 11 13 n;
  status = me 14 14 n;
  heading = me 15 24 n;
  airspeedkind = me 25 25 n;
  airspeed = me 26 35 n;
  vertical = vertical_of n;
}

-- ---- the fields in the order of their bits, and how many bits each has

abbrev pub vertical_widths : List ℕ
vertical_widths = 1 ∷ 1 ∷ 9 ∷ 2 ∷ 1 ∷ 7 ∷ []

abbrev pub vertical_fields : Vertical → List ℕ
vertical_fields b = b.source ∷ b.down ∷ b.rate ∷ b.reserved ∷ b.below ∷ b.difference ∷ []

abbrev pub velocity_widths : List ℕ
velocity_widths = 5 ∷ 3 ∷ 1 ∷ 1 ∷ 3 ∷ 1 ∷ 10 ∷ 1 ∷ 10 ∷ vertical_widths

abbrev pub ground_fields : Ground → List ℕ
ground_fields b =
    b.typecode ∷ b.subtype ∷ b.bit9 ∷ b.bit10 ∷ b.nacv ∷
    b.west ∷ b.eastward ∷ b.south ∷ b.northward ∷ vertical_fields b.vertical

abbrev pub air_fields : Air → List ℕ
air_fields b =
    b.typecode ∷ b.subtype ∷ b.bit9 ∷ b.bit10 ∷ b.nacv ∷
    b.status ∷ b.heading ∷ b.airspeedkind ∷ b.airspeed ∷ vertical_fields b.vertical
