-- RULES 14.4 and 14.5: when a line of another listing agrees with a row of ours: it is the row's line with a latitude and a longitude within one unit, around the circle for longitude; "-" only with "-"; every other column is equal.
use Rattle.std.specs.Prelude.{ℕ, ◌+◌, ◌%◌, ◌<◌, ◌≡◌, ◌⊎◌, Bool, cond, ◌||◌, List, ℤ, pos, ◌+ℤ◌, ◌-ℤ◌, Option, Some, None}
use Rattle.std.specs.Int.Signed.{lt_z}
use Rattle.text.specs.declared.Row.{Row}
use Rattle.text.specs.Lines.{row_text}
use Rattle.form.specs.Form.{same}

-- a row of ours at another place
abbrev pub placed : Row → Option ℤ → Option ℤ → Row
placed r y x = record { key = r.key; heard = r.heard; latitude = y; longitude = x; altitude = r.altitude; step = r.step }

-- ---- in the words of RULES 14.4

-- equal, or one unit apart
abbrev pub UnitApart : ℤ → ℤ → Type 0
UnitApart a b = (a ≡ b) ⊎ ((a ≡ b +ℤ pos 1) ⊎ (a ≡ b -ℤ pos 1))

pub data Latitudes : Option ℤ → Option ℤ → Type 0 where
  no_latitude : Latitudes None None
  latitude_within : {a b : ℤ} → UnitApart a b → Latitudes (Some a) (Some b)

-- equal, or one unit apart on a circle of 2^32, and below 2^32
abbrev pub CircleApart : ℕ → ℕ → Type 0
CircleApart a b = (a < 4294967296) × ((a ≡ b) ⊎ ((a ≡ (b + 1) % 4294967296) ⊎ ((a + 1) % 4294967296 ≡ b)))

pub data Longitudes : Option ℤ → Option ℤ → Type 0 where
  no_longitude : Longitudes None None
  longitude_within : {a b : ℕ} → CircleApart a b → Longitudes (Some (pos a)) (Some (pos b))

pub record Agrees (line : List ℕ) (r : Row) : Type 0 where
  pub latitude : Option ℤ
  pub longitude : Option ℤ
  pub north : Latitudes latitude r.latitude
  pub east : Longitudes longitude r.longitude
  pub text : line ≡ row_text (placed r latitude longitude)

-- ---- computed: at most nine texts

-- a unit up and down; a number that has none within 63 bits stays, and none of ours is near there
abbrev pub up : ℤ → ℤ
up z = cond (lt_z z (pos 4611686018427387904)) (z +ℤ pos 1) z

abbrev pub down : ℤ → ℤ
down z = cond (lt_z (pos 0 -ℤ pos 4611686018427387904) z) (z -ℤ pos 1) z

-- .. around the circle
abbrev pub east : ℤ → ℤ
east z = cond (lt_z z (pos 4294967295)) (up z) (pos 0)

abbrev pub west : ℤ → ℤ
west z = cond (lt_z (pos 0) z) (down z) (pos 4294967295)

-- a figure's neighbour: what is unknown has none but itself
abbrev pub moved : (ℤ → ℤ) → Option ℤ → Option ℤ
moved step None = None
moved step (Some z) = Some (step z)

unfoldable pub shows : List ℕ → Row → Option ℤ → Option ℤ → Bool
shows line r y x = same line (row_text (placed r y x))

unfoldable pub along : List ℕ → Row → Option ℤ → Bool
along line r y = shows line r y (moved west r.longitude) || shows line r y r.longitude || shows line r y (moved east r.longitude)

unfoldable pub agrees_of : List ℕ → Row → Bool
agrees_of line r = along line r (moved down r.latitude) || along line r r.latitude || along line r (moved up r.latitude)
