-- RULES 8.13, 8.14 and 20.5: what people are shown of a track, 18 readings: entries of the rows of the MEs that last gave identification, velocity and surface fields. Where none did, or one of another layout stands, they are unknown. Of kind C the velocity is a coarse message's ME, whatever its bits.
use Rattle.std.specs.Prelude.{ℕ, suc, ◌+◌, ◌*◌, Bool, false, cond, ◌||◌, List, [], ◌∷◌, ◌++◌, eqb, get_or, replicate}
use Rattle.keys.specs.declared.Kind.{Kind}
use Rattle.keys.specs.Keys.{is_traffic, is_coarse}
use Rattle.layouts.specs.declared.bodies.Layout.TheVariants as layout
use Rattle.layouts.specs.Bodies.{layout_by}
use Rattle.track.specs.declared.Track.{Track}
use Rattle.track.specs.Track.{no_saved}
use Rattle.rows.specs.Rows.{layout_number, fields_at, readings_at, me_row}

-- the row of an ME by itself, a coarse message's or another's, of a key that a traffic service sends or of another
abbrev pub row_in : Bool → Bool → ℕ → List ℕ
row_in coarse traffic n = me_row (layout_by coarse n) n traffic

-- field k of the row, counted from 0 in the order of its bits, as a reading that is known
abbrev pub known_at : List ℕ → ℕ → List ℕ
known_at row k = 1 ∷ get_or row (fields_at + k) 0 ∷ []

-- its reading k, counted from 0
abbrev pub reading_at : List ℕ → ℕ → List ℕ
reading_at row k = get_or row (readings_at + 2 * k) 0 ∷ get_or row (suc (readings_at + 2 * k)) 0 ∷ []

-- so many readings that are unknown
abbrev pub unknown : ℕ → List ℕ
unknown n = replicate (n + n) 0

-- the row is that of a layout
abbrev pub is_of : ℕ → List ℕ → Bool
is_of number row = eqb (get_or row 0 0) number

-- callsign, category set, category
unfoldable pub named : List ℕ → List ℕ
named row = cond (is_of (layout_number layout.Identification) row) (reading_at row 1 ++ reading_at row 0 ++ known_at row 1) (unknown 3)

-- the source of a vertical rate, which a traffic service does not send
unfoldable pub source : Bool → List ℕ → List ℕ
source traffic row = cond traffic (unknown 1) (known_at row 9)

-- speed to the east, to the north; heading, its status, airspeed, its kind; the vertical rate, its source
unfoldable pub moving : Bool → List ℕ → List ℕ
moving traffic row =
    cond (is_of (layout_number layout.Ground) row) (reading_at row 0 ++ reading_at row 1 ++ unknown 4 ++ reading_at row 2 ++ source traffic row)
    (cond (is_of (layout_number layout.Air) row) (unknown 2 ++ reading_at row 0 ++ known_at row 5 ++ reading_at row 1 ++ known_at row 7 ++ reading_at row 2 ++ source traffic row)
    (unknown 8))

-- whether the last position message came from the ground: one from the air leaves an encoded position, and one from the ground clears both
unfoldable pub on_ground : Bool → List ℕ → List ℕ
on_ground encoded row = cond encoded (1 ∷ 0 ∷ []) (cond (is_of (layout_number layout.Surface) row) (1 ∷ 1 ∷ []) (unknown 1))

-- movement, heading, its status
unfoldable pub taxiing : List ℕ → List ℕ
taxiing row = cond (is_of (layout_number layout.Surface) row) (reading_at row 0 ++ reading_at row 1 ++ known_at row 2) (unknown 3)

-- track angle, its status, speed: of a coarse message
unfoldable pub going : List ℕ → List ℕ
going row = cond (is_of (layout_number layout.Coarse) row) (reading_at row 2 ++ known_at row 4 ++ reading_at row 3) (unknown 3)

-- an encoded position is saved
abbrev pub is_saved : Track → Bool
is_saved t = (get_or t.saved 0 no_saved).known || (get_or t.saved 1 no_saved).known

-- whether it is on the ground
abbrev pub ground_of : Bool → Track → List ℕ
ground_of traffic t = on_ground (is_saved t) (row_in false traffic t.groups.surface)

-- of a track of a kind
unfoldable pub shown : Kind → Track → List ℕ
shown kind t =
    let traffic : Bool = is_traffic kind in
    let velocity : List ℕ = row_in (is_coarse kind) traffic t.groups.velocity in
    named (row_in false traffic t.groups.identification)
    ++ (moving traffic velocity ++ (ground_of traffic t ++ (taxiing (row_in false traffic t.groups.surface) ++ going velocity)))
