-- RULES 12.1 to 12.6: the listing of a table: the header, then the lines of a list of rows, those of the keys held, in the order of the kinds, then by address, each once; of all, or of those with a known position.
use Rattle.std.specs.Prelude.{ℕ, zero, suc, Bool, cond, not, ◌||◌, List, [], ◌∷◌, ◌++◌, eqb, ltb, pos, length, Option, Some, None, Result, Ok, Err, ℤ}
use Rattle.refusals.specs.declared.Refusal.TheVariants.{Places}
use Rattle.refusals.specs.declared.Refusal.{Refusal}
use Rattle.readings.specs.declared.altitude.Altitude.{Altitude}
use Rattle.readings.specs.Altitude.{altitude_of}
use Rattle.whereabouts.specs.declared.Position.{Position}
use Rattle.track.specs.declared.Track.{Track}
use Rattle.text.specs.declared.Line.{Line}
use Rattle.text.specs.declared.Row.{Row}
use Rattle.text.specs.Lines.{header_text, row_text, line_of}
use Rattle.memory.specs.Offsets.{whole_places, places_in}
use Rattle.rules.specs.Form.{is_held}
use Rattle.table_bytes.specs.Layout.{clock_of, key_at}
use Rattle.table.specs.Bytes.{bytes}
use Rattle.table.specs.View.{view}

-- ---- what a line says of a track

-- RULES 7.6: latitude signed, longitude from 0
unfoldable pub latitude_in : Position → Option ℤ
latitude_in p = cond p.known (Some p.spot.latitude) None

unfoldable pub longitude_in : Position → Option ℤ
longitude_in p = cond p.known (Some (pos p.spot.longitude)) None

-- RULES 12.5: in feet; a code wider than 12 bits, which no body of a table has, is unknown
unfoldable pub feet : Result (Option Altitude) Refusal → Option ℤ
feet (Ok (Some a)) = Some a.feet
feet (Ok None) = None
feet (Err r) = None

-- RULES 6.6 and 12.5: how coarse it is, in feet; unknown has no step
unfoldable pub step_in : Result (Option Altitude) Refusal → Option ℤ
step_in (Ok (Some a)) = Some (pos a.step)
step_in (Ok None) = None
step_in (Err r) = None

-- last heard, latitude, longitude, pressure altitude and its step
abbrev pub row_from : ℕ → ℕ → Position → ℕ → Row
row_from key heard p pressure =
    record {
      key = key;
      heard = heard;
      latitude = latitude_in p;
      longitude = longitude_in p;
      altitude = feet (altitude_of pressure);
      step = step_in (altitude_of pressure);
    }

unfoldable pub row_of : ℕ → Track → Row
row_of key t = row_from key t.heard t.position t.groups.pressure

-- ---- the keys that a table holds, whose order is by kind, then by address, of C then by flag and station

-- a key among keys that rise: before the first above it; one that is there already stays there once
unfoldable pub among : ℕ → List ℕ → List ℕ
among key [] = key ∷ []
among key (k ∷ ks) = cond (ltb key k) (key ∷ k ∷ ks) (cond (eqb key k) (k ∷ ks) (k ∷ among key ks))

-- the keys that the first n places hold, rising, each once
unfoldable pub keys_held : List ℕ → ℕ → List ℕ
keys_held s zero = []
keys_held s (suc i) = cond (is_held (clock_of s) (bytes.cell s i)) (among (key_at s i) (keys_held s i)) (keys_held s i)

abbrev pub keys_in : List ℕ → List ℕ
keys_in s = keys_held s (places_in s)

-- ---- the whole listing

-- RULES 12.2: a track is shown if all are asked for, or if its position is known, whatever its age
abbrev pub shown : Bool → Position → Bool
shown all p = all || p.known

-- RULES 12.2: a key's row, if it is held and shown
unfoldable pub row_for : Bool → ℕ → Option Track → Option Row
row_for all key None = None
row_for all key (Some t) = cond (shown all t.position) (Some (row_of key t)) None

abbrev pub as_list : Option Row → List Row
as_list None = []
as_list (Some r) = r ∷ []

-- the rows of some keys, one key after the other
unfoldable pub rows_of : Bool → List ℕ → List ℕ → List Row
rows_of all s [] = []
rows_of all s (key ∷ keys) = as_list (row_for all key (view s key)) ++ rows_of all s keys

-- RULES 12.6: the rows of a table: the keys that it holds, in order; without those that have no position, unless all are asked for
abbrev pub rows_in : Bool → List ℕ → List Row
rows_in all s = rows_of all s (keys_in s)

-- RULES 12.1: their texts, one after the other
unfoldable pub texts : List Row → List ℕ
texts [] = []
texts (r ∷ rs) = row_text r ++ texts rs

-- a key's line, empty if it has no row
abbrev pub line_text : Option Row → List ℕ
line_text None = []
line_text (Some r) = row_text r

abbrev pub line_for : Bool → ℕ → Option Track → List ℕ
line_for all key v = line_text (row_for all key v)

-- RULES 12.1 and 12.3: "tracks" counts the rows
unfoldable pub header_for : Bool → List ℕ → ℕ → List ℕ
header_for all s bad = header_text (clock_of s) (length (rows_in all s)) bad

unfoldable pub listing : Bool → List ℕ → ℕ → List ℕ
listing all s bad = header_for all s bad ++ texts (rows_in all s)

-- ---- what is answered, line by line

-- 7, or the header
unfoldable pub header_in : Bool → List ℕ → ℕ → Result Line Refusal
header_in all s bad = cond (not (whole_places (length s))) (Err Places) (Ok (line_of (header_for all s bad)))

-- the line of a row; none where there is no row
abbrev pub reported : Option Row → Option Line
reported None = None
reported (Some r) = Some (line_of (row_text r))

-- 7, or the line of a key; none for one that is not held or not shown
unfoldable pub line_in : Bool → List ℕ → ℕ → Result (Option Line) Refusal
line_in all s key = cond (not (whole_places (length s))) (Err Places) (Ok (reported (row_for all key (view s key))))
