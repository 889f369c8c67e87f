-- What private functions promise to each other: the row of an entry, from its place, and text that grows in a buffer of zeros. No public contract cites this file.
use Rattle.std.specs.Prelude.{ℕ, ◌-◌, ◌%◌, ◌^◌, ◌≤◌, ◌<◌, ◌≡◌, Bool, List, [], ◌∷◌, ◌++◌, length, get_or, replicate, Option, Some}
use Rattle.order.specs.Sorted.{key_of}
use Rattle.place.specs.Place.{track_of}
use Rattle.track.specs.declared.Track.{Track}
use Rattle.table_bytes.specs.Layout.{body_at}
use Rattle.text.specs.declared.Row.{Row}
use Rattle.text.specs.Lines.{header_text}
use Rattle.report.specs.Listing.{row_for, as_list, texts}

-- the place of an entry
abbrev pub place_of : ℕ → ℕ
place_of e = e % 65536

-- of n places the track of an entry's
abbrev pub track_at : List ℕ → ℕ → ℕ → Track
track_at s n e = track_of (body_at s n (place_of e))

-- its row, if it is shown
abbrev pub row_at : Bool → List ℕ → ℕ → ℕ → Option Row
row_at all s n e = row_for all (key_of e) (Some (track_at s n e))

unfoldable pub rows_at : Bool → List ℕ → ℕ → List ℕ → List Row
rows_at all s n [] = []
rows_at all s n (e ∷ es) = as_list (row_at all s n e) ++ rows_at all s n es

-- the header and the texts of rows
unfoldable pub listing_of : ℕ → ℕ → List Row → List ℕ
listing_of bad clock rows = header_text clock (length rows) bad ++ texts rows

-- an entry whose place is below n, with a key of 32 bits
abbrev pub Within : ℕ → ℕ → Type 0
Within n e = (place_of e < n) × (key_of e < 2 ^ 32)

-- the first k entries are such
pub record Inside (order : List ℕ) (k n : ℕ) : Type 0 where
  pub many : k ≤ length order
  pub each : (j : ℕ) → j < k → Within n (get_or order j 0)

-- a buffer with a text, which ends at a place, and zeros behind it
pub record Put (text : List ℕ) (at : ℕ) (out : List ℕ) : Type 0 where
  pub ends : at ≡ length text
  pub holds : out ≡ text ++ replicate (length out - length text) 0

-- a text that was put behind another
pub record Added (more : List ℕ) (at r : ℕ) (l m : List ℕ) : Type 0 where
  pub put : (text : List ℕ) → Put text at l → Put (text ++ more) r m
