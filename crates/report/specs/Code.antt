-- What private functions promise to each other: the places that have a row, by which the count of the header is found in one pass; a key for the answer of a walk. No public contract cites this file.
use Rattle.std.specs.Prelude.{ℕ, Bool, ◌&&◌, List, Option, Some, None, Result, Ok, Err}
use Rattle.place.specs.Place.{track_of}
use Rattle.table_bytes.specs.Layout.{body_at, place_at}
use Rattle.table_bytes.specs.Scan.{is_first}
use Rattle.report.specs.Listing.{shown}
use Rattle.keys.specs.Keys.{end_of_keys}
use Rattle.refusals.specs.declared.Refusal.{Refusal}

-- of n places the one at i is the first of its key, and its track is shown
abbrev pub has_row : Bool → ℕ → List ℕ → ℕ → ℕ → Bool
has_row all clock s n i = is_first (place_at s n) n clock i && shown all (track_of (body_at s n i)).position

-- the key that a walk has come to; at its end the end of the keys
unfoldable pub key_or_limit : Result (Option ℕ) Refusal → ℕ
key_or_limit (Ok (Some key)) = key
key_or_limit (Ok None) = end_of_keys
key_or_limit (Err r) = end_of_keys
