-- RULES 12.8 and 20.7: the whole listing of a table in one buffer, with zeros behind the text; and the array in which the keys were sorted.
use Rattle.std.specs.Prelude.{ℕ, zero, suc, ◌+◌, ◌*◌, Bool, cond, not, ◌&&◌, List, [], ◌∷◌, ◌++◌, eqb, length, Result, Ok, Err}
use Rattle.refusals.specs.declared.Refusal.TheVariants.{Length, Places}
use Rattle.order.specs.Sorted.{entry_of, rising, firsts, over}
use Rattle.memory.specs.Offsets.{whole_places, places_in}
use Rattle.rules.specs.Form.{is_held}
use Rattle.table_bytes.specs.Layout.{clock_of, key_at}
use Rattle.table.specs.Bytes.{bytes}
use Rattle.text.specs.Lines.{line_room}
use Rattle.entries.specs.Arrays.{filled}
use Rattle.report.specs.Listing.{listing}
use Rattle.refusals.specs.declared.Refusal.{Refusal}

-- ---- the lengths

-- room for the header and for a line of each place
abbrev pub listing_bytes : ℕ → ℕ
listing_bytes places = line_room * (places + 1)

-- an array with an entry for each place, and a buffer for so many lines; a table that is not of whole places has those that it has room for
unfoldable pub room_for : List ℕ → ℕ → ℕ → Bool
room_for s order out = eqb order (places_in s) && eqb out (listing_bytes (places_in s))

-- ---- the array

-- of the first places that are held the keys, each with its place
unfoldable pub entries_of : List ℕ → ℕ → List ℕ
entries_of s zero = []
entries_of s (suc i) = entries_of s i ++ cond (is_held (clock_of s) (bytes.cell s i)) (entry_of (key_at s i) i ∷ []) []

abbrev pub sorted_of : List ℕ → List ℕ
sorted_of s = rising (entries_of s (places_in s))

-- of each key the lowest place
abbrev pub lowest_of : List ℕ → List ℕ
lowest_of s = firsts (sorted_of s)

-- the entries of the lowest places over those of all, and these over what was there
unfoldable pub order_after : List ℕ → List ℕ → List ℕ
order_after s order = over (lowest_of s) (over (sorted_of s) order)

-- ---- the call

-- what it answers, and the two arrays as it leaves them
pub record Left : Type 0 where
  pub answer : Result ℕ Refusal
  pub order : List ℕ
  pub out : List ℕ

abbrev pub left : Result ℕ Refusal → List ℕ → List ℕ → Left
left answer order out = record { answer = answer; order = order; out = out }

-- 1, 7, or the length of the text, which is in the buffer, with zeros behind it
unfoldable pub listed : Bool → List ℕ → ℕ → List ℕ → List ℕ → Left
listed all s bad order out =
    cond (not (room_for s (length order) (length out))) (left (Err Length) order out)
    (cond (not (whole_places (length s))) (left (Err Places) order out)
    (left (Ok (length (listing all s bad))) (order_after s order) (filled (length out) (listing all s bad))))
