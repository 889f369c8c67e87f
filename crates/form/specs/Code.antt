-- What private functions promise to each other: how a text is walked, and the sorts of words. No public contract cites this file.
use Rattle.std.specs.Prelude.{ℕ, ◌+◌, ◌≤◌, ◌<◌, ◌≡◌, List, [], ◌∷◌, length, get_or}
use Rattle.form.specs.Form.{Sort, Kind, Coarse, Address, Figure, Word, clock_word, tracks_word, bad_word}
use Rattle.form.specs.declared.words.Sort as code
use Rattle.form.specs.declared.words.Sort.TheVariants as sort
use Rattle.form.specs.Scan.{part, pieces_from}

-- the piece from a place on ends at r
pub record Ends (sep : ℕ) (s : List ℕ) (from r : ℕ) : Type 0 where
  pub low : from ≤ r
  pub high : r ≤ length s
  pub cut : pieces_from sep s from ≡ part from r s ∷ pieces_from sep s (r + 1)
  pub stop : r < length s → get_or s r 0 ≡ sep

-- a sort of the code, and some of them
abbrev pub sort_of : code.Sort → Sort
sort_of sort.Kind = Kind
sort_of sort.Coarse = Coarse
sort_of sort.Address = Address
sort_of sort.Figure = Figure
sort_of sort.Clock = Word clock_word
sort_of sort.Tracks = Word tracks_word
sort_of sort.BadBlocks = Word bad_word

unfoldable pub sorts_of : List code.Sort → List Sort
sorts_of [] = []
sorts_of (k ∷ ks) = sort_of k ∷ sorts_of ks
