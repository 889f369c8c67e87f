-- What private functions promise to each other: our rows from a key on. No public contract cites this file.
use Rattle.std.specs.Prelude.{ℕ, zero, suc, ◌-◌, true, List, [], ◌++◌}
use Rattle.keys.specs.Keys.{end_of_keys}
use Rattle.text.specs.declared.Row.{Row}
use Rattle.table.specs.View.{view}
use Rattle.report.specs.Listing.{row_for, as_list}

-- the rows of d keys from k on
unfoldable pub rows_from : List ℕ → ℕ → ℕ → List Row
rows_from s k zero = []
rows_from s k (suc d) = as_list (row_for true k (view s k)) ++ rows_from s (suc k) d

-- .. of all of them
abbrev pub rows_left : List ℕ → ℕ → List Row
rows_left s k = rows_from s k (end_of_keys - k)
