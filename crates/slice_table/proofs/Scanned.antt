-- The scan of no place, and of one place more.
-- Assumes nothing.
use Prim.Native.Nat.{ℕ, ◌+◌, ◌<◌}
use native.Mathlib.Numerals.{add-one}
use mathlib.Core.Path.{◌≡◌, refl, ap, sym, ◌∙◌}
use mathlib.Core.List.{List}
use lib.ListN.{length, get_or}
use Rattle.std.proofs.lemmas.List.{get_or_default}
use Rattle.slice_places.specs.declared.Place.{Place}
use Rattle.slice_places.specs.declared.Sought.{Sought}
use Rattle.slice_places.specs.Ranges.{no_place}
use Rattle.slice_table.specs.Code.{none_found, visited, scanned}

pub scanned_none : (ps : List Place) (s : Sought) → none_found ≡ scanned ps s 0
unfolding scanned
scanned_none ps s = refl

pub scanned_more : (ps : List Place) (s : Sought) (i : ℕ) → visited (scanned ps s i) (get_or ps i no_place) i s ≡ scanned ps s (i + 1)
unfolding visited scanned
scanned_more ps s i = ap (scanned ps s) (sym (add-one i))

-- the place visited is read from the slice, whatever is read past its end
pub scanned_read : (ps : List Place) (s : Sought) (i : ℕ) (d : Place) → i < length ps → visited (scanned ps s i) (get_or ps i d) i s ≡ scanned ps s (i + 1)
scanned_read ps s i d h = ap (λ (p : Place). visited (scanned ps s i) p i s) (get_or_default ps i d no_place h) ∙ scanned_more ps s i
