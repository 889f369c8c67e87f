-- RULES 12.8 and 20.7: the whole listing for another language: a number, and the three arrays that the call was lent, as it leaves them.
use Rattle.std.specs.Prelude.{ℕ, cond, not, ◌&&◌, List, [], ◌∷◌, eqb, ltb, length}
use Rattle.memory.specs.Offsets.{whole_places}
use Rattle.entries.specs.Arrays.{filled}
use Rattle.report.specs.Listing.{listing}
use Rattle.whole.specs.Whole.{room_for, order_after}
use Rattle.display.specs.Lines.{chosen}

pub record Handed : Type 0 where
  pub number : ℕ
  pub order : List ℕ
  pub out : List ℕ
  pub written : List ℕ

abbrev pub handed : ℕ → List ℕ → List ℕ → List ℕ → Handed
handed n order out written = record { number = n; order = order; out = out; written = written }

-- 1 for an array of a wrong length, 7, 8 for a choice that is neither 0 nor 1, each of which leaves the arrays as they were; or the text with zeros behind it, and its length
unfoldable pub listing_into : ℕ → List ℕ → ℕ → List ℕ → List ℕ → List ℕ → Handed
listing_into all s bad order out written =
    cond (not (room_for s (length order) (length out) && eqb (length written) 1)) (handed 1 order out written)
    (cond (not (whole_places (length s))) (handed 7 order out written)
    (cond (ltb 1 all) (handed 8 order out written)
    (handed 0 (order_after s order) (filled (length out) (listing (chosen all) s bad)) (length (listing (chosen all) s bad) ∷ []))))
