-- RULES 12.7: what the words ask for that a program is started with: the tracks with a position unless all are asked for.
use Rattle.std.specs.Prelude.{ℕ, Bool, cond, ◌&&◌, List, eqb, ltb, length, get_or}
use Rattle.listing.specs.declared.words.Asked.{Asked}
use Rattle.listing.specs.declared.words.Asked.TheVariants.{Positioned, All, Unclear}

-- "all", in ASCII
unfoldable pub is_all : List ℕ → Bool
is_all word = eqb (length word) 3 && (eqb (get_or word 0 0) 97 && eqb (get_or word 1 0) 108 && eqb (get_or word 2 0) 108)

-- by how many words there are, the program's name among them, and the one after it: no other word than "all" is taken, and no second
unfoldable pub asked_by : ℕ → List ℕ → Asked
asked_by count word = cond (ltb count 2) Positioned (cond (eqb count 2 && is_all word) All Unclear)
