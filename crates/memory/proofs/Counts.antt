-- How many places a table's bytes are: arithmetic over the sizes.
-- Assumes nothing.
use Prim.Native.Nat.{ℕ, ◌%◌, ◌≤◌}
use native.Mathlib.Omega.{arith}
use mathlib.Core.Bool.{true, ◌&&◌}
use mathlib.Core.Path.{◌≡◌}
use mathlib.Core.List.{List}
use lib.Dec.{eqb, leb}
use lib.ListN.{length}
use borrow.Author.Tests.{le-leb, leb-true, eq-eqb, eqb-true}
use Rattle.fields.proofs.Bools.{each, both}
use Rattle.memory.specs.Offsets.{head_size, place_size, most_places, table_size, whole_places, places_in, Room}

pub sized : (l : ℕ) → whole_places l ≡ true → (table_size 1 ≤ l) × ((l ≤ table_size most_places) × (l % place_size ≡ head_size))
unfolding whole_places
sized l e =
    let p = each (leb (table_size 1) l && leb l (table_size most_places)) (eqb (l % place_size) head_size) e in
    let q = each (leb (table_size 1) l) (leb l (table_size most_places)) p.0 in
    (leb-true (table_size 1) l q.0, (leb-true l (table_size most_places) q.1, eqb-true (l % place_size) head_size p.1))

-- whole places have their head
pub whole_head : (l : ℕ) → whole_places l ≡ true → head_size ≤ l
whole_head l e = omega (arith, (sized l e).0)

-- a whole table has room for its places
pub whole_room : (s : List ℕ) → whole_places (length s) ≡ true → Room (places_in s) s
whole_room s e = let w = sized (length s) e in (omega arith, omega arith)

-- the bytes of n places, from 1 to the most, are n whole places
pub count_whole : (n : ℕ) → 1 ≤ n → n ≤ most_places → whole_places (table_size n) ≡ true
unfolding whole_places
count_whole n l m =
    both (both (le-leb (table_size 1) (table_size n) (omega arith)) (le-leb (table_size n) (table_size most_places) (omega arith)))
    (eq-eqb (table_size n % place_size) head_size (omega arith))

pub count_of : (n : ℕ) (s : List ℕ) → length s ≡ table_size n → places_in s ≡ n
count_of n s e = omega arith
