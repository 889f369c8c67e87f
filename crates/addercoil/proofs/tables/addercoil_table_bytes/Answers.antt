-- `addercoil::tables::addercoil_table_bytes` meets its contract: its test is the definition's.
use Prim.Native.Nat.{ℕ, ◌≤◌}
use mathlib.Core.Path.{◌≡◌}
use mathlib.Core.Bool.{Bool, true, false, ◌&&◌}
use native.Mathlib.Omega.{arith}
use borrow.Author.Tests.{leb-true}
use lib.Dec.{leb}
use Rattle.memory.specs.Offsets.{most_places}
use Rattle.addercoil.proofs.tables.addercoil_table_bytes.Goals as goal

second : (a b : Bool) → (a && b) ≡ true → b ≡ true
second true b h = h
second false b h = cc

most : (places : ℕ) → (leb 1 places && leb places most_places) ≡ true → places ≤ most_places
most places h = leb-true places most_places (second (leb 1 places) (leb places most_places) h)

pub overflow_mul-result : goal.overflow_mul-result
overflow_mul-result c = omega (arith, most c.args.places c.if-places.true)

pub overflow_add-result : goal.overflow_add-result
overflow_add-result c = omega (arith, most c.args.places c.if-places.true)

pub returns-then-places : goal.returns-then-places
returns-then-places c = rw c.if-places.true

pub returns-else-places : goal.returns-else-places
returns-else-places c = rw c.if-places.false
