-- `track::held::is_in_date` meets its contract: heard no earlier than 124,999 before the clock is heard less than 125,000 ago.
use Prim.Native.Nat.{ℕ, ◌-◌}
use mathlib.Core.Path.{◌≡◌, refl}
use mathlib.Core.Bool.{Bool, true, false}
use native.Mathlib.Omega.{arith}
use lib.Dec.{leb, ltb}
use borrow.Author.Tests.{lt-ltb, le-ltb, leb-true, leb-false}
use Rattle.track.proofs.held.is_in_date.Goals as goal

in-date : (clock time : ℕ) → leb (clock - 124999) time ≡ ltb (clock - time) 125000
in-date clock time = by_test (leb (clock - 124999) time) refl
  where
    by_test : (b : Bool) → leb (clock - 124999) time ≡ b → b ≡ ltb (clock - time) 125000
    by_test true e = rw (lt-ltb (clock - time) 125000 (omega (arith, leb-true (clock - 124999) time e)))
    by_test false e = rw (le-ltb (clock - time) 125000 (omega (arith, leb-false (clock - 124999) time e)))

pub returns : goal.returns
returns c = rw (c.earliest.ensures, in-date)
