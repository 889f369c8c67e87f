-- `track::meaning::gives_status` meets its contract: TYPE and the two high bits of the subtype are one number of seven bits, and each test says the other.
use Prim.Native.Nat.{ℕ, ◌+◌, ◌*◌, ◌/◌, ◌%◌, ◌≤◌}
use native.Mathlib.Omega.{arith}
use mathlib.Core.Path.{◌≡◌, ◌∙◌}
use mathlib.Core.Bool.{true}
use lib.Dec.{leb, eqb}
use borrow.Author.Tests.{le-leb, leb-true, eq-eqb, eqb-true}
use Rattle.fields.specs.Packing.{me}
use Rattle.fields.proofs.Bools.{each, both}
use Rattle.track.specs.Meaning.{gives_status}
use Rattle.track.proofs.Alike.{alike}
use Rattle.track.proofs.meaning.gives_status.Goals as goal

module _ (n : ℕ) where
  abbrev seven : ℕ
  seven = n / 562949953421312 % 128

  within : eqb seven 124 ≡ true → gives_status n ≡ true
  within e =
      let h : seven ≡ 124 = eqb-true seven 124 e in
      both (eq-eqb (me 1 5 n) 31 (omega arith)) (le-leb (me 6 8 n) 1 (omega arith))

  split : seven ≡ me 1 5 n * 4 + me 6 8 n / 2
  split = omega arith

  without : gives_status n ≡ true → eqb seven 124 ≡ true
  without e =
      let w = each (eqb (me 1 5 n) 31) (leb (me 6 8 n) 1) e in
      eq-eqb seven 124 (split ∙ ends (me 1 5 n) (me 6 8 n) (eqb-true (me 1 5 n) 31 w.0) (leb-true (me 6 8 n) 1 w.1))
    where
      ends : (t s : ℕ) → t ≡ 31 → s ≤ 1 → t * 4 + s / 2 ≡ 124
      ends t s p q = omega arith

pub returns : goal.returns
returns c = alike _ _ (within c.args.me) (without c.args.me)
