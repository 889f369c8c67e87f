-- `track::meaning::gives_velocity` meets its contract: for what is not coarse TYPE and subtype are the number of their eight bits, divided by 8, and each test says the other.
use Prim.Native.Nat.{ℕ, ◌/◌, ◌%◌, ◌≤◌}
use native.Mathlib.Omega.{arith}
use mathlib.Core.Logic.{⊎_elim}
use mathlib.Core.Path.{◌≡◌, refl, ap}
use mathlib.Core.Bool.{Bool, true, false, ◌&&◌, ◌||◌}
use lib.Dec.{leb, eqb}
use borrow.Author.Tests.{le-leb, leb-true, leb-false, eq-eqb, eqb-true}
use Rattle.fields.specs.Packing.{me}
use Rattle.fields.proofs.Bools.{each, either, both}
use Rattle.layouts.specs.Velocity.{is_ground, is_air}
use Rattle.track.specs.Meaning.{gives_velocity}
use Rattle.track.proofs.Alike.{alike}
use Rattle.track.proofs.meaning.gives_velocity.Goals as goal

-- a test of TYPE 19 and of a subtype from lo to hi
velocity-in : (lo hi t s : ℕ) → eqb t 19 && leb lo s && leb s hi ≡ true → (t ≡ 19) × ((lo ≤ s) × (s ≤ hi))
velocity-in lo hi t s e =
    let outer = each (eqb t 19 && leb lo s) (leb s hi) e in
    let inner = each (eqb t 19) (leb lo s) outer.0 in
    (eqb-true t 19 inner.0, (leb-true lo s inner.1, leb-true s hi outer.1))

given : (t s : ℕ) (b : Bool) → leb s 2 ≡ b → t ≡ 19 → 1 ≤ s → s ≤ 4 → is_ground t s || is_air t s ≡ true
given t s true e q l h = rw (eq-eqb t 19 q, le-leb 1 s l, e)
given t s false e q l h = rw (eq-eqb t 19 q, le-leb 1 s l, e, le-leb 3 s (leb-false s 2 e), le-leb s 4 h)

module _ (n : ℕ) where
  abbrev eight : ℕ
  eight = n / 281474976710656 % 256

  within : leb 153 eight && leb eight 156 ≡ true → gives_velocity false n ≡ true
  within e =
      let w = each (leb 153 eight) (leb eight 156) e in
      let l : 153 ≤ eight = leb-true 153 eight w.0 in
      let h : eight ≤ 156 = leb-true eight 156 w.1 in
      given (me 1 5 n) (me 6 8 n) (leb (me 6 8 n) 2) refl (omega arith) (omega arith) (omega arith)

  back : (t s : ℕ) → t ≡ me 1 5 n → s ≡ me 6 8 n → t ≡ 19 → 1 ≤ s → s ≤ 4 → leb 153 eight && leb eight 156 ≡ true
  back t s p q e l h = both (le-leb 153 eight (omega arith)) (le-leb eight 156 (omega arith))

  without : gives_velocity false n ≡ true → leb 153 eight && leb eight 156 ≡ true
  without e = ⊎_elim
      (λ (g : is_ground (me 1 5 n) (me 6 8 n) ≡ true). let w = velocity-in 1 2 (me 1 5 n) (me 6 8 n) g in back _ _ refl refl w.0 w.1.0 (omega (arith, w.1.1)))
      (λ (a : is_air (me 1 5 n) (me 6 8 n) ≡ true). let w = velocity-in 3 4 (me 1 5 n) (me 6 8 n) a in back _ _ refl refl w.0 (omega (arith, w.1.0)) w.1.1)
      (either (is_ground (me 1 5 n) (me 6 8 n)) (is_air (me 1 5 n) (me 6 8 n)) e)

pub returns : goal.returns
returns c = ap (λ (x : Bool). c.args.coarse || x) (alike _ _ (within c.args.me) (without c.args.me))
