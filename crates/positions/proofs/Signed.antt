-- The two crossings between a latitude of either sign and a natural one whole turn up, by the sign.
-- Assumes nothing.
use mathlib.Core.Path.{◌≡◌, sym, ap, ◌∙◌}
use mathlib.Core.Bool.{Bool, true, ◌&&◌}
use mathlib.Core.Logic.{⊎_elim}
use Prim.Native.Nat.{ℕ, suc, ◌+◌, ◌-◌, ◌≤◌, ◌<◌}
use native.Mathlib.Omega.{arith}
use lib.Dec.{leb}
use lib.IntN.{ℤ, pos, negsuc, sub_ℕ}
use lib.Signed.{mag}
use borrow.Author.Tests.{le-leb, lt-leb, leb-true}
use Rattle.positions.specs.Positions.{pole_to_pole}
use Rattle.signs.specs.Raised.{raised}
use Rattle.fields.proofs.Bools.{each}
use Rattle.positions.proofs.Shift.{sub_pos, sub_neg, order}

pub lower_small : (w : ℕ) → 3221225472 ≤ w → w ≤ 5368709120 → mag (sub_ℕ w 4294967296) < 2147483648
lower_small w l h =
    ⊎_elim
    (λ (p : 4294967296 ≤ w). rw (sub_pos w 4294967296 p) (omega arith))
    (λ (p : w < 4294967296). rw (sub_neg w 4294967296 p) (omega arith))
    (order w 4294967296)

-- from pole to pole, one turn up
pub pole_to_pole_is : (z : ℤ) → pole_to_pole z ≡ (leb 3221225472 (raised z) && leb (raised z) 5368709120)
pole_to_pole_is (pos a) =
    ⊎_elim
    (λ (h : a ≤ 1073741824).
    rw (le-leb a 1073741824 h, le-leb 3221225472 (a + 4294967296) (omega arith), le-leb (a + 4294967296) 5368709120 (omega arith)))
    (λ (h : 1073741824 < a).
    rw (lt-leb a 1073741824 h, le-leb 3221225472 (a + 4294967296) (omega arith), lt-leb (a + 4294967296) 5368709120 (omega arith)))
    (order 1073741824 a)
pole_to_pole_is (negsuc a) =
    ⊎_elim
    (λ (h : suc a ≤ 1073741824).
    rw (le-leb (suc a) 1073741824 h, le-leb 3221225472 (4294967296 - suc a) (omega arith), le-leb (4294967296 - suc a) 5368709120 (omega arith)))
    (λ (h : 1073741824 < suc a). rw (lt-leb (suc a) 1073741824 h, lt-leb 3221225472 (4294967296 - suc a) (omega arith)))
    (order 1073741824 (suc a))

pub poles : (w : ℕ) → (leb 3221225472 w && leb w 5368709120) ≡ true → (3221225472 ≤ w) × (w ≤ 5368709120)
poles w e =
    let t = each (leb 3221225472 w) (leb w 5368709120) e in
    (leb-true 3221225472 w t.0, leb-true w 5368709120 t.1)

-- a latitude is itself one turn up, less the turn
pub lowered : (z : ℤ) → 3221225472 ≤ raised z → raised z ≤ 5368709120 → sub_ℕ (raised z) 4294967296 ≡ z
lowered (pos a) l h = sub_pos (a + 4294967296) 4294967296 (omega arith) ∙ ap pos {x = a + 4294967296 - 4294967296} {y = a} (omega arith)
lowered (negsuc a) l h =
    sub_neg (4294967296 - suc a) 4294967296 (omega arith) ∙ ap negsuc {x = 4294967296 - suc (4294967296 - suc a)} {y = a} (omega arith)

-- what the code has tested of w, the latitude z one turn up
module _ (z : ℤ) (w : ℕ) (e : w ≡ raised z) where
  pub tested : (b : Bool) → (leb 3221225472 w && leb w 5368709120) ≡ b → pole_to_pole z ≡ b
  tested b t = pole_to_pole_is z ∙ ap (λ (v : ℕ). leb 3221225472 v && leb v 5368709120) (sym e) ∙ t

  pub back : (leb 3221225472 w && leb w 5368709120) ≡ true → sub_ℕ w 4294967296 ≡ z
  back t = let p = poles w t in ap (λ (v : ℕ). sub_ℕ v 4294967296) e ∙ lowered z (rw e at p.0) (rw e at p.1)
