-- RULES 17.8: the speed of a coarse message in knots, lower edge, as source 002's list has it.
use Rattle.std.specs.Prelude.{ℕ, ◌-◌, ◌*◌, cond, leb, eqb, Result, Ok, Err}
use Rattle.refusals.specs.declared.Refusal.TheVariants.{Field}
use Rattle.fields.specs.Packing.{wider}
use Rattle.readings.specs.declared.coarse.CoarseSpeed.{CoarseSpeed}
use Rattle.readings.specs.declared.coarse.CoarseSpeed.TheVariants.{Unknown, LowerEdge, AndUp}
use Rattle.refusals.specs.declared.Refusal.{Refusal}

-- 0 unknown, 1: 0, n from 2 to 62: 32 n - 48, 63: 1,968 and up
abbrev pub coarse_speed_by : {A : Type 0} → (unknown : A) (edge andUp : ℕ → A) (n : ℕ) → A
coarse_speed_by unknown edge andUp n =
    cond (eqb n 0) unknown
    (cond (eqb n 1) (edge 0)
    (cond (leb n 62) (edge (32 * n - 48))
    (andUp 1968)))

unfoldable pub coarse_speed_at : ℕ → CoarseSpeed
coarse_speed_at n = coarse_speed_by Unknown LowerEdge AndUp n

unfoldable pub coarse_speed_of : ℕ → Result CoarseSpeed Refusal
coarse_speed_of n = cond (wider 6 n) (Err Field) (Ok (coarse_speed_at n))
