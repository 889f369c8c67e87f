-- RULES 5.9: movement in 48ths of a knot, lower edge.
use Rattle.std.specs.Prelude.{ℕ, ◌+◌, ◌-◌, ◌*◌, cond, leb, eqb, Result, Ok, Err}
use Rattle.refusals.specs.declared.Refusal.TheVariants.{Field}
use Rattle.fields.specs.Packing.{wider}
use Rattle.readings.specs.declared.movement.Movement.{Movement}
use Rattle.readings.specs.declared.movement.Movement.TheVariants.{Unknown, Stopped, LowerEdge, AndUp, Reserved}
use Rattle.refusals.specs.declared.Refusal.{Refusal}

-- of the codes 2 to 123
unfoldable pub lower_edge : ℕ → ℕ
lower_edge c =
    cond (leb c 2) 0
    (cond (leb c 8) (6 + 7 * (c - 3))
    (cond (leb c 12) (48 + 12 * (c - 9))
    (cond (leb c 38) (96 + 24 * (c - 13))
    (cond (leb c 93) (720 + 48 * (c - 39))
    (cond (leb c 108) (3360 + 96 * (c - 94))
    (4800 + 240 * (c - 109)))))))

-- 0 unknown, 1 stopped, 2-123 a lower edge, 124: 8,400 and up, 125-127 reserved
abbrev pub movement_by : {A : Type 0} → (unknown stopped : A) (edge andUp : ℕ → A) (reserved : A) (c : ℕ) → A
movement_by unknown stopped edge andUp reserved c =
    cond (eqb c 0) unknown
    (cond (eqb c 1) stopped
    (cond (leb c 123) (edge (lower_edge c))
    (cond (eqb c 124) (andUp 8400)
    reserved)))

unfoldable pub movement_at : ℕ → Movement
movement_at c = movement_by Unknown Stopped LowerEdge AndUp Reserved c

unfoldable pub movement_of : ℕ → Result Movement Refusal
movement_of c = cond (wider 7 c) (Err Field) (Ok (movement_at c))
