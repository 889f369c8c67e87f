-- RULES 9.5: what the scan tests, some places at a time, and where a message goes.
use Rattle.std.specs.Prelude.{ℕ, Bool, true, false, cond, not, ◌&&◌, eqb, ltb}
pub use Rattle.rules.specs.Search.{lowest}
use Rattle.table_bytes.specs.declared.scan.Target.{Target}
use Rattle.table_bytes.specs.Layout.{Place, is_held, holds}

-- the place i is the first of its key: it is held, and none below it is held with its key
abbrev pub is_first : (ℕ → Place) → ℕ → ℕ → ℕ → Bool
is_first f n clock i = is_held clock (f i) && eqb (lowest (λ j. holds clock (f i).key (f j)) n) i

-- the key's place, else the lowest free one; n if there is none
abbrev pub target : (ℕ → Place) → ℕ → ℕ → ℕ → Target
target f n clock i = cond (ltb i n) (record { held = true; at = i }) (record { held = false; at = lowest (λ j. not (is_held clock (f j))) n })

abbrev pub target_of : (ℕ → Place) → ℕ → ℕ → ℕ → Target
target_of f n clock key = target f n clock (lowest (λ j. holds clock key (f j)) n)
