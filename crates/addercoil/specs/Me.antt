-- RULES 5.12: an ME by itself, of a key: its fields and readings, in the row of the crate `rows`. What it does not say of a message, DF, CA or CF, AA and the key, is 0.
use Rattle.std.specs.Prelude.{ℕ, cond, not, ◌||◌, List}
use Rattle.refusals.specs.Said.{Said, number, gives}
use Rattle.fields.specs.Packing.{wider}
use Rattle.keys.specs.Keys.{is_key, coarse_in, traffic_in}
use Rattle.layouts.specs.declared.bodies.Layout.{Layout}
use Rattle.layouts.specs.Bodies.{layout_by, is_taken}
use Rattle.rows.specs.Rows.{me_row}

-- 8 for more than 56 bits, or for what is no key; then 5 for a TYPE or subtype that is not taken. The key says by its kind whether the ME is a coarse message's, and whether a traffic service sent it
unfoldable pub me_said : ℕ → ℕ → Said (List ℕ)
me_said n key =
    let l : Layout = layout_by (coarse_in key) n in
    cond (wider 56 n || not (is_key key)) (number 8)
    (cond (not (is_taken l)) (number 5)
    (gives (me_row l n (traffic_in key))))
