-- RULES 19.3: what the answers say in the rules' terms: a number, or values. Those of ME are its layout with the values of all fields in the order of their bits; Ground and Air have fields of the same widths,
-- and only the layout tells them apart.
use Rattle.std.specs.Prelude.{ℕ, List, Bool, cond, not, Result, Ok, Err}
use Rattle.refusals.specs.Numbers.{number_of}
use Rattle.refusals.specs.Said.{Said, number, gives}
use Rattle.fields.specs.Packing.{unpack}
use Rattle.layouts.specs.Bodies.{layout_by, is_taken, layout_widths, body_layout, body_fields, body_me, body_fits}
use Rattle.layouts.specs.declared.bodies.Body.{Body}
use Rattle.layouts.specs.declared.bodies.Layout.{Layout}
use Rattle.refusals.specs.declared.Refusal.{Refusal}

pub record Values : Type 0 where
  pub layout : Layout
  pub fields : List ℕ

abbrev pub values : Layout → List ℕ → Values
values l v = record { layout = l; fields = v }

-- what ME says
abbrev pub taken_said : Result Body Refusal → Said Values
taken_said (Ok b) = gives (values (body_layout b) (body_fields b))
taken_said (Err r) = number (number_of r)

-- the 56 bits of a body
abbrev pub written_said : Result ℕ Refusal → Said ℕ
written_said (Ok n) = gives n
written_said (Err r) = number (number_of r)

-- ---- what is due

-- 5: TYPE or subtype not taken, which no coarse message earns; else the fields of the 56 bits by the layout's widths
abbrev pub me_table : Bool → ℕ → Said Values
me_table coarse n = cond (not (is_taken (layout_by coarse n))) (number 5) (gives (values (layout_by coarse n) (unpack (layout_widths (layout_by coarse n)) n)))

-- 8: a field wider than its bits, or a TYPE or subtype of another layout
abbrev pub body_table : Body → Said ℕ
body_table b = cond (not (body_fits b)) (number 8) (gives (body_me b))
