-- `rows::widths::put_fields` meets its contract: the layout chooses the widths.
use Prim.Native.Nat.{ℕ}
use mathlib.Core.Path.{sym, ap, ◌∙◌}
use mathlib.Core.List.{List}
use lib.ListN.{length}
use Rattle.fields.specs.Packing.{unpack}
use Rattle.entries.specs.Arrays.{filled}
use Rattle.layouts.specs.declared.bodies.Layout.{Layout}
use Rattle.layouts.specs.Bodies.{layout_widths}
use Rattle.rows.proofs.widths.put_fields.Goals as goal

-- an array of n entries, filled with the fields in a layout
abbrev fields : ℕ → ℕ → Layout → List ℕ
fields n me l = filled n (filled 15 (unpack (layout_widths l) me))

pub returns-in-Identification : goal.returns-in-Identification
returns-in-Identification c =
    c.put_cut.ensures ∙ ap (fields (length c.args.out.now) c.args.me) (sym c.in-Identification.is)

pub returns-in-Surface : goal.returns-in-Surface
returns-in-Surface c =
    c.put_cut-in-Surface.ensures ∙ ap (fields (length c.args.out.now) c.args.me) (sym c.in-Surface.is)

pub returns-in-Airborne : goal.returns-in-Airborne
returns-in-Airborne c =
    c.put_cut-in-Airborne.ensures ∙ ap (fields (length c.args.out.now) c.args.me) (sym c.in-Airborne.is)

pub returns-in-Ground : goal.returns-in-Ground
returns-in-Ground c =
    c.put_cut-in-Ground.ensures ∙ ap (fields (length c.args.out.now) c.args.me) (sym c.in-Ground.is)

pub returns-in-Air : goal.returns-in-Air
returns-in-Air c =
    c.put_cut-in-Air.ensures ∙ ap (fields (length c.args.out.now) c.args.me) (sym c.in-Air.is)

pub returns-in-Status : goal.returns-in-Status
returns-in-Status c =
    c.put_cut-in-Status.ensures ∙ ap (fields (length c.args.out.now) c.args.me) (sym c.in-Status.is)

pub returns-in-Coarse : goal.returns-in-Coarse
returns-in-Coarse c =
    c.put_cut-in-Coarse.ensures ∙ ap (fields (length c.args.out.now) c.args.me) (sym c.in-Coarse.is)

pub returns-in-NotTaken : goal.returns-in-NotTaken
returns-in-NotTaken c =
    c.fill.ensures ∙ ap (fields (length c.args.out.now) c.args.me) (sym c.in-NotTaken.is)
