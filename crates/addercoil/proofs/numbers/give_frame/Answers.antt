-- `addercoil::numbers::give_frame` meets its contract: an ME without a layout is 5, and what stands before ME is set before its row.
use mathlib.Core.Path.{refl, sym, ap, ◌∙◌}
use mathlib.Core.Bool.{Bool}
use native.Mathlib.Omega.{arith}
use lib.ListN.{length-set}
use Rattle.layouts.specs.declared.bodies.Layout.{Layout}
use Rattle.layouts.specs.Bodies.{layout_by, is_taken}
use Rattle.rows.specs.Rows.{me_row}
use Rattle.addercoil.proofs.Framed.{row_in_lem, frame_refused_lem, frame_given}
use Rattle.addercoil.proofs.numbers.give_frame.Goals as goal

pub returns-then-not-is_layout : goal.returns-then-not-is_layout
returns-then-not-is_layout c =
    let a = c.args in
    let l = c.layout_by-layout.ensures ∙ ap (λ (b : Bool). layout_by b a.f.me) c.frame_coarse.ensures in
    frame_refused_lem a.f a.out.now (sym (c.is_layout.ensures ∙ ap is_taken l) ∙ c.if-not-is_layout.true)

pub bounds-out-2 : goal.bounds-out-2
bounds-out-2 c = simp length-set (omega arith)

pub bounds-out-3 : goal.bounds-out-3
bounds-out-3 c = simp length-set (omega arith)

pub bounds-out-4 : goal.bounds-out-4
bounds-out-4 c = simp length-set (omega arith)

pub returns : goal.returns
returns c =
    let f = c.args.f in
    let out = c.args.out.now in
    let t = c.traffic_by.result in
    let l = c.layout_by-layout.ensures ∙ ap (λ (b : Bool). layout_by b f.me) c.frame_coarse.ensures in
    frame_given f out _ _ c.frame_key.result t c.requires (sym (c.is_layout.ensures ∙ ap is_taken l) ∙ c.if-not-is_layout.false)
    (row_in_lem out (me_row c.layout_by-layout.result f.me t) _ c.requires c.put_me.ensures.1 ∙ ap (λ (k : Layout). me_row k f.me t) l)
    c.frame_key.ensures c.traffic_by.ensures refl
