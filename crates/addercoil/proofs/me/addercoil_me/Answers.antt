-- `addercoil::me::addercoil_me` meets its contract: its tests are the definition's, in their order, and the row is that of `put_me`.
use mathlib.Core.Bool.{Bool, not, ◌||◌}
use mathlib.Core.Path.{sym, ap, ap₂, ◌∙◌}
use Rattle.refusals.specs.Said.{number, gives}
use Rattle.fields.specs.Packing.{wider}
use Rattle.keys.specs.Keys.{is_key, coarse_in, traffic_in}
use Rattle.layouts.specs.declared.bodies.Layout.{Layout}
use Rattle.layouts.specs.Bodies.{layout_by, is_taken}
use Rattle.rows.specs.Rows.{me_row, row_into}
use Rattle.addercoil.specs.Me.{me_said}
use Rattle.addercoil.proofs.Framed.{row_given, row_in_lem, me_length}
use Rattle.entries.proofs.Ways.{into_wrong, into_given, stopped, passed}
use Rattle.addercoil.proofs.me.addercoil_me.Goals as goal

pub returns-then-fields-ne-ROW : goal.returns-then-fields-ne-ROW
returns-then-fields-ne-ROW c = into_wrong 28 _ _ c.if-fields-ne-ROW.true

pub returns-then-me-is_key : goal.returns-then-me-is_key
unfolding me_said
returns-then-me-is_key c =
    let a = c.args in
    into_given 28 a.fields.now (me_said a.me a.key) c.if-fields-ne-ROW.false
    (stopped a.fields.now (wider 56 a.me || not (is_key a.key)) 8 _ (sym (ap (λ (b : Bool). wider 56 a.me || not b) c.is_key.ensures) ∙ c.if-me-is_key.true))

pub returns-then-not-is_layout : goal.returns-then-not-is_layout
unfolding me_said
returns-then-not-is_layout c =
    let a = c.args in
    let out = a.fields.now in
    let l = layout_by (coarse_in a.key) a.me in
    let layout = c.layout_by-layout.ensures ∙ ap (λ (b : Bool). layout_by b a.me) c.coarse_in.ensures in
    let key = sym (ap (λ (b : Bool). wider 56 a.me || not b) c.is_key.ensures) ∙ c.if-me-is_key.false in
    let type = sym (ap not (c.is_layout.ensures ∙ ap is_taken layout)) ∙ ap not c.if-not-is_layout.true in
    into_given 28 out (me_said a.me a.key) c.if-fields-ne-ROW.false
    (stopped out (not (is_taken l)) 5 (gives (me_row l a.me (traffic_in a.key))) type
    ∙ passed out (wider 56 a.me || not (is_key a.key)) (number 8) _ key)

pub returns : goal.returns
unfolding me_said
returns c =
    let a = c.args in
    let out = a.fields.now in
    let h = c.if-fields-ne-ROW.false in
    let l = layout_by (coarse_in a.key) a.me in
    let row = me_row l a.me (traffic_in a.key) in
    let layout = c.layout_by-layout.ensures ∙ ap (λ (b : Bool). layout_by b a.me) c.coarse_in.ensures in
    let key = sym (ap (λ (b : Bool). wider 56 a.me || not b) c.is_key.ensures) ∙ c.if-me-is_key.false in
    let type = sym (ap not (c.is_layout.ensures ∙ ap is_taken layout)) ∙ ap not c.if-not-is_layout.false in
    into_given 28 out (me_said a.me a.key) h
    (row_given out row _ h (me_length l a.me (traffic_in a.key))
    (row_in_lem out row _ h (c.put_me.ensures.1 ∙ ap₂ (λ (l : Layout) (t : Bool). row_into out (me_row l a.me t)) layout c.traffic_in.ensures))
    ∙ passed out (not (is_taken l)) (number 5) (gives row) type
    ∙ passed out (wider 56 a.me || not (is_key a.key)) (number 8) _ key)
