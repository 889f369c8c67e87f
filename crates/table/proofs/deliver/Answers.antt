-- `table::deliver` meets its contract: the frame opens to a message whose step is that of its ME, and the two ways out are the definition's.
use mathlib.Core.Path.{ap, ◌∙◌}
use mathlib.Core.Bool.{◌||◌}
use Rattle.messages.specs.Accepted.{frame_coarse, message_of, Opens}
use Rattle.messages.proofs.Acceptance.{frame_opens}
use Rattle.messages.proofs.Keys.{frame_key_lem}
use Rattle.messages.proofs.Starting.{frame_starts_lem}
use Rattle.table.specs.Heard.{heard}
use Rattle.table.proofs.Answers.{deliver_on, deliver_none}
use Rattle.table.proofs.Hearing.{placed_by_me}
use borrow.Author.Rules.{rules}
use borrow.Author.Tests.{ltb-true}
use Rattle.fields.proofs.Bools.{and_right}
use Rattle.table.proofs.deliver.Goals as goal

pub start_of-t-requires : goal.start_of-t-requires
start_of-t-requires c =
    (ltb-true _ _ (and_right (c.target_of-target.result.held || c.frame_starts-starts.result) _ c.if-target-starts.true), search rules)

pub step_at-requires : goal.step_at-requires
step_at-requires c =
    (ltb-true _ _ (and_right (c.target_of-target.result.held || c.frame_starts-starts.result) _ c.if-target-starts.true), search rules)

pub returns-then-target-starts : goal.returns-then-target-starts
returns-then-target-starts c =
    let a = c.args in
    let o : Opens a.f = frame_opens a.f c.requires.1 in
    ap heard
    (deliver_on a.table.now a.time o.message (c.frame_key-key.ensures ∙ frame_key_lem a.f o) c.places_in-n.ensures.0 (c.frame_starts-starts.ensures ∙ frame_starts_lem a.f o) c.target_of-target.ensures c.if-target-starts.true c.start_of-t.ensures
    (placed_by_me a.table.now _ _ _ a.time a.f.me (frame_coarse a.f) _ (message_of a.f o.body) o.reads o.fits o.same c.step_at.ensures))

pub returns : goal.returns
returns c =
    let a = c.args in
    let o : Opens a.f = frame_opens a.f c.requires.1 in
    ap heard (deliver_none a.table.now a.time o.message (c.frame_key-key.ensures ∙ frame_key_lem a.f o) c.places_in-n.ensures.0 (c.frame_starts-starts.ensures ∙ frame_starts_lem a.f o) c.target_of-target.ensures c.if-target-starts.false c.turned_away.ensures)
