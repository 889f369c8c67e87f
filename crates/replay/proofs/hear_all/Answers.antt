-- `replay::hear_all` meets its contract: each turn hears the record that comes off the front of what is left.
use mathlib.Core.Path.{◌∙◌}
use Rattle.std.proofs.lemmas.List.{length_push}
use Rattle.replay.specs.Replay.{unheard}
use Rattle.replay.proofs.Ways.{records_on}
use Rattle.replay.proofs.hear_all.Goals as goal

pub loop-record-preserved : goal.loop-record-preserved
loop-record-preserved c =
    let a = c.args in
    let i = c.loop-record.invariant in
    let s = c.in-Some.ensures.steps in
    let r = records_on a.site a.key unheard a.log.now _ _ _ _ (length_push c.loop-record.yielded c.in-Some.record) i.1 s.1.0 (s.1.1 ∙ i.0) i.2 i.3 c.hear_record.ensures in
    (s.0 ∙ i.0, r.0, r.1, r.2)
