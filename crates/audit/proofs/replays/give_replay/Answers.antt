-- `audit::replays::give_replay` meets its contract: 14, then 8 for a kind that is none, or what is worked out.
use mathlib.Core.Path.{sym, ap, ◌∙◌}
use mathlib.Core.Bool.{not}
use Rattle.keys.specs.declared.Kind.{Kind}
use Rattle.keys.specs.Keys.{kind_at, is_kind}
use Rattle.entries.specs.Sent.{given}
use Rattle.audit.specs.Replays.{worked_out}
use Rattle.audit.proofs.Replaying.{no_log, no_kind, worked_out_lem}
use Rattle.audit.proofs.replays.give_replay.Goals as goal

pub returns-then-not-is_log : goal.returns-then-not-is_log
returns-then-not-is_log c =
    let a = c.args in
    no_log a.out.now a.log.now (not (is_kind a.kind)) (kind_at a.kind) a.address a.site c.is_log.ensures (ap not c.if-not-is_log.true)

pub returns-then-not-is_kind : goal.returns-then-not-is_kind
returns-then-not-is_kind c =
    let a = c.args in
    no_kind a.out.now a.log.now (not (is_kind a.kind)) (kind_at a.kind) a.address a.site c.is_log.ensures (ap not c.if-not-is_log.false)
    (sym (ap not c.is_kind.ensures) ∙ ap not c.if-not-is_kind.true)

pub returns : goal.returns
returns c =
    let a = c.args in
    worked_out_lem a.out.now a.log.now (not (is_kind a.kind)) (kind_at a.kind) a.address a.site c.is_log.ensures (ap not c.if-not-is_log.false)
    (sym (ap not c.is_kind.ensures) ∙ ap not c.if-not-is_kind.false)
    (c.give_of.ensures ∙ ap (λ (k : Kind). given a.out.now (worked_out a.log.now k a.address a.site)) c.kind_at.ensures)
