-- `replay::replay` meets its contract: its three ways out are the definition's.
use Rattle.std.specs.Prelude.{Ok}
use Prim.Native.Nat.{ℕ, ◌/◌}
use mathlib.Core.Bool.{not}
use mathlib.Core.Path.{ap, ap₂, ◌∙◌}
use lib.ListN.{length}
use Rattle.whereabouts.specs.declared.Site.{Site}
use Rattle.replay.specs.declared.Own.{Own}
use Rattle.replay.specs.Replay.{unheard, own_at}
use Rattle.replay.proofs.Ways.{no_log, no_field, all_heard}
use Rattle.replay.proofs.replay.Goals as goal

pub returns-then-not-is_log : goal.returns-then-not-is_log
returns-then-not-is_log c =
    let a = c.args in
    no_log a.log.now a.kind a.address a.site c.is_log.ensures (ap not c.if-not-is_log.true)

pub returns-then-address-is_wide : goal.returns-then-address-is_wide
returns-then-address-is_wide c =
    let a = c.args in
    no_field a.log.now a.kind a.address a.site c.is_log.ensures (ap not c.if-not-is_log.false) c.is_wide.ensures c.bad_site.ensures c.if-address-is_wide.true

pub returns : goal.returns
returns c =
    let a = c.args in
    all_heard a.log.now a.kind a.address a.site c.is_log.ensures (ap not c.if-not-is_log.false) c.is_wide.ensures c.bad_site.ensures c.if-address-is_wide.false
    (ap (λ (o : Own). Ok o.track) c.hear_all-own.ensures
    ∙ ap₂ (λ (z : Site) (k : ℕ). Ok (own_at z k unheard a.log.now (length a.log.now / 22)).track) c.site_of.ensures c.key_for.ensures)
