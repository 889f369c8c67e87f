-- `audit::replays::give_coarse` meets its contract: 14, then 8 for a flag or a station that is too wide, or what is worked out.
use Prim.Native.Nat.{ℕ, ◌<◌}
use mathlib.Core.Path.{◌≡◌, ap, ◌∙◌}
use mathlib.Core.Bool.{false, not, ◌||◌}
use lib.Dec.{leb}
use native.Mathlib.Omega.{arith}
use borrow.Author.Tests.{leb-false}
use Rattle.fields.proofs.Bools.{neither}
use Rattle.whereabouts.specs.declared.Site.{Site}
use Rattle.whereabouts.specs.Located.{no_site}
use Rattle.replay.specs.Replay.{is_wide}
use Rattle.keys.specs.declared.Kind.TheVariants.{C}
use Rattle.entries.specs.Sent.{given}
use Rattle.audit.specs.Replays.{worked_out}
use Rattle.audit.proofs.Replaying.{no_log, no_kind, worked_out_lem}
use Rattle.audit.proofs.replays.give_coarse.Goals as goal

narrow : (flag station : ℕ) → (leb 2 flag || leb 16 station) ≡ false → (flag < 2) × (station < 16)
narrow flag station e =
    let n = neither (leb 2 flag) (leb 16 station) e in
    (leb-false 2 flag n.0, leb-false 16 station n.1)

pub returns-then-not-is_log : goal.returns-then-not-is_log
returns-then-not-is_log c =
    let a = c.args in
    no_log a.out.now a.log.now (is_wide (C a.flag a.station)) (C a.flag a.station) a.address no_site c.is_log.ensures (ap not c.if-not-is_log.true)

pub returns-then-flag-station : goal.returns-then-flag-station
returns-then-flag-station c =
    let a = c.args in
    no_kind a.out.now a.log.now (is_wide (C a.flag a.station)) (C a.flag a.station) a.address no_site c.is_log.ensures (ap not c.if-not-is_log.false) c.if-flag-station.true

pub overflow_cast-kind : goal.overflow_cast-kind
overflow_cast-kind c =
    let a = c.args in
    omega (arith, (narrow a.flag a.station c.if-flag-station.false).0)

pub overflow_cast-kind-2 : goal.overflow_cast-kind-2
overflow_cast-kind-2 c =
    let a = c.args in
    omega (arith, (narrow a.flag a.station c.if-flag-station.false).1)

pub returns : goal.returns
returns c =
    let a = c.args in
    worked_out_lem a.out.now a.log.now (is_wide (C a.flag a.station)) (C a.flag a.station) a.address no_site c.is_log.ensures (ap not c.if-not-is_log.false) c.if-flag-station.false
    (c.give_of.ensures ∙ ap (λ (s : Site). given a.out.now (worked_out a.log.now (C a.flag a.station) a.address s)) c.no_site.ensures)
