-- `compare::verdict` meets its contract: the table of our own is set up and fed, and its listing compared.
use Rattle.std.specs.Prelude.{Result, ℕ}
use mathlib.Core.Path.{sym, ap, ◌∙◌}
use Rattle.table.specs.Table.{after}
use Rattle.compare.proofs.Ways.{not_refused, whole_fed, verdict_by}
use Rattle.compare.proofs.verdict.Goals as goal
use Rattle.refusals.specs.declared.Refusal.{Refusal}

pub against-requires : goal.against-requires
against-requires c =
    whole_fed c.args.capture.now c.set_up.ensures (ap (λ (x : Result ℕ Refusal). after x c.feed-fed.new.table) (sym c.in-Ok.is) ∙ c.feed-fed.ensures)

pub returns-in-Ok : goal.returns-in-Ok
returns-in-Ok c =
    let a = c.args in
    verdict_by a.capture.now c.set_up.ensures (ap (λ (x : Result ℕ Refusal). after x c.feed-fed.new.table) (sym c.in-Ok.is) ∙ c.feed-fed.ensures) a.listing.now c.against.ensures

pub returns-in-Err : goal.returns-in-Err
returns-in-Err c =
    not_refused c.args.capture.now c.set_up.ensures (ap (λ (x : Result ℕ Refusal). after x c.feed-fed.new.table) (sym c.in-Err.is) ∙ c.feed-fed.ensures)
