-- `slice_table::next` meets its contract: 7, or the smallest key above.
use Rattle.std.specs.Prelude.{Ok, Option}
use Prim.Native.Nat.{ℕ}
use mathlib.Core.Bool.{not}
use mathlib.Core.Path.{ap, sym, ◌∙◌}
use lib.ListN.{length}
use Rattle.rules.specs.Keys.{key_or_end}
use Rattle.slice_places.specs.declared.Sought.{Sought}
use Rattle.slice_table.specs.Code.{smallest}
use Rattle.slice_table.proofs.Ways.{next_not, next_is}
use Rattle.slice_table.proofs.next.Goals as goal

pub returns-then-not-places_fit : goal.returns-then-not-places_fit
returns-then-not-places_fit c = next_not c.args.places.now c.args.head c.args.above (ap not (sym c.places_fit.ensures ∙ c.if-not-places_fit.true))

pub returns : goal.returns
returns c =
    ap (λ (k : Option ℕ). Ok k)
    (c.key_or_end.ensures ∙ ap key_or_end (c.smallest_above.ensures ∙ ap (λ (s : Sought). smallest c.args.places.now s.clock s.key (length c.args.places.now)) c.seek.ensures))
    ∙ next_is c.args.places.now c.args.head c.args.above (ap not (sym c.places_fit.ensures ∙ c.if-not-places_fit.false))
