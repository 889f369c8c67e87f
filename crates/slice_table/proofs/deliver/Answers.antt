-- `slice_table::deliver` meets its contract: what is refused stays so, the place that the scan chose is stepped, and without one the message is turned away.
use mathlib.Core.Path.{◌≡◌, ap, sym, ◌∙◌}
use Prim.Native.Nat.{ℕ}
use mathlib.Core.List.{List}
use lib.ListN.{length}
use Rattle.slice_places.specs.declared.Place.{Place}
use Rattle.slice_places.specs.declared.Sought.{Sought}
use Rattle.slice_table.specs.declared.Found.{Found}
use Rattle.slice_places.specs.Ranges.{no_place}
use Rattle.slice_places.specs.Arrivals.{next_of}
use Rattle.std.proofs.lemmas.List.{get_or_default}
use Rattle.slice_table.specs.Code.{scanned, chosen}
use Rattle.slice_table.proofs.Delivered.{delivered_refused, delivered_at, delivered_none}
use Rattle.slice_table.proofs.deliver.Goals as goal

chosen_in : (ps : List Place) {i : ℕ} {f : Found} {s t : Sought} → i ≡ chosen f (length ps) → f ≡ scanned ps s (length ps) → s ≡ t → i ≡ chosen (scanned ps t (length ps)) (length ps)
chosen_in ps e f g = e ∙ ap (λ (x : Found). chosen x (length ps)) (f ∙ ap (λ (x : Sought). scanned ps x (length ps)) g)

pub returns-then-is_err : goal.returns-then-is_err
returns-then-is_err c = delivered_refused c.args.places.now c.args.due (sym c.is_err.ensures.value ∙ c.if-is_err.true)

pub returns-then-i-places : goal.returns-then-i-places
returns-then-i-places c =
    delivered_at c.args.places.now c.args.due (sym c.is_err.ensures.value ∙ c.if-is_err.false) c.choose-i.result
    (chosen_in c.args.places.now c.choose-i.ensures c.scan.ensures c.sought_by.ensures) c.if-i-places.true c.next_of-next.result
    (c.next_of-next.ensures ∙ ap (next_of c.args.due) (get_or_default c.args.places.now c.choose-i.result _ no_place c.if-i-places.true))

pub returns : goal.returns
returns c =
    delivered_none c.args.places.now c.args.due (sym c.is_err.ensures.value ∙ c.if-is_err.false) c.choose-i.result
    (chosen_in c.args.places.now c.choose-i.ensures c.scan.ensures c.sought_by.ensures) c.if-i-places.false c.turned_away.result c.turned_away.ensures
