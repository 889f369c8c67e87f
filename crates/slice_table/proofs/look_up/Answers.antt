-- `slice_table::look_up` meets its contract: 7, or what the place of the key holds, if there is one.
use Rattle.std.specs.Prelude.{Ok, Some}
use mathlib.Core.Path.{◌≡◌, refl, ap, sym, ◌∙◌}
use mathlib.Core.Bool.{not}
use Prim.Native.Nat.{ℕ}
use mathlib.Core.List.{List}
use lib.ListN.{length}
use Rattle.slice_places.specs.declared.Place.{Place}
use Rattle.slice_places.specs.declared.Sought.{Sought}
use Rattle.slice_table.specs.declared.Found.{Found}
use Rattle.track.specs.declared.Track.{Track}
use Rattle.slice_places.specs.Ranges.{no_place, meaning_of}
use Rattle.std.proofs.lemmas.List.{get_or_default}
use Rattle.slice_table.specs.Code.{scanned}
use Rattle.slice_table.proofs.Ways.{looked_not, looked_held, looked_none}
use Rattle.slice_table.proofs.look_up.Goals as goal

own_in : (ps : List Place) {i : ℕ} {f : Found} {s t : Sought} → i ≡ f.own → f ≡ scanned ps s (length ps) → s ≡ t → i ≡ (scanned ps t (length ps)).own
own_in ps e f g = e ∙ ap (λ (x : Found). x.own) (f ∙ ap (λ (x : Sought). scanned ps x (length ps)) g)

pub returns-then-not-places_fit : goal.returns-then-not-places_fit
returns-then-not-places_fit c = looked_not c.args.places.now c.args.head c.args.key (ap not (sym c.places_fit.ensures ∙ c.if-not-places_fit.true))

pub returns-then-i-places : goal.returns-then-i-places
returns-then-i-places c =
    let a = c.args in
    ap (λ (t : Track). Ok (Some t)) (c.look_at.ensures ∙ ap meaning_of (get_or_default a.places.now c.scan-i.result.own _ no_place c.if-i-places.true))
    ∙ looked_held a.places.now a.head a.key (ap not (sym c.places_fit.ensures ∙ c.if-not-places_fit.false)) c.scan-i.result.own
    (own_in a.places.now refl c.scan-i.ensures c.seek.ensures) c.if-i-places.true

pub returns-else-i-places : goal.returns-else-i-places
returns-else-i-places c =
    let a = c.args in
    looked_none a.places.now a.head a.key (ap not (sym c.places_fit.ensures ∙ c.if-not-places_fit.false)) c.scan-i.result.own
    (own_in a.places.now refl c.scan-i.ensures c.seek.ensures) c.if-i-places.false
