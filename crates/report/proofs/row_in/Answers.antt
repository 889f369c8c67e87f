-- `report::row_in` meets its contract: the row of the track that was looked up, or of a new one.
use Rattle.std.specs.Prelude.{Option, Result, Ok}
use mathlib.Core.Path.{◌≡◌, refl, sym, ap, ◌∙◌}
use Prim.Native.Nat.{ℕ}
use Rattle.refusals.specs.declared.Refusal.{Refusal}
use Rattle.text.specs.declared.Row.{Row}
use Rattle.track.specs.declared.Track.{Track}
use Rattle.track.specs.Held.{track_or_new}
use Rattle.report.specs.Listing.{row_of}
use Rattle.report.proofs.row_in.Goals as goal

-- the track t of an answer y, which is that of the definition
by_answer : (key : ℕ) {r : Row} {t : Track} {x y z : Result (Option Track) Refusal} → r ≡ row_of key t → track_or_new y ≡ t → x ≡ y → x ≡ z → r ≡ row_of key (track_or_new z)
by_answer key p e q h = p ∙ ap (row_of key) (sym e ∙ ap track_or_new (sym q ∙ h))

pub returns-in-Ok-Some : goal.returns-in-Ok-Some
returns-in-Ok-Some c = by_answer _ c.row_of.ensures refl (c.in-Ok-Some.is ∙ ap Ok c.in-Ok-Some.field-0-is) c.look_up.ensures

pub returns-in-Ok-None : goal.returns-in-Ok-None
returns-in-Ok-None c = by_answer _ c.row_of-in-Ok-None.ensures (sym c.new_track.ensures) (c.in-Ok-None.is ∙ ap Ok c.in-Ok-None.field-0-is) c.look_up.ensures

pub returns-in-Err : goal.returns-in-Err
returns-in-Err c = by_answer _ c.row_of-in-Err.ensures (sym c.new_track-in-Err.ensures) c.in-Err.is c.look_up.ensures
