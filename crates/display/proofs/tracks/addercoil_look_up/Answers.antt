-- `display::tracks::addercoil_look_up` meets its contract: an array of a wrong length, or what the table answers.
use mathlib.Core.Path.{refl}
use Rattle.track_rows.specs.Held.{looked_said}
use Rattle.entries.proofs.Ways.{into_wrong, into_right}
use Rattle.display.proofs.tracks.addercoil_look_up.Goals as goal

pub returns-then-out-ne-TRACK : goal.returns-then-out-ne-TRACK
returns-then-out-ne-TRACK c = into_wrong 72 _ _ c.if-out-ne-TRACK.true

pub returns : goal.returns
returns c = into_right (looked_said _) _ refl 72 c.if-out-ne-TRACK.false c.look_up.ensures c.give_held.ensures
