-- `agree::along` meets its contract: three longitudes.
use mathlib.Core.Path.{◌≡◌, ap, ap₂, ◌∙◌}
use mathlib.Core.Bool.{◌||◌}
use Rattle.agree.specs.Near.{shows, along, moved, west, east}
use borrow.Author.Rules.{rules}
use Rattle.agree.proofs.along.Goals as goal

pub returns : goal.returns
unfolding along
returns c =
    let a = c.args in
    let x = a.row.longitude in
    let w : c.map.result ≡ moved west x = search rules in
    let e : c.map-2.result ≡ moved east x = search rules in
    ap₂ ◌||◌ (ap₂ ◌||◌
    (c.shows.ensures ∙ ap (shows a.line.now a.row a.latitude) w)
    c.shows-2.ensures)
    (c.shows-3.ensures ∙ ap (shows a.line.now a.row a.latitude) e)
