-- `agree::agrees` meets its contract: the row's own text, or else three latitudes.
use mathlib.Core.Path.{◌≡◌, sym, ap, ap₂, ◌∙◌}
use mathlib.Core.Bool.{◌||◌}
use Rattle.agree.specs.Near.{along, agrees_of, moved, up, down}
use Rattle.agree.proofs.Means.{shown_agrees}
use borrow.Author.Rules.{rules}
use Rattle.agree.proofs.agrees.Goals as goal

pub returns-then-shows : goal.returns-then-shows
returns-then-shows c = sym (shown_agrees _ _ (sym c.shows.ensures ∙ c.if-shows.true))

pub returns : goal.returns
unfolding agrees_of
returns c =
    let a = c.args in
    let y = a.row.latitude in
    let s : c.map.result ≡ moved down y = search rules in
    let n : c.map-2.result ≡ moved up y = search rules in
    ap₂ ◌||◌ (ap₂ ◌||◌
    (c.along.ensures ∙ ap (along a.line.now a.row) s)
    c.along-2.ensures)
    (c.along-3.ensures ∙ ap (along a.line.now a.row) n)
