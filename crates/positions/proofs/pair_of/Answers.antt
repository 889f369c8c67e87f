-- `positions::pair_of` meets its contract: by the law of Scaled counts of either size, times what makes them counts of 2^17, are those counts.
use mathlib.Core.Path.{◌≡◌, sym, ap₂, ◌∙◌}
use mathlib.Core.Bool.{◌&&◌}
use Rattle.positions.specs.declared.Counts.{Counts}
use Rattle.positions.specs.Positions.{fit, pair_found}
use Rattle.positions.proofs.Scaled.{found_sized}
use Rattle.positions.proofs.pair_of.Goals as goal

pub returns : goal.returns
returns g c =
    let a = c.args in
    let P = g.row.P in
    let tests : (fit P a.even && fit P a.odd) ≡ (c.fits.result && c.fits-2.result) = sym (ap₂ ◌&&◌ c.fits.ensures c.fits-2.ensures) in
    c.pair_fitting.ensures
    ∙ ap₂ (λ (x y : Counts). pair_found 131072 x y a.later) c.finer.ensures.0 c.finer-2.ensures.0
    ∙ found_sized P c.requires a.even a.odd a.later
    ∙ rw (tests ∙ c.if-not-fits.false)
