-- `table::set_up_at` meets its contract: its three ways out are the definition's.
use mathlib.Core.Bool.{not}
use native.Mathlib.Omega.{arith}
use mathlib.Core.Path.{sym, ◌∙◌, ap}
use Rattle.memory.proofs.Counts.{whole_head}
use Rattle.table_bytes.proofs.Parts.{whole}
use Rattle.table.proofs.Answers.{site_size, site_pole, site_on}
use Rattle.table.proofs.set_up_at.Goals as goal

pub returns-then-not-whole_places : goal.returns-then-not-whole_places
returns-then-not-whole_places c = site_size _ c.whole_places.ensures _ (ap not c.if-not-whole_places.true)

pub returns-then-not-pole_to_pole : goal.returns-then-not-pole_to_pole
returns-then-not-pole_to_pole c =
    let a = c.args in
    site_pole _ c.whole_places.ensures a.site (ap not c.if-not-whole_places.false) c.pole_to_pole.ensures (ap not c.if-not-pole_to_pole.true)

pub put_site-requires : goal.put_site-requires
put_site-requires c = (
  omega (arith, c.clear.auto, whole_head _ (whole _ c.whole_places.ensures (ap not c.if-not-whole_places.false))),
  sym c.pole_to_pole.ensures ∙ c.if-not-pole_to_pole.false,
)

pub returns : goal.returns
returns c =
    let a = c.args in
    site_on _ c.whole_places.ensures a.site (ap not c.if-not-whole_places.false) c.pole_to_pole.ensures (ap not c.if-not-pole_to_pole.false) c.clear.ensures c.put_site.ensures
