-- `positions::pair_fitting` meets its contract: each return is an answer of the definition, by the tests that lead there.
use mathlib.Core.Logic.{inl, inr}
use mathlib.Core.Path.{refl}
use Rattle.positions.specs.declared.Format.TheVariants.{Even, Odd}
use Rattle.positions.proofs.Answers.{pair_far, even_north, odd_north, pair_apart_lem, pair_found_lem}
use Rattle.positions.proofs.pair_fitting.Goals as goal

pub returns-then-r-s : goal.returns-then-r-s
returns-then-r-s c =
    let a = c.args in
    pair_far a.even a.odd c.pair_latitude-r.result c.pair_latitude-s.result c.pair_latitude-r.ensures c.pair_latitude-s.ensures a.later c.if-r-s.true

pub zone_count_at-nl-requires : goal.zone_count_at-nl-requires
zone_count_at-nl-requires c =
    let a = c.args in
    let e = even_north a.even a.odd c.pair_latitude-r.result c.pair_latitude-s.result c.pair_latitude-r.ensures c.pair_latitude-s.ensures c.if-r-s.false in
    (inl refl, record { south = c.pair_latitude-r.ensures.south; north = e })

pub zone_count_at-requires : goal.zone_count_at-requires
zone_count_at-requires c =
    let a = c.args in
    let e = odd_north a.even a.odd c.pair_latitude-r.result c.pair_latitude-s.result c.pair_latitude-r.ensures c.pair_latitude-s.ensures c.if-r-s.false in
    (inr (inl refl), record { south = c.pair_latitude-s.ensures.south; north = e })

pub returns-then-nl-zone_count_at : goal.returns-then-nl-zone_count_at
returns-then-nl-zone_count_at c =
    let a = c.args in
    pair_apart_lem a.even a.odd c.pair_latitude-r.result c.pair_latitude-s.result c.pair_latitude-r.ensures c.pair_latitude-s.ensures
    c.if-r-s.false c.zone_count_at-nl.result c.zone_count_at.result c.zone_count_at-nl.ensures.0 c.zone_count_at.ensures.0
    a.later c.if-nl-zone_count_at.true

pub returns-in-Even : goal.returns-in-Even
returns-in-Even c =
    let a = c.args in
    rw c.in-Even.is
    (pair_found_lem a.even a.odd c.pair_latitude-r.result c.pair_latitude-s.result c.pair_latitude-r.ensures c.pair_latitude-s.ensures
    c.if-r-s.false c.zone_count_at-nl.result c.zone_count_at.result c.zone_count_at-nl.ensures.0 c.zone_count_at.ensures.0
    Even c.if-nl-zone_count_at.false c.pair_spot.result c.pair_spot.ensures)

pub returns-in-Odd : goal.returns-in-Odd
returns-in-Odd c =
    let a = c.args in
    rw c.in-Odd.is
    (pair_found_lem a.even a.odd c.pair_latitude-r.result c.pair_latitude-s.result c.pair_latitude-r.ensures c.pair_latitude-s.ensures
    c.if-r-s.false c.zone_count_at-nl.result c.zone_count_at.result c.zone_count_at-nl.ensures.0 c.zone_count_at.ensures.0
    Odd c.if-nl-zone_count_at.false c.pair_spot-in-Odd.result c.pair_spot-in-Odd.ensures)
