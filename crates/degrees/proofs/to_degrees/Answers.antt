-- `degrees::to_degrees` meets its contract: its test is the definition's, and each figure is exact.
use Rattle.std.proofs.Common.{◌≡◌, true, false, sym, ap, ◌∙◌, arith, to_z-of_z, w32, SFits}
use Rattle.signs.specs.Raised.{raised}
use Rattle.positions.proofs.Signed.{tested}
use Rattle.degrees.specs.Value.{degrees_of}
use Rattle.degrees.proofs.Places.{given_is, refused_is}
use Rattle.degrees.proofs.Signed.{signed_is}
use Rattle.degrees.proofs.to_degrees.Goals as goal

pub returns-then-not-pole_to_pole : goal.returns-then-not-pole_to_pole
returns-then-not-pole_to_pole c =
    let n = c.args.spot.latitude in
    let ranged : SFits w32 n = record { sfits = omega arith } in
    let up_is : c.raise.result ≡ raised n = c.raise.ensures ∙ ap raised (to_z-of_z ranged) in
    refused_is c.args.spot (tested n c.raise.result up_is false (sym c.pole_to_pole.ensures ∙ c.if-not-pole_to_pole.true))

pub returns : goal.returns
returns c =
    let n = c.args.spot.latitude in
    let ranged : SFits w32 n = record { sfits = omega arith } in
    let up_is : c.raise.result ≡ raised n = c.raise.ensures ∙ ap raised (to_z-of_z ranged) in
    given_is c.args.spot c.figure-latitude.result c.figure-longitude.result
    (tested n c.raise.result up_is true (sym c.pole_to_pole.ensures ∙ c.if-not-pole_to_pole.false))
    (c.figure-latitude.ensures ∙ ap degrees_of (to_z-of_z ranged))
    (c.figure-longitude.ensures ∙ ap degrees_of (to_z-of_z {w = w32} (record { sfits = c.cast_signed.type_inv }) ∙ c.cast_signed.ensures ∙ signed_is c.args.spot.longitude (omega arith)))
