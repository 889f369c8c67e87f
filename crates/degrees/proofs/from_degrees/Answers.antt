-- `degrees::from_degrees` meets its contract: on each way out the answer is what the doubles exactly are, or no place is; and such an answer is the only one.
use Rattle.std.specs.Prelude.{Option, Some, None, Ok, Err, ℤ}
use Rattle.std.specs.Option.{ok_or}
use Rattle.std.proofs.lemmas.Result.{err_from_is_err_and}
use Rattle.std.specs.Result.{result_ok}
use Rattle.std.proofs.Common.{◌≡◌, ℕ, true, false, sym, refl, arith, ap, ◌∙◌, subst, to_z-of_z, w32, SFits}
use Rattle.std.specs.Int.{cast_signed, cast_unsigned}
use Rattle.signs.specs.Raised.{raised}
use Rattle.refusals.specs.declared.Refusal.{Refusal}
use Rattle.refusals.specs.declared.Refusal.TheVariants as refusal
use Rattle.positions.proofs.Signed.{tested}
use Rattle.degrees.specs.Ways.{centred}
use Rattle.degrees.specs.Code.{WholeIs}
use Rattle.degrees.proofs.Places.{no_latitude, no_longitude, far, found_is}
use Rattle.degrees.proofs.Laws.{back_is}
use Rattle.degrees.proofs.Signed.{signed_is}
use Rattle.degrees.proofs.from_degrees.Goals as goal

-- where no number is found the refusal is the one that `ok_or` is given
missing : (w : Option ℤ) (r : Refusal) → ok_or w refusal.Degrees ≡ Err r → (w ≡ None) × (r ≡ refusal.Degrees)
missing None r e = (refl, cc)
missing (Some n) r e = let z : ◌≡◌ {A = ℕ} 0 1 = cc in absurd (omega arith)

pub returns-in_err-latitude : goal.returns-in_err-latitude
returns-in_err-latitude c =
    let p = err_from_is_err_and c.from_residual.result c.from_residual.ensures.1 in
    let g = missing c.units_of.result c.in_err-latitude.field-0.0 (sym c.ok_or.ensures.value ∙ c.in_err-latitude.was) in
    rw (p.1, p.2, g.1) (back_is c.args.d (Err refusal.Degrees) (refl, no_latitude c.args.d c.units_of.result c.units_of.ensures g.0))

pub returns-then-not-pole_to_pole : goal.returns-then-not-pole_to_pole
returns-then-not-pole_to_pole c =
    let d = c.args.d in
    let n = c.in_ok-latitude.latitude in
    -- the latitude's number fits 32 bits, and the double is its figure
    let latitude_is : WholeIs d.latitude (Some n) = subst (WholeIs d.latitude) (c.ok_or.ensures.ok_part ∙ ap result_ok c.in_ok-latitude.was) c.units_of.ensures in
    let up_is : c.raise.result ≡ raised n = c.raise.ensures ∙ ap raised (to_z-of_z {w = w32} (record { sfits = latitude_is.0 })) in
    back_is d (Err refusal.Degrees)
    (refl, far d n latitude_is.1 (tested n c.raise.result up_is false (sym c.pole_to_pole.ensures ∙ c.if-not-pole_to_pole.true)))

pub returns-in_err-n : goal.returns-in_err-n
returns-in_err-n c =
    let p = err_from_is_err_and c.from_residual-in_err-n.result c.from_residual-in_err-n.ensures.1 in
    let g = missing c.units_of-2.result c.in_err-n.field-0.0 (sym c.ok_or-2.ensures.value ∙ c.in_err-n.was) in
    rw (p.1, p.2, g.1) (back_is c.args.d (Err refusal.Degrees) (refl, no_longitude c.args.d c.units_of-2.result c.units_of-2.ensures g.0))

pub returns : goal.returns
returns c =
    let d = c.args.d in
    let n = c.in_ok-latitude.latitude in
    let k = c.in_ok-n.n in
    let latitude_is : WholeIs d.latitude (Some n) = subst (WholeIs d.latitude) (c.ok_or.ensures.ok_part ∙ ap result_ok c.in_ok-latitude.was) c.units_of.ensures in
    let longitude_is : WholeIs d.longitude (Some k) = subst (WholeIs d.longitude) (c.ok_or-2.ensures.ok_part ∙ ap result_ok c.in_ok-n.was) c.units_of-2.ensures in
    let ranged : SFits w32 n = record { sfits = latitude_is.0 } in
    let up_is : c.raise.result ≡ raised n = c.raise.ensures ∙ ap raised (to_z-of_z ranged) in
    let out : ℕ = c.cast_unsigned-longitude.result in
    let ranged_too : SFits w32 k = record { sfits = longitude_is.0 } in
    let out_is : centred out ≡ k =
    sym (signed_is out c.cast_unsigned-longitude.type_inv)
    ∙ ap (cast_signed w32) (c.cast_unsigned-longitude.ensures ∙ ap (cast_unsigned w32) (to_z-of_z ranged_too))
    ∙ to_z-of_z ranged_too in
    rw (to_z-of_z ranged)
    (back_is d (Ok (record { latitude = n; longitude = out }))
    (found_is d n k out latitude_is.1 longitude_is.1
    (tested n c.raise.result up_is true (sym c.pole_to_pole.ensures ∙ c.if-not-pole_to_pole.false))
    out_is c.cast_unsigned-longitude.type_inv))
