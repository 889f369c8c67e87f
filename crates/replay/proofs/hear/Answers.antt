-- `replay::hear` meets its contract: a late message changes nothing, one in time moves the clock, and what the decoder says of it is told.
use Rattle.std.specs.Prelude.{Ok, Err, Option}
use mathlib.Core.Path.{◌≡◌, refl, ap, sym, ◌∙◌}
use native.Mathlib.Omega.{arith}
use Rattle.fields.specs.Bytes.{Bytes}
use Rattle.messages.specs.Accepted.{accepted, opened_as}
use Rattle.track.specs.declared.Track.{Track}
use Rattle.replay.specs.Alone.{own_in, told_of}
use Rattle.replay.proofs.Ways.{with_track, not_own, hears_late, hears_none, hears_frame, refused_none}
use Rattle.replay.proofs.hear.Goals as goal

pub returns-then-time-own : goal.returns-then-time-own
returns-then-time-own c =
    let a = c.args in
    hears_late a.site a.key a.message.now a.time a.own.now c.if-time-own.true

pub returns-then-not-may_be_own : goal.returns-then-not-may_be_own
returns-then-not-may_be_own c =
    let a = c.args in
    let s = a.message.now in
    let h : Bytes s = λ i. omega (arith, c.type_inv.message i) in
    ap (with_track a.time) c.age.ensures
    ∙ hears_none a.site a.key s a.time a.own.now c.if-time-own.false (not_own s a.key c.requires h (sym c.may_be_own.ensures ∙ c.if-not-may_be_own.true))

pub tell-requires : goal.tell-requires
tell-requires c =
    (c.args.message.now, sym c.accept.ensures ∙ c.in-Ok.is)

pub returns-in-Ok : goal.returns-in-Ok
returns-in-Ok c =
    let a = c.args in
    let e : accepted a.message.now ≡ Ok _ = sym c.accept.ensures ∙ c.in-Ok.is in
    hears_frame a.site a.key a.message.now a.time a.own.now c.if-time-own.false _ e
    (c.tell.ensures ∙ ap (λ (x : Option Track). with_track a.time (told_of a.site a.time (own_in a.key (opened_as (Ok c.in-Ok.f))) x)) c.age.ensures)

pub returns-in-Err : goal.returns-in-Err
returns-in-Err c =
    let a = c.args in
    let s = a.message.now in
    let e : accepted s ≡ Err _ = sym c.accept.ensures ∙ c.in-Err.is in
    ap (with_track a.time) c.age.ensures
    ∙ hears_none a.site a.key s a.time a.own.now c.if-time-own.false (refused_none a.site a.key s a.time a.own.now e refl)
