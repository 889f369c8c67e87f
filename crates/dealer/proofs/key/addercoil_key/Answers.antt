-- `dealer::key::addercoil_key` meets its contract: an array of a wrong length, the key of the frame, or the refusal.
use Prim.Native.Nat.{ℕ}
use mathlib.Core.Path.{refl, ap, ◌∙◌}
use mathlib.Core.List.{[], ◌∷◌}
use Rattle.entries.specs.Sent.{into}
use Rattle.entries.proofs.Ways.{into_wrong, into_right, into_refused, given_list}
use Rattle.dealer.specs.Code.{accepted_key}
use Rattle.dealer.proofs.Keyed.{key_said_lem}
use Rattle.dealer.proofs.key.addercoil_key.Goals as goal

pub returns-then-out-ne1 : goal.returns-then-out-ne1
returns-then-out-ne1 c = into_wrong 1 _ _ c.if-out-ne1.true

pub returns-in-Ok : goal.returns-in-Ok
returns-in-Ok c =
    let a = c.args in
    into_right accepted_key a.out.now c.in-Ok.is 1 c.if-out-ne1.false c.accept-answer.ensures
    (given_list a.out.now (ap (λ (n : ℕ). n ∷ []) c.frame_key.ensures) c.give.ensures)
    ∙ ap (into 1 a.out.now) (key_said_lem a.message.now)

pub returns-in-Err : goal.returns-in-Err
returns-in-Err c =
    let a = c.args in
    into_refused accepted_key a.out.now c.in-Err.is 1 c.if-out-ne1.false c.accept-answer.ensures refl c.number.ensures
    ∙ ap (into 1 a.out.now) (key_said_lem a.message.now)
