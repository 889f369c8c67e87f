-- `dealer::joint::addercoil_merge` meets its contract: an array of a wrong length, or what the crate below answers.
use mathlib.Core.Path.{refl}
use Rattle.dealer.proofs.Joining.{not_one, text_joint, number_joint}
use Rattle.dealer.proofs.joint.addercoil_merge.Goals as goal

pub returns-then-written-ne1 : goal.returns-then-written-ne1
returns-then-written-ne1 c = not_one _ _ _ _ c.if-written-ne1.true

pub returns-in-Ok : goal.returns-in-Ok
returns-in-Ok c =
    text_joint _ _ _ _ c.if-written-ne1.false c.merge-merged.ensures c.in-Ok.is refl

pub returns-in-Err : goal.returns-in-Err
returns-in-Err c =
    number_joint _ _ _ _ c.if-written-ne1.false c.merge-merged.ensures c.in-Err.is c.number.ensures
