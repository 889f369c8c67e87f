-- `addercoil::numbers::addercoil_encode` meets its contract: an array of a wrong length, or what the encoder answers and leaves.
use Rattle.addercoil.proofs.Encoding.{encode_wrong, encode_right}
use Rattle.addercoil.proofs.numbers.addercoil_encode.Goals as goal

pub returns-then-fields-message : goal.returns-then-fields-message
returns-then-fields-message c = encode_wrong _ _ c.if-fields-message.true

pub returns : goal.returns
returns c = encode_right _ _ c.if-fields-message.false c.message_from.ensures c.encode_into.ensures
