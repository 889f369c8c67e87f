-- `addercoil::numbers::encode_into` meets its contract: by whether the fields are a message.
use Rattle.addercoil.proofs.Encoding.{encoded_on, encoded_refused}
use Rattle.addercoil.proofs.numbers.encode_into.Goals as goal

pub returns-in-Ok : goal.returns-in-Ok
returns-in-Ok c = encoded_on _ c.in-Ok.is c.done_number.ensures c.encode.ensures.0 c.encode.ensures.1

pub returns-in-Err : goal.returns-in-Err
returns-in-Err c = encoded_refused _ c.in-Err.is c.number.ensures
