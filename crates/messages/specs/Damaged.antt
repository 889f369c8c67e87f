-- RULES 4.6: a damaged message: an acceptable one, of whose 112 bits one is flipped.
use Rattle.std.specs.Prelude.{ℕ, ◌≤◌, List, ◌≡◌}
use Rattle.parity.specs.Parity.{flipped}
use Rattle.messages.specs.Accepted.{Acceptable}

pub record Damaged (message : List ℕ) : Type 0 where
  pub sent : List ℕ
  pub acceptable : Acceptable sent
  pub bit : ℕ
  pub from : 1 ≤ bit
  pub to : bit ≤ 112
  pub heard : message ≡ flipped bit sent
