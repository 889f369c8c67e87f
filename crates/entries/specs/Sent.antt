-- RULES 3.10 and 20.1: what a call hands to another language: its number, and the array that it was lent, as the call leaves it.
use Rattle.std.specs.Prelude.{ℕ, cond, not, List, eqb, length}
use Rattle.refusals.specs.Said.{Said, number, gives}
use Rattle.entries.specs.Arrays.{filled}

pub record Sent : Type 0 where
  pub number : ℕ
  pub array : List ℕ

abbrev pub sent : ℕ → List ℕ → Sent
sent n l = record { number = n; array = l }

-- a refusal's number leaves the array as it was; values fill it, with zeros behind them, and the number is 0
abbrev pub given : List ℕ → Said (List ℕ) → Sent
given out (number n) = sent n out
given out (gives l) = sent 0 (filled (length out) l)

-- into an array of n entries; one of another length is refused with 1 and left as it was
unfoldable pub into : ℕ → List ℕ → Said (List ℕ) → Sent
into n out said = cond (not (eqb (length out) n)) (sent 1 out) (given out said)
