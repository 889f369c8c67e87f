-- RULES 3.1 and 19.3: what an answer says in the rules' terms: a number, or what it gives instead.
use Rattle.std.specs.Prelude.{ℕ}

pub data Said (A : Type 0) : Type 0 where
  number : ℕ → Said A
  gives : A → Said A
