-- RULES 9.8: the next key, of a number that is 0 where there is none.
use Rattle.std.specs.Prelude.{ℕ, cond, eqb, Option, Some, None}

abbrev pub key_or_end : ℕ → Option ℕ
key_or_end key = cond (eqb key 0) None (Some key)
