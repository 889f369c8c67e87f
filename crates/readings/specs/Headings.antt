-- RULES 5.4 and 17.8: headings: a code of so many bits is that part of a turn, in units of 2^-32 of a turn.
use Rattle.std.specs.Prelude.{ℕ, ◌-◌, ◌*◌, ◌^◌, cond, Result, Ok, Err}
use Rattle.refusals.specs.declared.Refusal.TheVariants.{Field}
use Rattle.fields.specs.Packing.{wider}
use Rattle.refusals.specs.declared.Refusal.{Refusal}

-- n of b bits is n / 2^b of a turn: n/1024 in TYPE 19, n/128 on the surface, n/32 in a coarse message
abbrev pub turn_of : ℕ → ℕ → ℕ
turn_of bits code = code * 2 ^ (32 - bits)

abbrev pub heading_of : ℕ → ℕ → Result ℕ Refusal
heading_of bits code = cond (wider bits code) (Err Field) (Ok (turn_of bits code))
