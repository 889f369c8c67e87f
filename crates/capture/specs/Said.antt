-- RULES 11.5 and 19.3: what the answers say in the rules' terms: a number, or a block's count; a record's time and message, or that the records have ended.
use Rattle.std.specs.Prelude.{ℕ, ◌+◌, cond, List, Result, Ok, Err, Option, Some, None}
use Rattle.refusals.specs.Numbers.{number_of}
use Rattle.refusals.specs.Said.{Said, number, gives}
use Rattle.capture.specs.Block.{part, count_of, time_of, good, has_record, message_of}
use Rattle.capture.specs.declared.Record.{Record}
use Rattle.refusals.specs.declared.Refusal.{Refusal}

-- of a block: its count
abbrev pub block_said : Result ℕ Refusal → Said ℕ
block_said (Ok count) = gives count
block_said (Err r) = number (number_of r)

-- a record's time and the 14 bytes of its message
pub record Timed : Type 0 where
  pub time : ℕ
  pub message : List ℕ

abbrev pub timed : ℕ → List ℕ → Timed
timed t m = record { time = t; message = m }

-- of a record of the block b; the end is no refusal
abbrev pub record_said : List ℕ → Option Record → Said (Option Timed)
record_said b (Some r) = gives (Some (timed r.time (part r.start (r.start + 14) b)))
record_said b None = gives None

-- ---- what is due

-- 11: a block that does not keep the rules
abbrev pub block_table : List ℕ → Said ℕ
block_table b = cond (good b) (gives (count_of b)) (number 11)

-- the record i, if there is one
abbrev pub timed_in : List ℕ → ℕ → Option Timed
timed_in b i = cond (has_record b i) (Some (timed (time_of b i) (message_of b i))) None
