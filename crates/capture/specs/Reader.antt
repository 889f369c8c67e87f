-- RULES 11.5: a reader: it gives one record at a time from the block it was lent, then says it has ended.
use Rattle.std.specs.Prelude.{ℕ, zero, suc, ◌+◌, cond, List, ltb, Option}
use Rattle.std.specs.Borrow.{Bor}
use Rattle.capture.specs.Block.{record_of}
use Rattle.capture.specs.declared.Reader.{Reader}
use Rattle.capture.specs.declared.Record.{Record}

-- the reader of a block, before its first turn
abbrev pub begun : Bor (List ℕ) → Reader
begun b = record { block = b; at = 0 }

-- what it gives: the record that it stands at
abbrev pub gives : Reader → Option Record
gives r = record_of r.block.now r.at

-- the number after a record's; it stays at 23, where every block has ended
abbrev pub after_of : ℕ → ℕ
after_of i = cond (ltb i 23) (i + 1) i

-- one turn: the block stays, and the number moves on
abbrev pub turned : Reader → Reader
turned r = record { block = r.block; at = after_of r.at }

-- so many turns
abbrev pub turns : ℕ → Reader → Reader
turns zero r = r
turns (suc k) r = turned (turns k r)
