-- RULES 11.1 and 11.2: a capture's block of 512 bytes: byte 0 is the count, bytes 1 and 2 are the serial, which isn't tested, bytes 3 to 508 are 23 records of 22 bytes,
-- and bytes 509 to 511 are the three that make the parity remainder 0. Records are counted from 0.
use Rattle.std.specs.Prelude.{ℕ, ◌+◌, ◌-◌, ◌*◌, ◌≤◌, Bool, true, cond, ◌&&◌, List, [], eqb, leb, ltb, length, get_or, take, drop, ◌≡◌, Option, Some, None, Result, Ok, Err}
use Rattle.std.specs.List.{list_all}
use Rattle.refusals.specs.declared.Refusal.TheVariants as refusal
use Rattle.fields.specs.Bytes.{number}
use Rattle.parity.specs.Parity.{remainder}
use Rattle.capture.specs.declared.Record.{Record}
use Rattle.refusals.specs.declared.Refusal.{Refusal}

-- the bytes from one number up to another, counted from 0, the last not included
abbrev pub part : ℕ → ℕ → List ℕ → List ℕ
part from to s = take (to - from) (drop from s)

-- count: byte 0
abbrev pub count_of : List ℕ → ℕ
count_of b = get_or b 0 0

-- where the record i starts: 8 bytes of time, then 14 of message
abbrev pub start_of : ℕ → ℕ
start_of i = 3 + 22 * i

abbrev pub zeros : List ℕ → Bool
zeros s = list_all (λ x. eqb x 0) s

-- ---- the rules

-- 512 bytes; count 1-23; unused records are zero; the parity remainder is 0
unfoldable pub good : List ℕ → Bool
good b =
    eqb (length b) 512
    && leb 1 (count_of b)
    && leb (count_of b) 23
    && zeros (part (start_of (count_of b)) 509 b)
    && eqb (remainder b) 0

-- its count, or 11
abbrev pub block_of : List ℕ → Result ℕ Refusal
block_of b = cond (good b) (Ok (count_of b)) (Err refusal.Block)

-- ---- the records

-- 8-byte time, high byte first
abbrev pub time_of : List ℕ → ℕ → ℕ
time_of b i = number (part (start_of i) (start_of i + 8) b)

-- whether there is a record i
abbrev pub has_record : List ℕ → ℕ → Bool
has_record b i = eqb (length b) 512 && ltb i (count_of b) && ltb i 23

abbrev pub at : ℕ → ℕ → Record
at time start = record { time = time; start = start }

-- the record i, if there is one
unfoldable pub record_of : List ℕ → ℕ → Option Record
record_of b i = cond (has_record b i) (Some (at (time_of b i) (start_of i + 8))) None

-- its message; past the end no bytes
unfoldable pub message_of : List ℕ → ℕ → List ℕ
message_of b i = cond (has_record b i) (part (start_of i + 8) (start_of i + 22) b) []

pub record Kept (b : List ℕ) : Type 0 where
  pub size : length b ≡ 512
  pub some : 1 ≤ count_of b
  pub most : count_of b ≤ 23
  pub unused : zeros (part (start_of (count_of b)) 509 b) ≡ true
  pub parity : remainder b ≡ 0
