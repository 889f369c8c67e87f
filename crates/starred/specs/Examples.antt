-- RULES 1.10: the examples that are proved together: one list, each line a question and its answer.
use Rattle.std.specs.Prelude.{ℕ, suc, ◌*◌, ◌/◌, List, [], ◌∷◌, ℤ, pos, neg_ℤ}
use Rattle.refusals.specs.Said.{Said}
use Rattle.refusals.specs.Said as said
use Rattle.readings.specs.Altitude.{altitude_of}
use Rattle.readings.specs.Amounts.{speed_of, rate_of}
use Rattle.readings.specs.Said.{Amount, unknown, figure, in_steps, altitude_said, speed_said, rate_said}
use Rattle.positions.specs.declared.Counts.{Counts}
use Rattle.positions.specs.declared.Spot.{Spot}
use Rattle.positions.specs.declared.Turn.TheVariants.{Airborne, Surface}
use Rattle.positions.specs.declared.Format.{Format}
use Rattle.positions.specs.declared.Format.TheVariants.{Even, Odd}
use Rattle.positions.specs.Positions.{encoded, paired, singly}
use Rattle.positions.specs.Said.{encoded_said, found_said}
use Rattle.positions.specs.Zones.{zone_count}
use Rattle.parity.specs.Parity.{remainder}
use Rattle.messages.specs.Message.{decoded}
use Rattle.messages.specs.Said as table

-- ---- what is asked, and how it is answered

pub data Question : Type 0 where
  -- the altitude of a code, with its step
  altitude? : ℕ → Question
  -- the spot of an even and an odd pair of counts, by the one of this format
  pair? : (even odd : Counts) → Format → Question
  -- the counts of an airborne spot
  counts? : Spot → Format → Question
  -- NL of so many even counts from the equator
  zones? : ℕ → Question
  -- the spot of surface counts near a site
  near? : Counts → Spot → Format → Question
  -- what bytes leave on division, and how they are taken
  rest? message? : List ℕ → Question
  -- the speed of a direction and a code in subtype 1; the rate of a sign and a code
  knots? rate? : ℕ → ℕ → Question

pub data Answer : Type 0 where
  taken : Answer
  amount : Amount → Answer
  located : Spot → Answer
  two : Counts → Answer
  many : ℕ → Answer
  -- the number of a refusal
  number : ℕ → Answer

-- a number of the table, or what is given instead
abbrev pub answered : {A : Type 0} → (A → Answer) → Said A → Answer
answered f (said.number n) = number n
answered f (said.gives x) = f x

-- the answer that the definitions give
unfoldable pub answer : Question → Answer
answer (altitude? code) = answered amount (altitude_said (altitude_of code))
answer (pair? even odd later) = answered located (found_said (paired 131072 even odd later))
answer (counts? spot format) = answered two (encoded_said (encoded 131072 spot Airborne format))
answer (zones? n) = many (zone_count (60 * 131072) (pos n))
answer (near? counts site format) = answered located (found_said (singly 131072 site counts Surface format))
answer (rest? bytes) = many (remainder bytes)
answer (message? bytes) = answered (λ _. taken) (table.said (decoded bytes))
answer (knots? direction code) = answered amount (speed_said (speed_of 1 direction code))
answer (rate? sign code) = answered amount (rate_said (rate_of sign code))

-- ---- an example: a question and the answer to it

infix 70 ◌is◌
pub data Example : Type 0 where
  ◌is◌ : Question → Answer → Example

abbrev pub answer_to : Example → Answer
answer_to (q is a) = answer q

abbrev pub due : Example → Answer
due (q is a) = a

-- ---- the examples

-- a figure under zero
abbrev pub minus : ℕ → ℤ
minus n = neg_ℤ (pos n)

-- degrees in 2^-32 of 360, and in even counts
abbrev pub degrees : ℕ → ℕ
degrees d = d * 4294967296 / 360

abbrev pub even_counts : ℕ → ℕ
even_counts d = d * (60 * 131072) / 360

abbrev pub spot : ℤ → ℕ → Spot
spot latitude longitude = record { latitude = latitude; longitude = longitude }

abbrev pub at : ℕ → ℕ → Counts
at latitude longitude = record { latitude = record { 0 = latitude }; longitude = record { 0 = longitude } }

-- 14 bytes, and the same with bit 88 set
abbrev pub zeros : List ℕ
zeros = 0 ∷ 0 ∷ 0 ∷ 0 ∷ 0 ∷ 0 ∷ 0 ∷ 0 ∷ 0 ∷ 0 ∷ 0 ∷ 0 ∷ 0 ∷ 0 ∷ []

abbrev pub bit88 : List ℕ
bit88 = 0 ∷ 0 ∷ 0 ∷ 0 ∷ 0 ∷ 0 ∷ 0 ∷ 0 ∷ 0 ∷ 0 ∷ 1 ∷ 0 ∷ 0 ∷ 0 ∷ []

-- direction 1 is west, sign 0 up
abbrev pub west : ℕ
west = 1

abbrev pub up : ℕ
up = 0

unfoldable pub examples : List Example
examples =
    -- Altitude 128 is -1,200; 2050 is -700; 16 is -1,000; 888 is 10,000; 2688 is unknown. The steps are those of RULES 6.5.
    altitude? 128 is amount (in_steps (minus 1200) 100)
    ∷ altitude? 2050 is amount (in_steps (minus 700) 100)
    ∷ altitude? 16 is amount (in_steps (minus 1000) 25)
    ∷ altitude? 888 is amount (in_steps (pos 10000) 25)
    ∷ altitude? 2688 is amount unknown
    -- Counts 65536 even, 49152 odd, longitudes 65536, 32768: 45 N, 90 E.
    ∷ pair? (at 65536 65536) (at 49152 32768) Even is located (spot (pos (degrees 45)) (degrees 90))
    ∷ pair? (at 65536 65536) (at 49152 32768) Odd is located (spot (pos (degrees 45)) (degrees 90))
    -- -45 gives latitude counts 65536 and 81920.
    ∷ counts? (spot (minus (degrees 45)) (degrees 90)) Even is two (at 65536 65536)
    ∷ counts? (spot (minus (degrees 45)) (degrees 90)) Odd is two (at 81920 32768)
    -- Latitudes 0 even, 65536 odd: 9.
    ∷ pair? (at 0 0) (at 65536 0) Even is number 9
    ∷ pair? (at 0 0) (at 65536 0) Odd is number 9
    -- 87 degrees exactly: NL 2; one even count more: 1.
    ∷ zones? (even_counts 87) is many 2
    ∷ zones? (suc (even_counts 87)) is many 1
    -- Surface even, counts 0 and 0, site 45 N 90 E: the site.
    ∷ near? (at 0 0) (spot (pos (degrees 45)) (degrees 90)) Even is located (spot (pos (degrees 45)) (degrees 90))
    -- 14 zero bytes: 4. Only bit 88 set: remainder FFF409, so 3.
    ∷ message? zeros is number 4
    ∷ rest? bit88 is many 0xFFF409
    ∷ message? bit88 is number 3
    -- West, code 1: 0. Rate 510: 32,576.
    ∷ knots? west 1 is amount (figure (pos 0))
    ∷ rate? up 510 is amount (figure (pos 32576))
    ∷ []
