-- RULES 6.1 to 6.5: altitude and its step. The bits are C1 A1 C2 A2 C4 A4 B1 Q B2 D2 B4 D4.
use Rattle.std.specs.Prelude.{ℕ, ◌+◌, ◌-◌, ◌*◌, ◌%◌, ◌^◌, List, [], ◌∷◌, cond, ◌||◌, eqb, ℤ, pos, ◌-ℤ◌, Option, Some, None, Result, Ok, Err}
use Rattle.refusals.specs.declared.Refusal.TheVariants.{Field}
use Rattle.fields.specs.Packing.{field, wider}
use Rattle.readings.specs.declared.altitude.Altitude.{Altitude}
use Rattle.refusals.specs.declared.Refusal.{Refusal}

-- bit k of the code; bit 1 is the highest
abbrev pub bit : ℕ → ℕ → ℕ
bit k code = field 12 k k code

-- N: the eleven bits other than Q
abbrev pub eleven : ℕ → ℕ
eleven code = field 12 1 7 code * 2 ^ 4 + field 12 9 12 code

-- Gray decoding, the highest bit first: each bit of the number is the bit above it plus the code's bit, modulo 2
unfoldable pub gray_step : ℕ → ℕ → ℕ
gray_step n g = n * 2 + (n % 2 + g) % 2

abbrev pub gray_from : ℕ → List ℕ → ℕ
gray_from n [] = n
gray_from n (g ∷ gs) = gray_from (gray_step n g) gs

-- F: Gray-decode D2 D4 A1 A2 A4 B1 B2 B4
unfoldable pub five_hundreds : ℕ → ℕ
five_hundreds code = gray_from 0 (bit 10 code ∷ bit 12 code ∷ bit 2 code ∷ bit 4 code ∷ bit 6 code ∷ bit 7 code ∷ bit 9 code ∷ bit 11 code ∷ [])

-- H: Gray-decode C1 C2 C4
unfoldable pub hundreds : ℕ → ℕ
hundreds code = gray_from 0 (bit 1 code ∷ bit 3 code ∷ bit 5 code ∷ [])

-- 7 becomes 5
unfoldable pub straight : ℕ → ℕ
straight h = cond (eqb h 7) 5 h

-- if F is odd H becomes 6 - H
unfoldable pub six_less : ℕ → ℕ → ℕ
six_less f h = cond (eqb (f % 2) 1) (6 - h) h

-- H of 0, 5 or 6 is unknown; else the altitude is 500 F + 100 H - 1,300, and its step 100
abbrev pub hundreds_by : {A : Type 0} → (unknown : A) (feet : ℤ → (step : ℕ) → A) (f h : ℕ) → A
hundreds_by unknown feet f h = cond (eqb h 0 || eqb h 5 || eqb h 6) unknown (feet (pos (500 * f + 100 * six_less f (straight h)) -ℤ pos 1300) 100)

-- all zeros is unknown; with Q 1 the altitude is 25 N - 1,000 feet, and its step 25; with Q 0 it goes by hundreds
abbrev pub altitude_by : {A : Type 0} → (unknown : A) (feet : ℤ → (step : ℕ) → A) (code : ℕ) → A
altitude_by unknown feet code =
    cond (eqb code 0) unknown
    (cond (eqb (bit 8 code) 1) (feet (pos (25 * eleven code) -ℤ pos 1000) 25)
    (hundreds_by unknown feet (five_hundreds code) (hundreds code)))

abbrev pub known : ℤ → ℕ → Option Altitude
known feet step = Some (record { feet = feet; step = step })

unfoldable pub altitude_at : ℕ → Option Altitude
altitude_at code = altitude_by None known code

-- a code wider than its bits is refused
unfoldable pub altitude_of : ℕ → Result (Option Altitude) Refusal
altitude_of code = cond (wider 12 code) (Err Field) (Ok (altitude_at code))
