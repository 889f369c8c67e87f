-- RULES 20.6: positions for another language: a spot as latitude and longitude, a turn and a format as 0 or 1; of fine counts or of coarse ones.
use Rattle.std.specs.Prelude.{ℕ, cond, ◌||◌, List, [], ◌∷◌, eqb, ltb, ℤ, Result, Ok, Err}
use Rattle.refusals.specs.Numbers.{number_of}
use Rattle.refusals.specs.Said.{Said, number, gives}
use Rattle.entries.specs.Twos.{twos}
use Rattle.positions.specs.declared.Size.{Size}
use Rattle.positions.specs.declared.Spot.{Spot}
use Rattle.positions.specs.declared.Turn.{Turn}
use Rattle.positions.specs.declared.Turn.TheVariants.{Airborne, Surface}
use Rattle.positions.specs.declared.Format.{Format}
use Rattle.positions.specs.declared.Format.TheVariants.{Even, Odd}
use Rattle.positions.specs.declared.Counts.{Counts}
use Rattle.positions.specs.Positions.{count_size, encoded, paired, singly}
use Rattle.refusals.specs.declared.Refusal.{Refusal}

-- 0 airborne, 1 surface
abbrev pub turn_of : ℕ → Turn
turn_of surface = cond (eqb surface 0) Airborne Surface

-- 0 even, 1 odd
abbrev pub format_of : ℕ → Format
format_of odd = cond (eqb odd 0) Even Odd

abbrev pub as_counts : ℕ → ℕ → Counts
as_counts latitude longitude = record { latitude = record { 0 = latitude }; longitude = record { 0 = longitude } }

-- the latitude count, the longitude count
abbrev pub counts_said : Result Counts Refusal → Said (List ℕ)
counts_said (Ok c) = gives (c.latitude.0 ∷ c.longitude.0 ∷ [])
counts_said (Err r) = number (number_of r)

-- the latitude, the longitude
abbrev pub spot_values : Spot → Said (List ℕ)
spot_values s = gives (twos s.latitude ∷ s.longitude ∷ [])

abbrev pub spot_said : Result Spot Refusal → Said (List ℕ)
spot_said (Ok s) = spot_values s
spot_said (Err r) = number (number_of r)

-- 8 for a turn or a format that is neither 0 nor 1, or for the latitude
unfoldable pub encode_said : Size → ℤ → ℕ → ℕ → ℕ → Said (List ℕ)
encode_said size latitude longitude surface odd =
    cond (ltb 1 surface || ltb 1 odd) (number 8)
    (counts_said (encoded (count_size size) (record { latitude = latitude; longitude = longitude }) (turn_of surface) (format_of odd)))

-- 8 for a format that is neither 0 nor 1, or for a count; then 9, then 10
unfoldable pub pair_said : Size → Counts → Counts → ℕ → Said (List ℕ)
pair_said size even odd later = cond (ltb 1 later) (number 8) (spot_said (paired (count_size size) even odd (format_of later)))

-- 8 for a turn or a format that is neither 0 nor 1, for a count or for the latitude; then 9
unfoldable pub single_said : Size → ℤ → ℕ → Counts → ℕ → ℕ → Said (List ℕ)
single_said size latitude longitude counts surface odd =
    cond (ltb 1 surface || ltb 1 odd) (number 8)
    (spot_said (singly (count_size size) (record { latitude = latitude; longitude = longitude }) counts (turn_of surface) (format_of odd)))
