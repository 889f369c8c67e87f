-- RULES 2.13 to 2.15: a track's key: AA with its kind, I, O, T, M or N, or C with a flag and a station.
-- In one number the kind stands above the 24 bits of the address, and of C, whose keys are above all others, the flag and the station below them.
use Rattle.std.specs.Prelude.{ℕ, ◌+◌, ◌-◌, ◌*◌, ◌/◌, ◌%◌, ◌^◌, Bool, true, false, cond, ◌&&◌, ◌||◌, List, [], ◌∷◌, leb, ltb, length, get_or}
use Rattle.keys.specs.declared.Kind.{Kind}
use Rattle.keys.specs.declared.Kind.TheVariants.{I, O, T, M, N, C}

-- how many addresses there are, flags and stations: each is below
abbrev pub addresses : ℕ
addresses = 2 ^ 24

abbrev pub flags : ℕ
flags = 2

abbrev pub stations : ℕ
stations = 16

-- the kinds in the order of their keys, but for C, which is behind them
abbrev pub kinds : List Kind
kinds = I ∷ O ∷ T ∷ M ∷ N ∷ []

-- each with its number, the top byte of its keys: its place in the list, counted from 1; of C, which has 32 of them, the first
abbrev pub number_of : Kind → ℕ
number_of I = 1
number_of O = 2
number_of T = 3
number_of M = 4
number_of N = 5
number_of (C flag station) = 128

-- .. and its letter, in ASCII
abbrev pub letter_of : Kind → ℕ
letter_of I = 73
letter_of O = 79
letter_of T = 84
letter_of M = 77
letter_of N = 78
letter_of (C flag station) = 67

-- whether a ground station's traffic service sends it
abbrev pub is_traffic : Kind → Bool
is_traffic I = false
is_traffic O = false
is_traffic T = true
is_traffic M = true
is_traffic N = true
is_traffic (C flag station) = true

-- whether its messages are the coarse ones
abbrev pub is_coarse : Kind → Bool
is_coarse I = false
is_coarse O = false
is_coarse T = false
is_coarse M = false
is_coarse N = false
is_coarse (C flag station) = true

-- the kind with a number; one below the first counts with the first, one above the last with the last
abbrev pub kind_at : ℕ → Kind
kind_at number = get_or kinds (number - 1) N

-- whether some kind has the number
abbrev pub is_kind : ℕ → Bool
is_kind number = leb 1 number && leb number (length kinds)

-- the 24 bits of an address
abbrev pub low24 : ℕ → ℕ
low24 address = address % addresses

-- what counts of a kind: of a flag its lowest bit, and of a station the low 4
abbrev pub low_kind : Kind → Kind
low_kind I = I
low_kind O = O
low_kind T = T
low_kind M = M
low_kind N = N
low_kind (C flag station) = C (flag % flags) (station % stations)

-- where the keys of C begin
abbrev pub first_coarse : ℕ
first_coarse = number_of (C 0 0) * addresses

-- the key of a number and an address
abbrev pub numbered : ℕ → ℕ → ℕ
numbered number address = number * addresses + low24 address

-- the key of a kind and an address
abbrev pub key_for : Kind → ℕ → ℕ
key_for I address = numbered (number_of I) address
key_for O address = numbered (number_of O) address
key_for T address = numbered (number_of T) address
key_for M address = numbered (number_of M) address
key_for N address = numbered (number_of N) address
key_for (C flag station) address = first_coarse + flags * stations * low24 address + stations * (flag % flags) + station % stations

-- above every key
abbrev pub end_of_keys : ℕ
end_of_keys = first_coarse + flags * stations * addresses

-- whether a number is a key
abbrev pub is_key : ℕ → Bool
is_key key = leb (number_of I * addresses) key && ltb key ((length kinds + 1) * addresses) || leb first_coarse key && ltb key end_of_keys

-- whether a key is one of C
abbrev pub coarse_in : ℕ → Bool
coarse_in key = leb first_coarse key

-- .. and then its flag and its station
abbrev pub flag_in : ℕ → ℕ
flag_in key = key / stations % flags

abbrev pub station_in : ℕ → ℕ
station_in key = key % stations

-- a key's kind
abbrev pub kind_in : ℕ → Kind
kind_in key = cond (coarse_in key) (C (flag_in key) (station_in key)) (kind_at (key / addresses))

-- a key's letter
abbrev pub letter_in : ℕ → ℕ
letter_in key = letter_of (kind_in key)

-- whether a ground station's traffic service sends its messages
abbrev pub traffic_in : ℕ → Bool
traffic_in key = is_traffic (kind_in key)

-- a key's address
abbrev pub address_in : ℕ → ℕ
address_in key = low24 (cond (coarse_in key) (key / (flags * stations)) key)
