-- RULES 9.1, 9.14 and 9.15: the memory map of a lent table: a head, a column of keys, then a body for each place. Each offset is that of the thing before it and its width.
use Rattle.std.specs.Prelude.{ℕ, ◌+◌, ◌*◌, ◌-◌, ◌/◌, ◌%◌, ◌≤◌, Bool, ◌&&◌, List, eqb, leb, length}

-- ---- the head

abbrev pub clock_at : ℕ
clock_at = 0

abbrev pub site_latitude_at : ℕ
site_latitude_at = clock_at + 8

abbrev pub site_longitude_at : ℕ
site_longitude_at = site_latitude_at + 4

abbrev pub head_size : ℕ
head_size = site_longitude_at + 4

-- ---- a body

abbrev pub heard_at : ℕ
heard_at = 0

abbrev pub identification_at : ℕ
identification_at = heard_at + 8

abbrev pub velocity_at : ℕ
velocity_at = identification_at + 7

abbrev pub surface_at : ℕ
surface_at = velocity_at + 7

abbrev pub status_at : ℕ
status_at = surface_at + 7

abbrev pub marks_at : ℕ
marks_at = status_at + 7

abbrev pub latitude_at : ℕ
latitude_at = marks_at + 4

abbrev pub longitude_at : ℕ
longitude_at = latitude_at + 4

abbrev pub time_at : ℕ
time_at = longitude_at + 4

-- an encoded position: its number, then its time
abbrev pub saved_time_at : ℕ
saved_time_at = 5

abbrev pub saved_size : ℕ
saved_size = saved_time_at + 8

abbrev pub even_at : ℕ
even_at = time_at + 8

abbrev pub odd_at : ℕ
odd_at = even_at + saved_size

abbrev pub body_size : ℕ
body_size = odd_at + saved_size

-- ---- the places

abbrev pub key_size : ℕ
key_size = 4

abbrev pub place_size : ℕ
place_size = key_size + body_size

abbrev pub most_places : ℕ
most_places = 1024

-- the key of the place i
abbrev pub key_start : ℕ → ℕ
key_start i = head_size + key_size * i

-- of n places the body of the one at i
abbrev pub body_start : ℕ → ℕ → ℕ
body_start n i = head_size + key_size * n + body_size * i

-- how many bytes n places have
abbrev pub table_size : ℕ → ℕ
table_size n = head_size + place_size * n

-- 1 to 1,024 whole places
unfoldable pub whole_places : ℕ → Bool
whole_places l = leb (table_size 1) l && leb l (table_size most_places) && eqb (l % place_size) head_size

abbrev pub places_in : List ℕ → ℕ
places_in s = (length s - head_size) / place_size

-- bytes that have room for n places
abbrev pub Room : ℕ → List ℕ → Type 0
Room n s = (n ≤ most_places) × (table_size n ≤ length s)
