-- RULES 2.1 and 5.2: bit fields of a number, and layouts: lists of widths in bits, the highest field first.
use Rattle.std.specs.Prelude.{ℕ, ◌+◌, ◌-◌, ◌*◌, ◌/◌, ◌%◌, ◌^◌, ◌<◌, List, [], ◌∷◌, Bool, true, false, ◌&&◌, leb, ltb}

-- bits from .. to of the number n, which has w bits; bit 1 is the highest
abbrev pub field : ℕ → ℕ → ℕ → ℕ → ℕ
field w from to n = n / 2 ^ (w - to) % 2 ^ (to + 1 - from)

-- .. of ME, which has 56
abbrev pub me : ℕ → ℕ → ℕ → ℕ
me from to n = field 56 from to n

-- a code of so many bits is below 2 to that power, and else is wider
abbrev pub wider : ℕ → ℕ → Bool
wider bits code = leb (2 ^ bits) code

-- how many bits a layout has
abbrev pub total : List ℕ → ℕ
total [] = 0
total (w ∷ ws) = w + total ws

-- the number whose fields, of these widths, are these
abbrev pub pack : List ℕ → List ℕ → ℕ
pack [] ds = 0
pack (w ∷ ws) [] = 0
pack (w ∷ ws) (d ∷ ds) = d * 2 ^ total ws + pack ws ds

-- the fields of a number, of these widths
abbrev pub unpack : List ℕ → ℕ → List ℕ
unpack [] n = []
unpack (w ∷ ws) n = n / 2 ^ total ws % 2 ^ w ∷ unpack ws n

-- there is a field for each width, and each is below 2 to its width
abbrev pub Fit : List ℕ → List ℕ → Type 0
Fit [] [] = Unit
Fit [] (d ∷ ds) = ⊥
Fit (w ∷ ws) [] = ⊥
Fit (w ∷ ws) (d ∷ ds) = (d < 2 ^ w) × Fit ws ds

-- the same as a test, one field after the other
abbrev pub fits_and : Bool → List ℕ → List ℕ → Bool
fits_and ok [] [] = ok
fits_and ok [] (d ∷ ds) = false
fits_and ok (w ∷ ws) [] = false
fits_and ok (w ∷ ws) (d ∷ ds) = fits_and (ok && ltb d (2 ^ w)) ws ds

abbrev pub fits : List ℕ → List ℕ → Bool
fits ws ds = fits_and true ws ds
