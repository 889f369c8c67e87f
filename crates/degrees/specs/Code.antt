-- What the private functions promise to each other. No public contract cites this file.
use Rattle.std.specs.Prelude.{◌≡◌, ℕ, ◌*◌, ◌<◌, ◌≤◌, Bool, false, ℤ, Float, Option, Some, None}
use Rattle.std.specs.Int.Signed.{mag}
use Rattle.std.specs.Float.{binary64}
use Rattle.std.specs.Float.Ieee.{round}
use Rattle.degrees.specs.Value.{Exactly, degrees_of}

-- the double 360 a, with a sign
abbrev pub whole_of : Bool → ℕ → Float
whole_of s a = round binary64 s (a * 360) 1

-- of a double that is 360 k, r is k; of any other r may be anything
abbrev pub Counted : Float → ℕ → Type 0
Counted y r = (k : ℕ) → k ≤ 2147483648 → y ≡ whole_of false k → r ≡ k

-- of a double that is a figure, r is the number of which it is that; of any other r may be anything
abbrev pub Guessed : Float → ℤ → Type 0
Guessed x r = (n : ℤ) → mag n < 2147483648 → x ≡ degrees_of n → r ≡ n

-- the number of 32 bits of which a double is the figure, if there is one
abbrev pub WholeIs : Float → Option ℤ → Type 0
WholeIs x (Some n) = (mag n < 2147483648) × Exactly x n
WholeIs x None = (n : ℤ) → mag n < 2147483648 → Exactly x n → ⊥
