-- RULES 9.5 and 9.8: the two searches among things that are numbered: the lowest that passes a test, and the smallest key above a given one.
use Rattle.std.specs.Prelude.{ℕ, zero, suc, Bool, cond, ◌&&◌, ◌||◌, eqb, ltb}

-- the lowest number below n that passes the test; n if none does
abbrev pub lowest : (ℕ → Bool) → ℕ → ℕ
lowest p zero = zero
lowest p (suc n) = cond (ltb (lowest p n) n) (lowest p n) (cond (p n) n (suc n))

-- a key lies above a given one, and below the best so far, 0 for none
abbrev pub beats : ℕ → ℕ → ℕ → Bool
beats above best key = ltb above key && (eqb best 0 || ltb key best)

-- the lesser of the best key so far and another, if that is held and above
unfoldable pub better : ℕ → ℕ → ℕ → Bool → ℕ
better above best key held = cond (beats above best key && held) key best

-- the smallest key above that the first n hold; 0 if there is none
abbrev pub smallest : (ℕ → ℕ) → (ℕ → Bool) → ℕ → ℕ → ℕ
smallest key held above zero = 0
smallest key held above (suc n) = better above (smallest key held above n) (key n) (held n)
