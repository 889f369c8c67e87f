-- What a test that is joined of two says of each, and what a choice by a test has: by the cases of the test.
-- Assumes nothing.
use mathlib.Core.Path.{◌≡◌, refl}
use mathlib.Core.Logic.{◌⊎◌, inl, inr}
use mathlib.Core.Bool.{Bool, true, false, cond, ◌&&◌, ◌||◌, true≢false, false≢true}

pub each : (a b : Bool) → a && b ≡ true → (a ≡ true) × (b ≡ true)
each true b e = (refl, e)
each false b e = absurd (false≢true e)

pub and_left : (a b : Bool) → a && b ≡ true → a ≡ true
and_left a b e = (each a b e).0

pub and_right : (a b : Bool) → a && b ≡ true → b ≡ true
and_right a b e = (each a b e).1

pub not_each : (a b : Bool) → a && b ≡ false → (a ≡ false) ⊎ (b ≡ false)
not_each true b e = inr e
not_each false b e = inl refl

pub and-false : (a : Bool) → a && false ≡ false
and-false true = refl
and-false false = refl

pub either : (a b : Bool) → a || b ≡ true → (a ≡ true) ⊎ (b ≡ true)
either true b e = inl refl
either false b e = inr e

pub neither : (a b : Bool) → a || b ≡ false → (a ≡ false) × (b ≡ false)
neither true b e = absurd (true≢false e)
neither false b e = (refl, e)

pub both : {a b : Bool} → a ≡ true → b ≡ true → a && b ≡ true
both p q = rw (p, q)

-- what is chosen by a test has a property if each of the two has it where it is chosen
pub by_test : {A : Type 0} (P : A → Type 0) (t : Bool) (x y : A) → (t ≡ true → P x) → (t ≡ false → P y) → P (cond t x y)
by_test P true x y p q = p refl
by_test P false x y p q = q refl

-- two ways through a choice agree if they agree on each of the two
pub through : {A B C : Type 0} (f : A → C) (g : B → C) (t : Bool) {a b : A} {x y : B} → f a ≡ g x → f b ≡ g y → f (cond t a b) ≡ g (cond t x y)
through f g true p q = p
through f g false p q = q
