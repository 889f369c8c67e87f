-- The test that fields fit and the statement that they do are the same: by induction over the widths, a field at a time.
-- Assumes nothing.
use Prim.Native.Nat.{ℕ, ◌^◌}
use mathlib.Core.Path.{◌≡◌, refl, sym, subst}
use mathlib.Core.Bool.{Bool, true, false, ◌&&◌}
use mathlib.Core.List.{List, [], ◌∷◌}
use lib.Dec.{T, ltb}
use borrow.Author.Tests.{ltb-true, lt-ltb}
use Rattle.fields.specs.Packing.{unpack, Fit, fits_and, fits}
use Rattle.fields.proofs.Bools.{and_left, and_right}
use Rattle.fields.proofs.Packing.{unpack_fit}

never : {A : Type 0} → false ≡ true → A
never e = absurd (subst (λ (b : Bool). T b) (sym e) tt)

fits_and_ok : (ok : Bool) (ws ds : List ℕ) → fits_and ok ws ds ≡ true → ok ≡ true
fits_and_ok ok [] [] e = e
fits_and_ok ok [] (d ∷ ds) e = cc
fits_and_ok ok (w ∷ ws) [] e = cc
fits_and_ok ok (w ∷ ws) (d ∷ ds) e = and_left ok (ltb d (2 ^ w)) (fits_and_ok (ok && ltb d (2 ^ w)) ws ds e)

fits_and_fit : (ok : Bool) (ws ds : List ℕ) → fits_and ok ws ds ≡ true → Fit ws ds
fits_and_fit ok [] [] e = tt
fits_and_fit ok [] (d ∷ ds) e = never e
fits_and_fit ok (w ∷ ws) [] e = never e
fits_and_fit ok (w ∷ ws) (d ∷ ds) e =
    (ltb-true d (2 ^ w) (and_right ok (ltb d (2 ^ w)) (fits_and_ok (ok && ltb d (2 ^ w)) ws ds e)), fits_and_fit (ok && ltb d (2 ^ w)) ws ds e)

pub fits_fit : (ws ds : List ℕ) → fits ws ds ≡ true → Fit ws ds
fits_fit ws ds e = fits_and_fit true ws ds e

pub fit_fits : (ws ds : List ℕ) → Fit ws ds → fits ws ds ≡ true
fit_fits [] [] f = refl
fit_fits [] (d ∷ ds) f = absurd f
fit_fits (w ∷ ws) [] f = absurd f
fit_fits (w ∷ ws) (d ∷ ds) f = rw (lt-ltb d (2 ^ w) f.0) (fit_fits ws ds f.1)

-- the fields of a number fit
pub unpack_fits : (ws : List ℕ) (n : ℕ) → fits ws (unpack ws n) ≡ true
unpack_fits ws n = fit_fits ws (unpack ws n) (unpack_fit ws n)
