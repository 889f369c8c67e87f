-- RULES 7.4: the zone count NL of a latitude, from 58 latitudes in units of 10^-8 degree.
use Rattle.std.specs.Prelude.{cond, List, [], ◌∷◌, ℕ, ◌-◌, ◌*◌, suc, ◌<◌, leb, ℤ, nat_abs, ◌≡◌, length, get_or}

-- the 58 latitudes, for NL 59 down to 2
unfoldable pub latitudes : List ℕ
latitudes =
    1047047130 ∷ 1482817437 ∷ 1818626357 ∷ 2102939493 ∷ 2354504487 ∷ 2582924707 ∷
    2793898710 ∷ 2991135686 ∷ 3177209708 ∷ 3353993436 ∷ 3522899598 ∷ 3685025108 ∷
    3841241892 ∷ 3992256684 ∷ 4138651832 ∷ 4280914012 ∷ 4419454951 ∷ 4554626723 ∷
    4686733252 ∷ 4816039128 ∷ 4942776439 ∷ 5067150166 ∷ 5189342469 ∷ 5309516153 ∷
    5427817472 ∷ 5544378444 ∷ 5659318756 ∷ 5772747354 ∷ 5884763776 ∷ 5995459277 ∷
    6104917774 ∷ 6213216659 ∷ 6320427479 ∷ 6426616523 ∷ 6531845310 ∷ 6636171008 ∷
    6739646774 ∷ 6842322022 ∷ 6944242631 ∷ 7045451075 ∷ 7145986473 ∷ 7245884545 ∷
    7345177442 ∷ 7443893416 ∷ 7542056257 ∷ 7639684391 ∷ 7736789461 ∷ 7833374083 ∷
    7929428225 ∷ 8024923213 ∷ 8119801349 ∷ 8213956981 ∷ 8307199445 ∷ 8399173563 ∷
    8489166191 ∷ 8575541621 ∷ 8653536998 ∷ 8700000000 ∷ []

-- the number that belongs to the first entry not below a / d: n for the first of the list, one less from each to the next, and 1 above them all
unfoldable pub first : ℕ → List ℕ → ℕ → ℕ → ℕ
first n [] a d = 1
first n (e ∷ es) a d = cond (leb a (e * d)) n (first (n - 1) es a d)

-- NL of the latitude r / M of 360 degrees, by its absolute value: 360 degrees are 36,000,000,000 units
unfoldable pub zone_count : ℕ → ℤ → ℕ
zone_count M r = first 59 latitudes (nat_abs r * 36000000000) M

-- 58 entries that rise strictly
pub record Rising (es : List ℕ) : Type 0 where
  pub long : length es ≡ 58
  pub rise : (i : ℕ) → i < 57 → get_or es i 0 < get_or es (suc i) 0
