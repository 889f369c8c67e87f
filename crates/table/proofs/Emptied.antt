-- What set-up writes: a table whose bytes after the head are 0 has no place in range, as no key is 0; and the site is read back.
-- Assumes nothing.
use Prim.Native.Nat.{ℕ, suc, zero, ◌+◌, ◌*◌, ◌-◌, ◌%◌, ◌^◌, ◌≤◌, ◌<◌}
use native.Mathlib.Omega.{arith}
use native.Mathlib.Nat.{mod-eq_of_lt}
use mathlib.Core.Bool.{true, false, ◌&&◌}
use mathlib.Core.Logic.{inl, inr}
use mathlib.Core.Path.{◌≡◌, refl, ap, ap₂, sym, ◌∙◌}
use mathlib.Core.List.{List, ◌++◌}
use lib.Dec.{leb, lit<}
use lib.ListN.{length, get_or, replicate, length-replicate}
use borrow.Author.Tests.{le-leb}
use Rattle.fields.specs.Bytes.{Bytes}
use Rattle.fields.proofs.Bools.{both}
use Rattle.memory.specs.Offsets.{head_size, site_latitude_at, site_longitude_at, key_size, key_start}
use Rattle.positions.specs.declared.Spot.{Spot}
use Rattle.positions.specs.Positions.{pole_to_pole}
use Rattle.memory.specs.Bytes.{number_at, low_bytes, put}
use Rattle.place.specs.Place.{above_pole}
use Rattle.memory.specs.Ranges.{in_range}
use Rattle.place.proofs.Latitudes.{above_pole_small, lowered_above}
use Rattle.memory.proofs.Put.{put_length, put_append}
use Rattle.table_bytes.specs.Layout.{site_from, site_of, key_at, emptied, emptied_at}
use Rattle.whereabouts.specs.Located.{no_site}
use Rattle.table_bytes.proofs.Stores.{byte_out, number_agree, number_there, put_bytes, append_bytes, low_bytes_lem}

zeros : (l j : ℕ) → get_or {A = ℕ} (replicate l 0) j 0 ≡ 0
zeros zero j = refl
zeros (suc l) zero = refl
zeros (suc l) (suc j) = zeros l j

pub number_zero : (k : ℕ) (s : List ℕ) (a : ℕ) → ((j : ℕ) → a ≤ j → j < a + k → get_or s j 0 ≡ 0) → number_at k s a ≡ 0
unfolding number_at
number_zero zero s a h = refl
number_zero (suc k) s a h =
    ap₂ (λ (x y : ℕ). x + y * 256) (h a (omega arith) (omega arith)) (number_zero k s (suc a) (λ j p q. h j (omega arith) (omega arith)))

-- ---- nothing after the head

pub no_key : (s : List ℕ) → ((j : ℕ) → head_size ≤ j → get_or s j 0 ≡ 0) → (i : ℕ) (body : List ℕ) → in_range (key_at s i) body ≡ false
unfolding in_range key_at
no_key s rest i body =
    let z : number_at key_size s (key_start i) ≡ 0 = number_zero key_size s (key_start i) (λ j p q. rest j (omega arith)) in
    rw z

-- ---- no site

module _ (s : List ℕ) where
  pub emptied_zero : (j : ℕ) → get_or (emptied s) j 0 ≡ 0
  unfolding emptied
  emptied_zero j = zeros (length s) j

  pub emptied_length : length (emptied s) ≡ length s
  unfolding emptied
  emptied_length = length-replicate (length s) 0

  pub emptied_bytes : Bytes (emptied s)
  emptied_bytes j = rw (emptied_zero j) (lit< tt)

  pub siteless : site_of (emptied s) ≡ no_site
  unfolding site_from
  siteless = ap₂ site_from (number_zero 4 (emptied s) site_latitude_at (λ j p q. emptied_zero j)) (number_zero 4 (emptied s) site_longitude_at (λ j p q. emptied_zero j))

  -- ---- a site

  module _ (spot : Spot) where
    abbrev x : ℕ
    x = above_pole spot.latitude % 4294967296 + 1

    abbrev y : ℕ
    y = spot.longitude

    eight : length (low_bytes 4 x ++ low_bytes 4 y) ≡ 8
    unfolding low_bytes
    eight = refl

    pub site_length : length (emptied_at s spot) ≡ length s
    unfolding emptied_at
    site_length = put_length (emptied s) site_latitude_at (low_bytes 4 x ++ low_bytes 4 y) ∙ emptied_length

    pub site_bytes : Bytes (emptied_at s spot)
    unfolding emptied_at
    site_bytes = put_bytes (emptied s) site_latitude_at (low_bytes 4 x ++ low_bytes 4 y) emptied_bytes (append_bytes (low_bytes 4 x) (low_bytes 4 y) (low_bytes_lem 4 x) (low_bytes_lem 4 y))

    pub before : (j : ℕ) → j < site_latitude_at → get_or (emptied_at s spot) j 0 ≡ 0
    unfolding emptied_at
    before j h = byte_out (low_bytes 4 x ++ low_bytes 4 y) (emptied s) site_latitude_at j (inl h) ∙ emptied_zero j

    pub behind : (j : ℕ) → head_size ≤ j → get_or (emptied_at s spot) j 0 ≡ 0
    unfolding emptied_at
    behind j h = byte_out (low_bytes 4 x ++ low_bytes 4 y) (emptied s) site_latitude_at j (inr (rw eight h)) ∙ emptied_zero j

    -- one number after the other
    abbrev first : List ℕ
    first = put (emptied s) site_latitude_at (low_bytes 4 x)

    in_two : emptied_at s spot ≡ put first site_longitude_at (low_bytes 4 y)
    unfolding emptied_at low_bytes
    in_two = sym (put_append (emptied s) site_latitude_at (low_bytes 4 x) (low_bytes 4 y))

    module _ (size : head_size ≤ length s) (north : pole_to_pole spot.latitude ≡ true) (east : spot.longitude < 2 ^ 32) where
      latitude_there : number_at 4 (emptied_at s spot) site_latitude_at ≡ x
      latitude_there =
          ap (λ (l : List ℕ). number_at 4 l site_latitude_at) in_two
          ∙ number_agree 4 (put first site_longitude_at (low_bytes 4 y)) first site_latitude_at (λ j p q. byte_out (low_bytes 4 y) first site_longitude_at j (inl q))
          ∙ number_there 4 x (emptied s) site_latitude_at (rw emptied_length (omega arith))
          ∙ mod-eq_of_lt (omega (arith, above_pole_small spot.latitude north))

      longitude_there : number_at 4 (emptied_at s spot) site_longitude_at ≡ y
      longitude_there =
          ap (λ (l : List ℕ). number_at 4 l site_longitude_at) in_two
          ∙ number_there 4 y first site_longitude_at (rw (put_length (emptied s) site_latitude_at (low_bytes 4 x) ∙ emptied_length) size)
          ∙ mod-eq_of_lt east

      site_from_lem : site_from x y ≡ record { known = true; spot = spot }
      unfolding site_from
      site_from_lem =
          let e : x - 1 ≡ above_pole spot.latitude % 4294967296 = omega arith in
          let t : leb 1 x && leb x 2147483649 ≡ true = both (le-leb 1 x (omega arith)) (le-leb x 2147483649 (omega (arith, above_pole_small spot.latitude north))) in
          rw (t, e, lowered_above spot.latitude north)

      pub set_up_site : site_of (emptied_at s spot) ≡ record { known = true; spot = spot }
      set_up_site = ap₂ site_from latitude_there longitude_there ∙ site_from_lem
