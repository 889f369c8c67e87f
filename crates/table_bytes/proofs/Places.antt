-- What a move of the clock and a stored track do to the head and the places of a table: each offset is in or out of what is written.
-- Assumes nothing.
use Prim.Native.Nat.{ℕ, ◌+◌, ◌^◌, ◌≤◌, ◌<◌}
use native.Mathlib.Omega.{arith}
use native.Mathlib.Nat.{eq-or-lt_of_le, mod-eq_of_lt}
use mathlib.Core.Logic.{◌⊎◌, inl, inr, ⊎_elim}
use mathlib.Core.Path.{◌≡◌, ap₂, sym, ◌∙◌}
use mathlib.Core.List.{List}
use lib.ListN.{length, get_or, take, drop}
use Rattle.fields.specs.Bytes.{Bytes}
use Rattle.memory.specs.Offsets.{clock_at, site_latitude_at, site_longitude_at, head_size, key_size, body_size, key_start, body_start, table_size}
use Rattle.positions.proofs.Shift.{order}
use Rattle.track.specs.declared.Track.{Track}
use Rattle.memory.specs.Bytes.{number_at, low_bytes, put}
use Rattle.place.specs.Place.{body_of}
use Rattle.memory.proofs.Numbers.{low_length}
use Rattle.memory.proofs.Put.{put_length}
use Rattle.place.proofs.Sizes.{body_length}
use Rattle.table_bytes.specs.Layout.{clock_of, site_from, site_of, place_as, key_at, body_at, place_at, moved, stored}
use Rattle.table_bytes.proofs.Stores.{byte_out, number_agree, number_there, part_agree, part_there, put_bytes, low_bytes_lem, body_bytes}

-- ---- equal bytes

place_agree : (s t : List ℕ) (n i : ℕ) → length s ≡ length t → ((k : ℕ) → key_start i ≤ k → k < key_start i + key_size → get_or s k 0 ≡ get_or t k 0)
    → ((k : ℕ) → body_start n i ≤ k → k < body_start n i + body_size → get_or s k 0 ≡ get_or t k 0) → place_at s n i ≡ place_at t n i
unfolding key_at body_at
place_agree s t n i l p q = ap₂ place_as (number_agree 4 s t (key_start i) p) (part_agree s t (body_start n i) body_size l q)

site_agree : (s t : List ℕ) → ((k : ℕ) → site_latitude_at ≤ k → k < head_size → get_or s k 0 ≡ get_or t k 0) → site_of s ≡ site_of t
site_agree s t h = ap₂ site_from (number_agree 4 s t site_latitude_at (λ k a b. h k a (omega arith))) (number_agree 4 s t site_longitude_at (λ k a b. h k (omega arith) b))

-- ---- the clock moves

module _ (s : List ℕ) (t : ℕ) where
  pub moved_length : length (moved s t) ≡ length s
  unfolding moved
  moved_length = put_length s clock_at (low_bytes 8 t)

  moved_out : (k : ℕ) → site_latitude_at ≤ k → get_or (moved s t) k 0 ≡ get_or s k 0
  unfolding moved
  moved_out k h = byte_out (low_bytes 8 t) s clock_at k (inr (rw (low_length 8 t) h))

  pub moved_clock : site_latitude_at ≤ length s → t < 2 ^ 64 → clock_of (moved s t) ≡ t
  unfolding moved
  moved_clock l h = number_there 8 t s clock_at l ∙ mod-eq_of_lt h

  pub moved_site : site_of (moved s t) ≡ site_of s
  moved_site = site_agree (moved s t) s (λ k a b. moved_out k a)

  pub moved_bytes : Bytes s → Bytes (moved s t)
  unfolding moved
  moved_bytes h = put_bytes s clock_at (low_bytes 8 t) h (low_bytes_lem 8 t)

  pub place_head : (n j : ℕ) → place_at (moved s t) n j ≡ place_at s n j
  place_head n j = place_agree (moved s t) s n j moved_length (λ k a b. moved_out k (omega arith)) (λ k a b. moved_out k (omega arith))

-- ---- a track stored at a place

apart : (j i : ℕ) → (j ≡ i → ⊥) → (j < i) ⊎ (i < j)
apart j i ne = ⊎_elim (λ (x : i ≤ j). inr (⊎_elim (λ (y : i ≡ j). absurd (ne (sym y))) (λ (y : i < j). y) (eq-or-lt_of_le x))) inl (order j i)

module _ (s : List ℕ) (n i key : ℕ) (t : Track) where
  abbrev keyed : List ℕ
  keyed = put s (key_start i) (low_bytes 4 key)

  pub stored_length : length (stored s n i key t) ≡ length s
  unfolding stored
  stored_length = put_length keyed (body_start n i) (body_of t) ∙ put_length s (key_start i) (low_bytes 4 key)

  pub stored_bytes : Bytes s → Bytes (stored s n i key t)
  unfolding stored
  stored_bytes h = put_bytes keyed (body_start n i) (body_of t) (put_bytes s (key_start i) (low_bytes 4 key) h (low_bytes_lem 4 key)) (body_bytes t)

  stored_out : (j : ℕ) → (j < key_start i) ⊎ (key_start i + key_size ≤ j) → (j < body_start n i) ⊎ (body_start n i + body_size ≤ j) → get_or (stored s n i key t) j 0 ≡ get_or s j 0
  unfolding stored
  stored_out j a b =
      byte_out (body_of t) keyed (body_start n i) j (rw (body_length t) b) ∙ byte_out (low_bytes 4 key) s (key_start i) j (rw (low_length 4 key) a)

  pub stored_clock : clock_of (stored s n i key t) ≡ clock_of s
  stored_clock = number_agree 8 (stored s n i key t) s clock_at (λ j a b. stored_out j (inl (omega arith)) (inl (omega arith)))

  pub stored_site : site_of (stored s n i key t) ≡ site_of s
  stored_site = site_agree (stored s n i key t) s (λ j a b. stored_out j (inl (omega arith)) (inl (omega arith)))

  pub place_other : i < n → (j : ℕ) → j < n → (j ≡ i → ⊥) → place_at (stored s n i key t) n j ≡ place_at s n j
  place_other h j g ne = ⊎_elim
      (λ (e : j < i). place_agree (stored s n i key t) s n j stored_length (λ k a b. stored_out k (inl (omega arith)) (inl (omega arith))) (λ k a b. stored_out k (inr (omega arith)) (inl (omega arith))))
      (λ (e : i < j). place_agree (stored s n i key t) s n j stored_length (λ k a b. stored_out k (inr (omega arith)) (inl (omega arith))) (λ k a b. stored_out k (inr (omega arith)) (inr (omega arith))))
      (apart j i ne)

  key_there : i < n → table_size n ≤ length s → key < 2 ^ 32 → number_at 4 (stored s n i key t) (key_start i) ≡ key
  unfolding stored
  key_there h l f =
      number_agree 4 (put keyed (body_start n i) (body_of t)) keyed (key_start i) (λ j a b. byte_out (body_of t) keyed (body_start n i) j (inl (omega arith)))
      ∙ number_there 4 key s (key_start i) (omega arith)
      ∙ mod-eq_of_lt f

  body_there : i < n → table_size n ≤ length s → take body_size (drop (body_start n i) (stored s n i key t)) ≡ body_of t
  unfolding stored
  body_there h l = part_there keyed (body_of t) (body_start n i) body_size (body_length t) (rw (put_length s (key_start i) (low_bytes 4 key)) (omega arith))

  pub place_same : i < n → table_size n ≤ length s → key < 2 ^ 32 → place_at (stored s n i key t) n i ≡ place_as key (body_of t)
  unfolding key_at body_at
  place_same h l f = ap₂ place_as (key_there h l f) (body_there h l)
