-- What the view shows of a key: a track just where some place holds the key, and then it is a key. By the search for the lowest place.
-- Assumes nothing.
use Rattle.std.specs.Prelude.{Some, None}
use Prim.Native.Nat.{ℕ}
use mathlib.Core.Bool.{Bool, true, false, cond, true≢false}
use mathlib.Core.List.{List}
use mathlib.Core.Logic.{◌⊎◌, inl, inr, ⊎_elim}
use mathlib.Core.Path.{◌≡◌, refl, sym, ◌∙◌}
use lib.Dec.{eqb, ltb}
use borrow.Author.Tests.{ltb-true, eqb-true}
use Rattle.fields.proofs.Bools.{and_left, and_right}
use Rattle.keys.specs.Keys.{is_key}
use Rattle.memory.specs.Ranges.{in_range}
use Rattle.track.specs.declared.Track.{Track}
use Rattle.rules.specs.Search.{lowest}
use Rattle.rules.specs.Form.{is_held, holds}
use Rattle.rules.specs.View.{track_in, view_at}
use Rattle.rules.proofs.Search.{lowest_passes, none_passes}
use Rattle.memory.specs.Offsets.{places_in}
use Rattle.table_bytes.specs.Layout.{cell_of, clock_of, key_at, body_at}
use Rattle.table.specs.Bytes.{bytes}
use Rattle.table.specs.View.{view, HeldKey}

-- ---- the view of a key

module _ (s : List ℕ) (key : ℕ) where
  -- some place holds it and a track is seen, or neither
  seen : (HeldKey s key × ((t : Track) × (view s key ≡ Some t))) ⊎ ((HeldKey s key → ⊥) × (view s key ≡ None))
  unfolding view_at
  seen = by_test (ltb (lowest test (places_in s)) (places_in s)) refl
    where
      test : ℕ → Bool
      test i = holds (clock_of s) key (bytes.cell s i)

      by_test : (b : Bool) → ltb (lowest test (places_in s)) (places_in s) ≡ b
          → (HeldKey s key × ((t : Track) × (track_in (cond b (Some (bytes.cell s (lowest test (places_in s)))) None) ≡ Some t))) ⊎ ((HeldKey s key → ⊥) × (track_in (cond b (Some (bytes.cell s (lowest test (places_in s)))) None) ≡ None))
      by_test true e =
          let l = ltb-true (lowest test (places_in s)) (places_in s) e in
          inl ((lowest test (places_in s), (l, lowest_passes test (places_in s) l)), (_, refl))
      by_test false e =
          inr (λ w. absurd (true≢false (sym w.1.1 ∙ none_passes test (places_in s) e w.0 w.1.0)), refl)

  pub held_seen : HeldKey s key → (t : Track) × (view s key ≡ Some t)
  held_seen w = ⊎_elim (λ (h : HeldKey s key × ((t : Track) × (view s key ≡ Some t))). h.1) (λ (h : (HeldKey s key → ⊥) × (view s key ≡ None)). absurd (h.0 w)) seen

  pub unheld_unseen : (HeldKey s key → ⊥) → view s key ≡ None
  unheld_unseen w = ⊎_elim (λ (h : HeldKey s key × ((t : Track) × (view s key ≡ Some t))). absurd (w h.0)) (λ (h : (HeldKey s key → ⊥) × (view s key ≡ None)). h.1) seen

  ranged : (k : ℕ) (body : List ℕ) → holds (clock_of s) key (cell_of k body) ≡ true → is_key key ≡ true
  unfolding holds is_held in_range
  ranged k body h =
      let e : k ≡ key = eqb-true k key (and_left (eqb k key) _ h) in
      rw e at (and_left (is_key k) _ (and_left (in_range k body) _ (and_right (eqb k key) _ h)))

  pub held_is_key : HeldKey s key → is_key key ≡ true
  held_is_key w = ranged (key_at s w.0) (body_at s (places_in s) w.0) w.1.1
