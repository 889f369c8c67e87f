-- Of the slice too the statement is not empty and its premises are needed: the messages of Examples, at one time, to a slice of one place or of two, computed.
-- Assumes nothing.
use Prim.Native.Nat.{ℕ, zero, suc}
use native.Mathlib.Omega.{arith}
use mathlib.Core.Path.{◌≡◌, refl, ap, sym, ◌∙◌, subst}
use lib.ListN.{get_or, replicate}
use Rattle.parity.specs.Division.{remainder_from, reduce}
use Rattle.parity.specs.Parity.{remainder}
use Rattle.messages.specs.Message.{opened, kind_of}
use Rattle.whereabouts.specs.Located.{no_site, surface_position}
use Rattle.track.specs.Track.{group_track, surface_track}
use Rattle.track.specs.Meaning.{meant_groups, meant_position, meant_saved, meant}
use Rattle.rules.specs.Form.{is_held, holds}
use Rattle.rules.specs.Rules.{set_up, place_of, free_place, delivered, received}
use Rattle.rules.specs.Agreement.{Call}
use Rattle.slice_places.specs.Ranges.{no_place, groups_fit, counts_fit, track_fits, in_range}
use Rattle.slice_places.specs.Head.{places_fit, site_of}
use Rattle.slice_table.specs.Slice.{Slice, slice}
use Rattle.isolation.specs.Wrong.{number_in}
use Rattle.isolation.proofs.Examples.{not_six, empty_slice}
use Rattle.merging.specs.Orders.{offered, OfOneKey, NoSix, Same}
use Rattle.merging.specs.Slices.{Typed, AllTyped}
use Rattle.merging.proofs.Merged.{slice_antennas}
use Rattle.merging.proofs.OfSlice.{slice_fits}
use Rattle.merging.proofs.Examples.{mine, silent, other, later, mine_other}

-- a slice of n places, set up without a site
abbrev ready : ℕ → Slice
ready n = (set_up slice (empty_slice n) no_site).table

-- the numbers answered: to a and then to b, and to b and then to a
record Answers (n : ℕ) (a b : Call) (i j k l : ℕ) : Type 0 where
  pub first : number_in (offered (received slice) (ready n) a b).first ≡ i
  pub second : number_in (offered (received slice) (ready n) a b).second ≡ j
  pub first' : number_in (offered (received slice) (ready n) b a).first ≡ k
  pub second' : number_in (offered (received slice) (ready n) b a).second ≡ l

module _ {n : ℕ} {a b : Call} {i j k l : ℕ} (x : Answers n a b i j k l) where
  no_six : (i ≡ 6 → ⊥) → (j ≡ 6 → ⊥) → (k ≡ 6 → ⊥) → (l ≡ 6 → ⊥) → NoSix (offered (received slice) (ready n) a b) × NoSix (offered (received slice) (ready n) b a)
  no_six p q r s = ((λ e. not_six x.first p e, λ e. not_six x.second q e), (λ e. not_six x.first' r e, λ e. not_six x.second' s e))

  -- a is answered otherwise second than first
  unlike : (i ≡ l → ⊥) → Same slice (offered (received slice) (ready n) a b) (offered (received slice) (ready n) b a) → ⊥
  unlike ne e = ne (sym x.first ∙ ap number_in e.one ∙ x.second')

record Computed : Type 0 where
  pub two_places : Answers 2 mine other 0 0 0 0
  pub places : ((get_or (offered (received slice) (ready 2) mine other).table.places 0 no_place).key ≡ 0x1ABCDEF) × ((get_or (offered (received slice) (ready 2) other mine).table.places 0 no_place).key ≡ 0x1123456)
  pub one_place : Answers 1 mine other 0 6 0 6
  pub one_key : Answers 1 silent mine 12 0 0 0
  pub two_times : Answers 2 mine later 0 0 0 2

computed : Computed
unfolding remainder remainder_from reduce opened kind_of is_held holds set_up place_of free_place delivered received meant_groups meant_position meant_saved meant in_range track_fits groups_fit counts_fit places_fit site_of group_track surface_track surface_position
computed =
    record {
      two_places = record { first = refl; second = refl; first' = refl; second' = refl };
      places = (refl, refl);
      one_place = record { first = refl; second = refl; first' = refl; second' = refl };
      one_key = record { first = refl; second = refl; first' = refl; second' = refl };
      two_times = record { first = refl; second = refl; first' = refl; second' = refl };
    }

-- ---- not empty

no_place_typed : Typed no_place
no_place_typed = record { heard = omega arith; longitude = omega arith; time = omega arith; even = omega arith; odd = omega arith }

all_nobody : (n i : ℕ) → get_or (replicate n no_place) i no_place ≡ no_place
all_nobody zero i = refl
all_nobody (suc n) zero = refl
all_nobody (suc n) (suc i) = all_nobody n i

ready_typed : AllTyped (ready 2)
unfolding set_up places_fit
ready_typed i h = subst Typed (sym (all_nobody 2 i)) no_place_typed

-- two aircraft: the same in either order, though at other places
pub slice_orders : Same slice (offered (received slice) (ready 2) mine other) (offered (received slice) (ready 2) other mine)
    × ((get_or (offered (received slice) (ready 2) mine other).table.places 0 no_place).key ≡ (get_or (offered (received slice) (ready 2) other mine).table.places 0 no_place).key → ⊥)
slice_orders =
    let n = no_six computed.two_places (λ e. omega arith) (λ e. omega arith) (λ e. omega arith) (λ e. omega arith) in (
      slice_antennas (ready 2) (slice_fits (ready 2) ready_typed) mine other (record { time = refl; keys = mine_other; one_way = n.0; other_way = n.1 }),
      λ e. let z : ◌≡◌ {A = ℕ} 0x1ABCDEF 0x1123456 = sym computed.places.0 ∙ e ∙ computed.places.1 in omega arith,
    )

-- ---- each of the three premises is needed

pub slice_six_needed : ((a b : Call) → a.time ≡ b.time → (OfOneKey a b → ⊥) → Same slice (offered (received slice) (ready 1) a b) (offered (received slice) (ready 1) b a)) → ⊥
slice_six_needed h = unlike computed.one_place (λ e. omega arith) (h mine other refl mine_other)

pub slice_keys_needed : ((a b : Call) → a.time ≡ b.time → NoSix (offered (received slice) (ready 1) a b) → NoSix (offered (received slice) (ready 1) b a)
    → Same slice (offered (received slice) (ready 1) a b) (offered (received slice) (ready 1) b a)) → ⊥
slice_keys_needed h =
    let n = no_six computed.one_key (λ e. omega arith) (λ e. omega arith) (λ e. omega arith) (λ e. omega arith) in
    unlike computed.one_key (λ e. omega arith) (h silent mine refl n.0 n.1)

pub slice_times_needed : ((a b : Call) → (OfOneKey a b → ⊥) → NoSix (offered (received slice) (ready 2) a b) → NoSix (offered (received slice) (ready 2) b a)
    → Same slice (offered (received slice) (ready 2) a b) (offered (received slice) (ready 2) b a)) → ⊥
slice_times_needed h =
    let n = no_six computed.two_times (λ e. omega arith) (λ e. omega arith) (λ e. omega arith) (λ e. omega arith) in
    unlike computed.two_times (λ e. omega arith) (h mine later mine_other n.0 n.1)
