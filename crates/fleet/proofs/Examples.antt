-- The statement is not empty, and both of its premises are needed: runs of a few calls, computed in the bytes and in the slice.
-- Assumes nothing.
use Rattle.std.specs.Prelude.{Ok, Option, Some, None}
use Prim.Native.Nat.{ℕ, suc, ◌<◌, ◌^◌}
use mathlib.Core.Bool.{false, true≢false}
use mathlib.Core.Path.{◌≡◌, refl, ap, sym, ◌∙◌}
use mathlib.Core.List.{List, [], ◌∷◌}
use native.Mathlib.Omega.{arith}
use Rattle.parity.specs.Division.{remainder_from, reduce}
use Rattle.parity.specs.Parity.{remainder}
use Rattle.memory.specs.Offsets.{whole_places}
use Rattle.messages.specs.Message.{opened, kind_of}
use Rattle.whereabouts.specs.Located.{no_site, read_singly, is_partner, airborne_position, surface_position}
use Rattle.track.specs.declared.Track.{Track}
use Rattle.track.specs.Track.{group_track, saved_track, surface_track}
use Rattle.track.specs.Meaning.{meant_groups, meant_position, meant_saved, meant}
use Rattle.memory.specs.Bytes.{number_at, low_bytes, put}
use Rattle.place.specs.Place.{saved_from, groups_in, lowered, position_in, written_in, track_of, above_pole, marks_of, saved_number, saved_bytes, message_bytes, spot_bytes, body_of}
use Rattle.memory.specs.Ranges as ranges
use Rattle.rules.specs.Form.{is_held, holds, Form}
use Rattle.rules.specs.Rules.{set_up, place_of, free_place, delivered, received}
use Rattle.rules.specs.View.{view_at, view}
use Rattle.table_bytes.specs.Layout.{site_from, key_at, body_at, moved, stored, emptied}
use Rattle.slice_places.specs.Ranges as slots
use Rattle.slice_places.specs.Head.{places_fit, site_of}
use Rattle.table.specs.Bytes.{bytes}
use Rattle.slice_table.specs.Slice.{slice}
use Rattle.isolation.specs.Runs.{Call, own, call, NeverFull}
use Rattle.isolation.specs.Logs.{left}
use Rattle.isolation.specs.Wrong.{number_in}
use Rattle.isolation.proofs.Examples.{key, first, stranger_first, stranger, bytes_of, own_calls_lem, not_six, empty_bytes, empty_slice}
use Rattle.fleet.specs.Sparse.{latest, timely, Sparse, own_calls}
use Rattle.fleet.specs.Fleet.{zero_bytes, Tick}
use Rattle.fleet.proofs.Fleet.{latest_fits}

-- ---- every stream has a tick

abbrev pub zeros : (time : ℕ) → time < 2 ^ 64 → Call
zeros time f = record { message = zero_bytes; bytes = bytes_of zero_bytes refl; whole = refl; time = time; fits = f }

pub some_tick : (stream : List Call) → Tick stream (zeros (latest 0 stream) (latest_fits 0 stream (omega arith)))
some_tick stream = record { zeros = refl; at = refl }

-- ---- the calls: `first` is the aircraft's, at 1,000; `stranger_first` and `stranger` another's, then and at 2,000; and ticks

abbrev pub tick_2 : Call
tick_2 = zeros 2000 (omega arith)

-- the stranger when the track of `first` has just gone, and a tick then
abbrev pub far : Call
far = record { message = stranger.message; bytes = stranger.bytes; whole = stranger.whole; time = 126000; fits = omega arith }

abbrev tick_126 : Call
tick_126 = zeros 126000 (omega arith)

pub own_others : (own key tick_2 ≡ false) × (own key far ≡ false) × (own key tick_126 ≡ false)
unfolding own remainder remainder_from reduce opened kind_of
own_others = (refl, refl, refl)

-- ---- runs from a set-up without a site

-- when the aircraft was last heard, one up; 0 if its track is absent
abbrev heard_in : Option Track → ℕ
heard_in None = 0
heard_in (Some t) = suc t.heard

abbrev whole_run : List Call
whole_run = stranger_first ∷ first ∷ stranger ∷ []

abbrev its_run : List Call
its_run = first ∷ tick_2 ∷ []

module _ {S : Type 0} (F : Form S) (empty : ℕ → S) where
  abbrev ready : ℕ → S
  ready n = (set_up F (empty n) no_site).table

  abbrev after : ℕ → List Call → S
  after n cs = left (received F) (ready n) cs

  abbrev end_of : ℕ → List Call → ℕ
  end_of n cs = heard_in (view F (after n cs) key)

  abbrev number_to : ℕ → List Call → Call → ℕ
  number_to n cs c = number_in (call (received F) (after n cs) c).answer

  -- what is computed of it
  pub record Computed : Type 0 where
    pub done_1 : (set_up F (empty 1) no_site).answer ≡ Ok tt
    pub done_2 : (set_up F (empty 2) no_site).answer ≡ Ok tt
    pub held_in_both : (number_to 2 (stranger_first ∷ []) first ≡ 0) × (number_to 1 [] first ≡ 0) × (end_of 2 whole_run ≡ 1001) × (end_of 1 its_run ≡ 1001)
    pub one_place : (number_to 1 (stranger_first ∷ []) first ≡ 6) × (number_to 1 (first ∷ []) tick_2 ≡ 4)
    pub out_of_date : (number_to 2 [] first ≡ 0) × (end_of 2 (first ∷ far ∷ []) ≡ 0) × (end_of 1 (first ∷ []) ≡ 1001) × (end_of 1 (first ∷ tick_126 ∷ []) ≡ 0)
    pub late_in_one : (number_to 2 (stranger ∷ []) first ≡ 2) × (end_of 2 (stranger ∷ first ∷ []) ≡ 0) × (end_of 1 (first ∷ tick_2 ∷ []) ≡ 1001)

  module _ (x : Computed) where
    -- a table of two places beside a shard of one, which is not called for the stranger: both hold the track, though one place would not do for all calls
    pub not_empty : Sparse key whole_run its_run × NeverFull (received F) key (ready 2) whole_run × NeverFull (received F) key (ready 1) its_run
        × (end_of 2 whole_run ≡ 1001) × (end_of 1 its_run ≡ 1001) × (number_to 1 (stranger_first ∷ []) first ≡ 6)
    not_empty = (
      record { calls = rw (own_calls_lem.0, own_calls_lem.2, own_calls_lem.3, own_others.0); clock = refl },
      ((λ p _. absurd (true≢false (sym p ∙ own_calls_lem.2))), ((λ _ e. absurd (not_six x.held_in_both.0 (λ z. omega arith) e)), ((λ p _. absurd (true≢false (sym p ∙ own_calls_lem.3))), tt))),
      ((λ _ e. absurd (not_six x.held_in_both.1 (λ z. omega arith) e)), ((λ p _. absurd (true≢false (sym p ∙ own_others.0))), tt)),
      x.held_in_both.2,
      x.held_in_both.3,
      x.one_place.0,
    )

    -- why the clock is brought up: a shard that is read without a tick still shows a track that is out of date. With the tick it does not
    pub clock_needed : ((xs ys : List Call) → timely key 0 xs ≡ timely key 0 ys → NeverFull (received F) key (ready 2) xs → NeverFull (received F) key (ready 1) ys
        → view F (after 2 xs) key ≡ view F (after 1 ys) key) → ⊥
    clock_needed h =
        let z : ◌≡◌ {A = ℕ} 0 1001 =
        sym x.out_of_date.1
        ∙ ap heard_in
        (h (first ∷ far ∷ []) (first ∷ []) (rw (own_calls_lem.0, own_others.1))
        ((λ _ e. absurd (not_six x.out_of_date.0 (λ z. omega arith) e)), ((λ p _. absurd (true≢false (sym p ∙ own_others.1))), tt))
        ((λ _ e. absurd (not_six x.held_in_both.1 (λ z. omega arith) e)), tt))
        ∙ x.out_of_date.2 in
        omega arith

    -- why late calls are left out: one that is late in the stream is not late in a shard that is behind
    pub order_needed : ((xs ys : List Call) → own_calls key xs ≡ own_calls key ys → latest 0 xs ≡ latest 0 ys → NeverFull (received F) key (ready 2) xs → NeverFull (received F) key (ready 1) ys
        → view F (after 2 xs) key ≡ view F (after 1 ys) key) → ⊥
    order_needed h =
        let z : ◌≡◌ {A = ℕ} 0 1001 =
        sym x.late_in_one.1
        ∙ ap heard_in
        (h (stranger ∷ first ∷ []) (first ∷ tick_2 ∷ []) (rw (own_calls_lem.0, own_calls_lem.3, own_others.0)) refl
        ((λ p _. absurd (true≢false (sym p ∙ own_calls_lem.3))), ((λ _ e. absurd (not_six x.late_in_one.0 (λ z. omega arith) e)), tt))
        ((λ _ e. absurd (not_six x.held_in_both.1 (λ z. omega arith) e)), ((λ p _. absurd (true≢false (sym p ∙ own_others.0))), tt)))
        ∙ x.late_in_one.2 in
        omega arith

-- ---- both forms

pub in_bytes : Computed bytes empty_bytes
unfolding remainder remainder_from reduce opened kind_of own is_held holds set_up place_of free_place delivered received view_at whole_places site_from key_at body_at moved stored emptied number_at low_bytes put saved_from groups_in lowered position_in written_in meant_groups meant_position meant_saved meant track_of above_pole marks_of saved_number saved_bytes message_bytes spot_bytes body_of ranges.in_range group_track saved_track surface_track airborne_position is_partner read_singly surface_position
in_bytes =
    record {
      done_1 = refl;
      done_2 = refl;
      held_in_both = (refl, refl, refl, refl);
      one_place = (refl, refl);
      out_of_date = (refl, refl, refl, refl);
      late_in_one = (refl, refl, refl);
    }

pub in_slice : Computed slice empty_slice
unfolding remainder remainder_from reduce opened kind_of own is_held holds set_up place_of free_place delivered received view_at meant_groups meant_position meant_saved meant slots.in_range slots.track_fits slots.groups_fit slots.counts_fit places_fit site_of group_track saved_track surface_track airborne_position is_partner read_singly surface_position
in_slice =
    record {
      done_1 = refl;
      done_2 = refl;
      held_in_both = (refl, refl, refl, refl);
      one_place = (refl, refl);
      out_of_date = (refl, refl, refl, refl);
      late_in_one = (refl, refl, refl);
    }
