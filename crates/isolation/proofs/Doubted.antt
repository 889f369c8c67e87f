-- The theorem on replays is not empty, and its proviso is needed: two runs of two calls each, computed by the plain method and in both forms of the table.
-- Assumes nothing.
use Rattle.std.specs.Prelude.{Option, Some, None, Result, Ok, Err}
use Prim.Native.Nat.{ℕ, suc, ◌≤◌}
use native.Mathlib.Omega.{arith}
use mathlib.Core.Bool.{true≢false}
use mathlib.Core.Path.{◌≡◌, refl, ap, sym, ◌∙◌}
use mathlib.Core.List.{List, [], ◌∷◌}
use lib.ListN.{length}
use Rattle.keys.specs.Keys.{key_for}
use Rattle.keys.specs.declared.Kind.TheVariants.{I}
use Rattle.parity.specs.Division.{remainder_from, reduce}
use Rattle.parity.specs.Parity.{remainder}
use Rattle.messages.specs.Message.{opened, kind_of}
use Rattle.whereabouts.specs.Located.{no_site, surface_position}
use Rattle.track.specs.declared.Track.{Track}
use Rattle.track.specs.Track.{group_track, surface_track}
use Rattle.track.specs.Meaning.{meant_groups, meant_position, meant_saved, meant}
use Rattle.replay.specs.Alone.{heard_in, own_after}
use Rattle.replay.specs.Replay.{replayed}
use Rattle.memory.specs.Offsets.{whole_places}
use Rattle.memory.specs.Bytes.{number_at, low_bytes, put}
use Rattle.memory.specs.Ranges as ranges
use Rattle.place.specs.Place.{saved_from, groups_in, lowered, position_in, written_in, track_of, above_pole, marks_of, saved_number, saved_bytes, message_bytes, spot_bytes, body_of}
use Rattle.rules.specs.Form.{is_held, holds, Form}
use Rattle.rules.specs.Rules.{set_up, place_of, free_place, delivered, received, looked_up}
use Rattle.table_bytes.specs.Layout.{site_from, key_at, body_at, moved, stored, emptied}
use Rattle.slice_places.specs.Ranges as slots
use Rattle.slice_places.specs.Head.{places_fit, site_of}
use Rattle.table.specs.Bytes.{bytes}
use Rattle.slice_table.specs.Slice.{slice}
use Rattle.isolation.specs.Runs.{Call, call, NeverFull}
use Rattle.isolation.specs.Wrong.{number_in}
use Rattle.isolation.specs.Logs.{log_of, left}
use Rattle.isolation.proofs.Examples.{key, first, second, stranger_first, stranger, own_calls_lem, not_six, empty_bytes, empty_slice}
use Rattle.refusals.specs.declared.Refusal.{Refusal}

-- when a track that was found was last heard, one up; 0 if the key is not held
abbrev last_heard : Result (Option Track) Refusal → ℕ
last_heard (Ok (Some t)) = suc t.heard
last_heard (Ok None) = 0
last_heard (Err r) = 0

-- ---- the plain method: the aircraft is held after its message, whether a stranger came before it or behind it

abbrev again : List Call → Result (Option Track) Refusal
again cs = replayed (log_of cs) I 0xABCDEF no_site

pub worked_out_lem : (last_heard (again (first ∷ stranger ∷ [])) ≡ 1001) × (last_heard (again (stranger_first ∷ second ∷ [])) ≡ 2001)
unfolding replayed heard_in own_after remainder remainder_from reduce opened kind_of group_track surface_track surface_position
worked_out_lem = (refl, refl)

-- ---- a form, of which `empty n` is a table of n places

module _ {S : Type 0} (F : Form S) (empty : ℕ → S) where
  abbrev ready : ℕ → S
  ready n = (set_up F (empty n) no_site).table

  abbrev held_after : ℕ → List Call → ℕ
  held_after n cs = last_heard (looked_up F (left (received F) (ready n) cs) key)

  -- what is computed of it: in two places both are held, in one the second newcomer is not
  pub record Computed : Type 0 where
    pub done_1 : (set_up F (empty 1) no_site).answer ≡ Ok tt
    pub done_2 : (set_up F (empty 2) no_site).answer ≡ Ok tt
    pub two_places : (held_after 2 (first ∷ stranger ∷ []) ≡ 1001) × (number_in (call (received F) (ready 2) first).answer ≡ 0)
    pub one_place : held_after 1 (stranger_first ∷ second ∷ []) ≡ 0

  module _ (x : Computed) where
    -- a run in which 6 is not answered, and both have its track
    pub not_empty : ((set_up F (empty 2) no_site).answer ≡ Ok tt) × NeverFull (received F) key (ready 2) (first ∷ stranger ∷ []) × (last_heard (again (first ∷ stranger ∷ [])) ≡ 1001) × (held_after 2 (first ∷ stranger ∷ []) ≡ 1001)
    not_empty = (
      x.done_2,
      ((λ _ e. not_six x.two_places.1 (λ z. omega arith) e), ((λ p _. true≢false (sym p ∙ own_calls_lem.3)), tt)),
      worked_out_lem.0,
      x.two_places.0,
    )

    -- why 'table full' is excepted: of two newcomers to one place the second has no track there, and has one alone
    pub proviso_needed : ((s : S) (cs : List Call) → (set_up F s no_site).answer ≡ Ok tt → length cs ≤ 2900
        → replayed (log_of cs) I 0xABCDEF no_site ≡ looked_up F (left (received F) (set_up F s no_site).table cs) (key_for I 0xABCDEF)) → ⊥
    proviso_needed h =
        let z : ◌≡◌ {A = ℕ} 2001 0 = sym worked_out_lem.1 ∙ ap last_heard (h (empty 1) (stranger_first ∷ second ∷ []) x.done_1 (omega arith)) ∙ x.one_place in
        omega arith

-- ---- both forms

pub in_bytes : Computed bytes empty_bytes
unfolding remainder remainder_from reduce opened kind_of is_held holds set_up place_of free_place delivered received looked_up whole_places site_from key_at body_at moved stored emptied number_at low_bytes put saved_from groups_in lowered position_in written_in meant_groups meant_position meant_saved meant track_of above_pole marks_of saved_number saved_bytes message_bytes spot_bytes body_of ranges.in_range group_track surface_track surface_position
in_bytes = record { done_1 = refl; done_2 = refl; two_places = (refl, refl); one_place = refl }

pub in_slice : Computed slice empty_slice
unfolding remainder remainder_from reduce opened kind_of is_held holds set_up place_of free_place delivered received looked_up meant_groups meant_position meant_saved meant slots.in_range slots.track_fits slots.groups_fit slots.counts_fit places_fit site_of group_track surface_track surface_position
in_slice = record { done_1 = refl; done_2 = refl; two_places = (refl, refl); one_place = refl }
