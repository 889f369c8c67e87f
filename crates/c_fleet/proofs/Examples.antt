-- `side_by_side` is not empty, and each of its premises is needed; `roomy_fleet` is not empty. By runs of a few calls in tables of one place and of two, computed. Every number below is one that C gets.
-- Assumes nothing.
use Rattle.std.specs.Prelude.{None}
use Prim.Native.Nat.{ℕ, ◌≤◌}
use mathlib.Core.Bool.{false, cond, true≢false}
use mathlib.Core.Path.{◌≡◌, refl, ap, sym, ◌∙◌}
use mathlib.Core.List.{List, [], ◌∷◌}
use native.Mathlib.Omega.{arith}
use lib.Dec.{eqb}
use lib.ListN.{get_or}
use Rattle.parity.specs.Division.{remainder_from, reduce}
use Rattle.parity.specs.Parity.{remainder}
use Rattle.memory.specs.Bytes.{number_at, low_bytes, put}
use Rattle.memory.specs.Offsets.{whole_places}
use Rattle.memory.specs.Ranges as ranges
use Rattle.messages.specs.Message.{opened, kind_of}
use Rattle.whereabouts.specs.Located.{surface_position}
use Rattle.track.specs.Track.{group_track, surface_track}
use Rattle.track.specs.Meaning.{meant_groups, meant_position, meant_saved, meant}
use Rattle.place.specs.Place.{saved_from, groups_in, lowered, position_in, written_in, track_of, above_pole, marks_of, saved_number, saved_bytes, message_bytes, spot_bytes, body_of}
use Rattle.rules.specs.Form.{is_held, holds}
use Rattle.rules.specs.Rules as rules
use Rattle.table_bytes.specs.Layout.{site_from, key_at, body_at, moved, stored, emptied}
use Rattle.table.specs.Table.{set_up}
use Rattle.entries.specs.Sent.{Sent, into}
use Rattle.track_rows.specs.Tracks.{kept_row, track_row}
use Rattle.isolation.specs.Runs.{Call}
use Rattle.isolation.proofs.Examples.{key, first, stranger_first, stranger, own_calls_lem, empty_bytes}
use Rattle.addercoil.specs.Tables.{set_up_sent, received_sent}
use Rattle.fleet.specs.Sparse.{latest, timely, Sparse, own_calls}
use Rattle.fleet.specs.Room.{Among}
use Rattle.fleet.proofs.Examples.{tick_2, far, own_others}
use Rattle.c_promises.specs.Runs.{Run, Never6, SameTrack}
use Rattle.c_promises.specs.Logs.{left_of}
use Rattle.c_promises.proofs.Every.{set_up_met, look_up_met, ran_met}
use Rattle.c_promises.proofs.Examples.{backs, numbers, sevens, looked_in, looked, run_of, computed, zero_not_six}
use Rattle.c_fleet.specs.Sides.{SameSide}
use Rattle.c_fleet.specs.Roomy.{TableOf, AsSingle}
use Rattle.c_fleet.proofs.Sides.{side_by_side}
use Rattle.c_fleet.proofs.Roomy.{roomy_fleet}

-- the stream, and what the aircraft's table is handed of it: its own message, and a tick
abbrev stream : List Call
stream = stranger_first ∷ first ∷ stranger ∷ []

abbrev its_deal : List Call
its_deal = first ∷ tick_2 ∷ []

-- .. and the stranger's table, if the tables are two
abbrev other_deal : List Call
other_deal = stranger_first ∷ stranger ∷ tick_2 ∷ []

pub record Seen : Type 0 where
  pub in_both : (numbers 2 stream ≡ 0 ∷ 0 ∷ 0 ∷ []) × (numbers 1 its_deal ≡ 0 ∷ 4 ∷ []) × (looked 2 stream ≡ 1 ∷ 1000 ∷ []) × (looked 1 its_deal ≡ 1 ∷ 1000 ∷ [])
  pub in_other : numbers 1 other_deal ≡ 0 ∷ 0 ∷ 4 ∷ []
  -- one place would not do for the whole stream
  pub one_place : numbers 1 stream ≡ 0 ∷ 6 ∷ 0 ∷ []
  pub full : looked 1 stream ≡ 0 ∷ 0 ∷ []
  pub no_tick : (numbers 2 (first ∷ far ∷ []) ≡ 0 ∷ 0 ∷ []) × (numbers 1 (first ∷ []) ≡ 0 ∷ []) × (looked 2 (first ∷ far ∷ []) ≡ 0 ∷ 0 ∷ []) × (looked 1 (first ∷ []) ≡ 1 ∷ 1000 ∷ [])
  pub late_in_one : (numbers 2 (stranger ∷ first ∷ []) ≡ 0 ∷ 2 ∷ []) × (looked 2 (stranger ∷ first ∷ []) ≡ 0 ∷ 0 ∷ [])

pub seen : Seen
unfolding set_up_sent received_sent into track_row kept_row remainder remainder_from reduce opened kind_of is_held holds rules.set_up rules.place_of rules.free_place rules.delivered rules.received rules.looked_up whole_places site_from key_at body_at moved stored emptied number_at low_bytes put saved_from groups_in lowered position_in written_in meant_groups meant_position meant_saved meant track_of above_pole marks_of saved_number saved_bytes message_bytes spot_bytes body_of ranges.in_range group_track surface_track surface_position
seen = record { in_both = (refl, refl, refl, refl); in_other = refl; one_place = refl; full = refl; no_tick = (refl, refl, refl, refl); late_in_one = (refl, refl) }

-- ---- two runs that keep every premise

second_not_six : {x y : ℕ} {l m : List ℕ} → x ∷ y ∷ l ≡ 0 ∷ 0 ∷ m → y ≡ 6 → ⊥
second_not_six e z = let w : ◌≡◌ {A = ℕ} 0 6 = cc in omega arith

second_late : {x y : ℕ} → x ∷ y ∷ [] ≡ 0 ∷ 2 ∷ [] → y ≡ 6 → ⊥
second_late e z = let w : ◌≡◌ {A = ℕ} 2 6 = cc in omega arith

never_in_stream : Never6 key stream (backs 2 stream)
never_in_stream = (
  (λ p _. true≢false (sym p ∙ own_calls_lem.2)),
  ((λ _ e. second_not_six seen.in_both.0 e), ((λ p _. true≢false (sym p ∙ own_calls_lem.3)), tt)),
)

never_in_deal : Never6 key its_deal (backs 1 its_deal)
never_in_deal = ((λ _ e. zero_not_six seen.in_both.1 e), ((λ p _. true≢false (sym p ∙ own_others.0)), tt))

pub not_empty : (p : Run None stream (backs 2 stream)) × ((q : Run None its_deal (backs 1 its_deal)) × SameSide key stream its_deal (backs 2 stream) (backs 1 its_deal) (left_of p) (left_of q))
not_empty =
    let p = run_of 2 computed.done.1 stream in
    let q = run_of 1 computed.done.0 its_deal in (
      p,
      (
        q,
        side_by_side key None stream its_deal _ _ p q
            (record { calls = rw (own_calls_lem.0, own_calls_lem.2, own_calls_lem.3, own_others.0); clock = refl }) never_in_stream never_in_deal,
      ),
    )

-- ---- a fleet with room: two tables of one place each, for two aircraft. Neither returned 6 (`in_both`, `in_other`), as one of these tables by itself does (`one_place`)

abbrev which : ℕ → ℕ
which k = cond (eqb k key) 0 1

abbrev both_keys : List ℕ
both_keys = key ∷ 0x1123456 ∷ []

both_among : Among both_keys stream
unfolding remainder remainder_from reduce opened kind_of
both_among = (refl, (refl, (refl, tt)))

pub its_table : TableOf which 0 None stream both_keys
unfolding set_up_sent remainder remainder_from reduce opened kind_of
its_table =
    record {
      last = tick_2;
      tick = record { zeros = refl; at = refl };
      backs = backs 1 its_deal;
      run =
          record {
            table = empty_bytes 1;
            back = set_up_sent (set_up (empty_bytes 1));
            begun = set_up_met (empty_bytes 1);
            done = computed.done.0;
            ran = ran_met (set_up (empty_bytes 1)).table its_deal;
          };
      room = let e : 1 ≤ 1 = omega arith in e;
    }

pub other_table : TableOf which 1 None stream both_keys
unfolding set_up_sent remainder remainder_from reduce opened kind_of
other_table =
    record {
      last = tick_2;
      tick = record { zeros = refl; at = refl };
      backs = backs 1 other_deal;
      run =
          record {
            table = empty_bytes 1;
            back = set_up_sent (set_up (empty_bytes 1));
            begun = set_up_met (empty_bytes 1);
            done = computed.done.0;
            ran = ran_met (set_up (empty_bytes 1)).table other_deal;
          };
      room = let e : 1 ≤ 1 = omega arith in e;
    }

pub two_in_one_place_each : AsSingle which None stream both_keys key its_table × AsSingle which None stream both_keys 0x1123456 other_table
two_in_one_place_each = (roomy_fleet which None stream both_keys both_among key its_table, roomy_fleet which None stream both_keys both_among 0x1123456 other_table)

-- ---- each premise is needed

-- two tables of which the aircraft is held in one alone show it differently
differ : (table other : List ℕ) → looked_in table key ≡ 0 ∷ 0 ∷ [] → looked_in other key ≡ 1 ∷ 1000 ∷ [] → SameTrack key table other → ⊥
differ table other a b same =
    let s = same sevens sevens _ _ refl refl (look_up_met table key sevens) (look_up_met other key sevens) in
    let e : ◌≡◌ {A = List ℕ} (0 ∷ 0 ∷ []) (1 ∷ 1000 ∷ []) = sym a ∙ ap (λ (l : List ℕ). get_or l 0 7 ∷ get_or l 1 7 ∷ []) s.2 ∙ b in
    let w : ◌≡◌ {A = ℕ} 0 1 = cc in
    omega arith

-- the latest time: a table that is read without a tick still shows a track that is out of date
pub clock_needed : ((cs ds : List Call) (xs ys : List Sent) (p : Run None cs xs) (q : Run None ds ys) → timely key 0 cs ≡ timely key 0 ds
    → Never6 key cs xs → Never6 key ds ys → SameTrack key (left_of p) (left_of q)) → ⊥
clock_needed h =
    differ _ _ seen.no_tick.2 seen.no_tick.3
    (h (first ∷ far ∷ []) (first ∷ []) _ _ (run_of 2 computed.done.1 (first ∷ far ∷ [])) (run_of 1 computed.done.0 (first ∷ [])) (rw (own_calls_lem.0, own_others.1))
    ((λ _ e. zero_not_six seen.no_tick.0 e), ((λ p _. true≢false (sym p ∙ own_others.1)), tt))
    ((λ _ e. zero_not_six seen.no_tick.1 e), tt))

-- that late calls are left out: one that is late in the stream is not late in a table that is behind
pub order_needed : ((cs ds : List Call) (xs ys : List Sent) (p : Run None cs xs) (q : Run None ds ys) → own_calls key cs ≡ own_calls key ds → latest 0 cs ≡ latest 0 ds
    → Never6 key cs xs → Never6 key ds ys → SameTrack key (left_of p) (left_of q)) → ⊥
order_needed h =
    differ _ _ seen.late_in_one.1 seen.in_both.3
    (h (stranger ∷ first ∷ []) its_deal _ _ (run_of 2 computed.done.1 (stranger ∷ first ∷ [])) (run_of 1 computed.done.0 its_deal)
    (rw (own_calls_lem.0, own_calls_lem.3, own_others.0)) refl
    ((λ p _. true≢false (sym p ∙ own_calls_lem.3)), ((λ _ e. second_late seen.late_in_one.0 e), tt))
    never_in_deal)

-- that 6 is excepted: a table of one place has none left for the aircraft
pub six_excepted : ((cs ds : List Call) (xs ys : List Sent) (p : Run None cs xs) (q : Run None ds ys) → Sparse key cs ds → SameTrack key (left_of p) (left_of q)) → ⊥
six_excepted h =
    differ _ _ seen.full seen.in_both.3
    (h stream its_deal _ _ (run_of 1 computed.done.0 stream) (run_of 1 computed.done.0 its_deal)
    (record { calls = rw (own_calls_lem.0, own_calls_lem.2, own_calls_lem.3, own_others.0); clock = refl }))
