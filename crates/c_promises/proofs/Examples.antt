-- The promises are not empty and each premise is needed: runs of one or two calls in tables of one place and of two, computed. Every number below is one that C gets.
-- Assumes nothing.
use Rattle.std.specs.Prelude.{None}
use Prim.Native.Nat.{ℕ, zero, suc, ◌*◌, ◌≤◌}
use mathlib.Core.Bool.{false, true≢false}
use mathlib.Core.Path.{◌≡◌, refl, ap, sym, ◌∙◌}
use mathlib.Core.List.{List, [], ◌∷◌, map}
use native.Mathlib.Omega.{arith}
use lib.IntN.{pos}
use lib.ListN.{length, get_or, replicate, length-replicate}
use Rattle.parity.specs.Division.{remainder_from, reduce}
use Rattle.parity.specs.Parity.{remainder, flipped}
use Rattle.memory.specs.Bytes.{number_at, low_bytes, put}
use Rattle.memory.specs.Offsets.{whole_places}
use Rattle.memory.specs.Ranges as ranges
use Rattle.messages.specs.Message.{opened, kind_of}
use Rattle.whereabouts.specs.Located.{no_site, surface_position, read_singly, is_partner, airborne_position}
use Rattle.track.specs.Track.{group_track, saved_track, surface_track}
use Rattle.track.specs.Meaning.{meant_groups, meant_position, meant_saved, meant}
use Rattle.place.specs.Place.{saved_from, groups_in, lowered, position_in, written_in, track_of, above_pole, marks_of, saved_number, saved_bytes, message_bytes, spot_bytes, body_of}
use Rattle.rules.specs.Form.{is_held, holds}
use Rattle.rules.specs.Rules as rules
use Rattle.table_bytes.specs.Layout.{site_from, key_at, body_at, moved, stored, emptied}
use Rattle.table.specs.Table.{set_up, set_up_at, received, looked_up}
use Rattle.entries.specs.Sent.{Sent, into}
use Rattle.track_rows.specs.Held.{looked_said}
use Rattle.track_rows.specs.Tracks.{kept_row, track_row}
use Rattle.replay.specs.Alone as alone
use Rattle.replay.specs.Replay.{is_log, replayed}
use Rattle.isolation.specs.Runs.{Call, Alike, Alike.end, Alike.its, Alike.others}
use Rattle.isolation.specs.Logs.{log_of}
use Rattle.isolation.proofs.Replayed.{log_length}
use Rattle.isolation.proofs.Examples.{key, key_3, first, second, stranger_first, stranger, refused_first, refused, station_3, own_calls_lem, empty_bytes}
use Rattle.addercoil.specs.Tables.{set_up_sent, received_sent}
use Rattle.audit.specs.Replays.{asked_of, worked_out, replay_said, coarse_said}
use Rattle.c_promises.specs.Calls.{Replay}
use Rattle.c_promises.specs.Runs.{Run, Never6, SameTo}
use Rattle.c_promises.specs.Logs.{left_by, left_of, SameAsTable}
use Rattle.c_promises.proofs.Isolated.{isolated}
use Rattle.c_promises.specs.Backs.{backs_of}
use Rattle.c_promises.proofs.Every.{run_met, look_up_met, replay_met}

-- ---- a table of n places, set up without a site, and calls

abbrev pub backs : ℕ → List Call → List Sent
backs n cs = backs_of (set_up (empty_bytes n)).table cs

abbrev pub table_after : ℕ → List Call → List ℕ
table_after n cs = left_by (set_up (empty_bytes n)).table (backs n cs)

abbrev pub numbers : ℕ → List Call → List ℕ
numbers n cs = map (λ (x : Sent). x.number) (backs n cs)

-- ADDERCOIL_TRACK_HELD and ADDERCOIL_TRACK_HEARD, in an array that held sevens
abbrev pub sevens : List ℕ
sevens = replicate 72 7

abbrev held_and_heard : Sent → List ℕ
held_and_heard x = get_or x.array 0 7 ∷ get_or x.array 1 7 ∷ []

abbrev pub looked_in : List ℕ → ℕ → List ℕ
looked_in table k = held_and_heard (into 72 sevens (looked_said k (looked_up table k)))

abbrev pub looked : ℕ → List Call → List ℕ
looked n cs = looked_in (table_after n cs) key

-- noise when a track of 1000 is out of date
abbrev long_after : Call
long_after = record { message = refused.message; bytes = refused.bytes; whole = refl; time = 126000; fits = omega arith }

-- a set-up with a site beyond the pole, of a table that holds the aircraft
abbrev not_set_up : Sent
not_set_up = set_up_sent (set_up_at (table_after 1 (first ∷ [])) (record { latitude = pos 1073741825; longitude = 0 }))

pub record Computed : Type 0 where
  pub done : ((set_up_sent (set_up (empty_bytes 1))).number ≡ 0) × ((set_up_sent (set_up (empty_bytes 2))).number ≡ 0)
  pub two_places : (numbers 2 (first ∷ stranger ∷ []) ≡ 0 ∷ 0 ∷ []) × (numbers 2 (first ∷ refused ∷ []) ≡ 0 ∷ 3 ∷ [])
  pub one_place : (numbers 1 (stranger_first ∷ second ∷ []) ≡ 0 ∷ 6 ∷ []) × (numbers 1 (refused_first ∷ second ∷ []) ≡ 3 ∷ 0 ∷ [])
  pub held : looked 2 (first ∷ stranger ∷ []) ≡ 1 ∷ 1000 ∷ []
  pub full : looked 1 (stranger_first ∷ second ∷ []) ≡ 0 ∷ 0 ∷ []
  -- its own calls must be the same in both, and all times equal, and both set-ups done: else its track may be in one alone
  pub other_calls : looked 2 (refused_first ∷ stranger ∷ []) ≡ 0 ∷ 0 ∷ []
  pub other_times : looked 2 (first ∷ long_after ∷ []) ≡ 0 ∷ 0 ∷ []
  pub set_up_refused : (not_set_up.number ≡ 8) × (looked_in not_set_up.array key ≡ 1 ∷ 1000 ∷ [])

pub computed : Computed
unfolding set_up_sent received_sent into track_row kept_row remainder remainder_from reduce opened kind_of is_held holds rules.set_up rules.place_of rules.free_place rules.delivered rules.received rules.looked_up whole_places site_from key_at body_at moved stored emptied number_at low_bytes put saved_from groups_in lowered position_in written_in meant_groups meant_position meant_saved meant track_of above_pole marks_of saved_number saved_bytes message_bytes spot_bytes body_of ranges.in_range group_track surface_track surface_position
computed =
    record {
      done = (refl, refl);
      two_places = (refl, refl);
      one_place = (refl, refl);
      held = refl;
      full = refl;
      other_calls = refl;
      other_times = refl;
      set_up_refused = (refl, refl);
    }

-- ---- demand 3

abbrev pub run_of : (n : ℕ) → (set_up_sent (set_up (empty_bytes n))).number ≡ 0 → (cs : List Call) → Run None cs (backs n cs)
run_of n done cs = run_met None (empty_bytes n) done cs

alike : Alike key (first ∷ stranger ∷ []) (first ∷ refused ∷ [])
alike = its first own_calls_lem.0 (others stranger refused own_calls_lem.3 own_calls_lem.6 refl end)

pub zero_not_six : {x : ℕ} {l m : List ℕ} → x ∷ l ≡ 0 ∷ m → x ≡ 6 → ⊥
zero_not_six e z = let w : ◌≡◌ {A = ℕ} 0 6 = cc in omega arith

-- two runs that keep every premise, and of which the second calls return 0 and 3: the same to the aircraft, which is held (`held`)
pub not_empty : Never6 key (first ∷ stranger ∷ []) (backs 2 (first ∷ stranger ∷ [])) × Never6 key (first ∷ refused ∷ []) (backs 2 (first ∷ refused ∷ []))
    × SameTo key (first ∷ stranger ∷ []) (backs 2 (first ∷ stranger ∷ [])) (backs 2 (first ∷ refused ∷ []))
not_empty =
    let a : Never6 key (first ∷ stranger ∷ []) (backs 2 (first ∷ stranger ∷ [])) =
    ((λ _ e. zero_not_six computed.two_places.0 e), ((λ p _. true≢false (sym p ∙ own_calls_lem.3)), tt)) in
    let b : Never6 key (first ∷ refused ∷ []) (backs 2 (first ∷ refused ∷ [])) =
    ((λ _ e. zero_not_six computed.two_places.1 e), ((λ p _. true≢false (sym p ∙ own_calls_lem.6)), tt)) in
    (a, b, isolated key None _ _ _ _ (run_of 2 computed.done.1 _) (run_of 2 computed.done.1 _) alike a b)

-- why 6 is excepted: of two newcomers to one place the second is refused, and after noise it is not
pub six_excepted : ((cs ds : List Call) (xs ys : List Sent) → Run None cs xs → Run None ds ys → Alike key cs ds → SameTo key cs xs ys) → ⊥
six_excepted h =
    let same = h _ _ _ _ (run_of 1 computed.done.0 (stranger_first ∷ second ∷ [])) (run_of 1 computed.done.0 (refused_first ∷ second ∷ []))
    (others stranger_first refused_first own_calls_lem.2 own_calls_lem.5 refl (its second own_calls_lem.1 end)) in
    six_not_zero computed.one_place.0 computed.one_place.1 (same.2.0 own_calls_lem.1)
  where
    six_not_zero : {a b x y : ℕ} {l m : List ℕ} → a ∷ x ∷ l ≡ 0 ∷ 6 ∷ [] → b ∷ y ∷ m ≡ 3 ∷ 0 ∷ [] → x ≡ y → ⊥
    six_not_zero p q e = let w : ◌≡◌ {A = ℕ} 0 6 = cc in omega arith

-- ---- a replay

abbrev replay : List Call → ℕ → ℕ → Sent
replay cs kind address = into 72 sevens (replay_said (log_of cs) kind address no_site)

abbrev replay_coarse : List Call → ℕ → ℕ → ℕ → Sent
replay_coarse cs address flag station = into 72 sevens (coarse_said (log_of cs) address flag station)

pub record WorkedOut : Type 0 where
  pub held : held_and_heard (replay (first ∷ stranger ∷ []) 1 0xABCDEF) ≡ 1 ∷ 1000 ∷ []
  pub full : held_and_heard (replay (stranger_first ∷ second ∷ []) 1 0xABCDEF) ≡ 1 ∷ 2000 ∷ []
  pub coarse : (held_and_heard (replay_coarse (station_3 ∷ []) 0xABCDEF 0 3) ≡ 1 ∷ 1000 ∷ []) × (looked_in (table_after 1 (station_3 ∷ [])) key_3 ≡ 1 ∷ 1000 ∷ [])
  -- a number that is no kind, an address over 24 bits, a flag over 1 and a station over 15 get 8; addercoil_look_up returns 0 for any key
  pub no_kind : ((replay [] 0 0).number ≡ 8) × ((replay [] 6 0).number ≡ 8)
  pub wide : ((replay [] 1 0x1000000).number ≡ 8) × ((replay_coarse [] 0x1000000 0 0).number ≡ 8) × ((replay_coarse [] 0 2 0).number ≡ 8) × ((replay_coarse [] 0 0 16).number ≡ 8)

pub worked_out_lem : WorkedOut
unfolding set_up_sent received_sent into asked_of worked_out track_row kept_row replayed alone.heard_in alone.own_after remainder remainder_from reduce opened kind_of is_held holds rules.set_up rules.place_of rules.free_place rules.delivered rules.received rules.looked_up whole_places site_from key_at body_at moved stored emptied number_at low_bytes put saved_from groups_in lowered position_in written_in meant_groups meant_position meant_saved meant track_of above_pole marks_of saved_number saved_bytes message_bytes spot_bytes body_of ranges.in_range group_track saved_track surface_track surface_position read_singly is_partner airborne_position
worked_out_lem =
    record {
      held = refl;
      full = refl;
      coarse = (refl, refl);
      no_kind = (refl, refl);
      wide = (refl, refl, refl, refl);
    }

-- why 6 is excepted
pub replay_excepted : ((cs : List Call) (xs : List Sent) (run : Run None cs xs) → length cs ≤ 2900 → SameAsTable (Replay (log_of cs) 1 0xABCDEF) (left_of run) key) → ⊥
replay_excepted h =
    let cs : List Call = stranger_first ∷ second ∷ [] in
    let run = run_of 1 computed.done.0 (stranger_first ∷ second ∷ []) in
    let same = h _ _ run (omega arith) sevens sevens _ _ refl refl (replay_met (log_of cs) 1 0xABCDEF sevens) (look_up_met (left_of run) key sevens) in
    one_not_zero (sym worked_out_lem.full ∙ ap (λ (l : List ℕ). get_or l 0 7 ∷ get_or l 1 7 ∷ []) same.2 ∙ computed.full)
  where
    one_not_zero : ◌≡◌ {A = List ℕ} (1 ∷ 2000 ∷ []) (0 ∷ 0 ∷ []) → ⊥
    one_not_zero e = let w : ◌≡◌ {A = ℕ} 1 0 = cc in omega arith

-- why a log has at most 2,900 records: one of 2,901 is refused with 14
too_long : (cs : List Call) → length cs ≡ 2901 → (replay cs 1 0xABCDEF).number ≡ 14
unfolding into asked_of
too_long cs h = let e : is_log (length (log_of cs)) ≡ false = ap is_log (log_length cs ∙ ap (λ (n : ℕ). 22 * n) h) in rw e

never_noise : (n : ℕ) (s : List ℕ) → Never6 key (replicate n refused_first) (backs_of s (replicate n refused_first))
never_noise zero s = tt
never_noise (suc n) s = ((λ p _. true≢false (sym p ∙ own_calls_lem.5)), never_noise n _)

abbrev AnyRecords : Type 0
AnyRecords = (cs : List Call) (xs : List Sent) (run : Run None cs xs) → Never6 key cs xs → SameAsTable (Replay (log_of cs) 1 0xABCDEF) (left_of run) key

noise_fails : (n : ℕ) → n ≡ 2901 → AnyRecords → ⊥
noise_fails n many h =
    let cs : List Call = replicate n refused_first in
    let run = run_of 1 computed.done.0 cs in
    let same = h cs _ run (never_noise n _) sevens sevens _ _ refl refl (replay_met (log_of cs) 1 0xABCDEF sevens) (look_up_met (left_of run) key sevens) in
    let z : ◌≡◌ {A = ℕ} 14 0 = sym (too_long cs (length-replicate n refused_first ∙ many)) ∙ same.0 in
    omega arith

pub records_needed : AnyRecords → ⊥
records_needed = noise_fails 2901 refl

-- ---- one wrong bit: 3 at its time, 2 behind a later message, 7 of a table that is none

abbrev wrong : List ℕ
wrong = flipped 88 first.message

abbrev returned : List ℕ → List ℕ → ℕ → ℕ
returned table message time = (received_sent (received table message time)).number

pub record WrongBit : Type 0 where
  pub sent : numbers 1 (first ∷ []) ≡ 0 ∷ []
  pub in_time : returned (set_up (empty_bytes 1)).table wrong 1000 ≡ 3
  pub late : returned (table_after 1 (first ∷ [])) wrong 999 ≡ 2
  pub no_table : returned [] wrong 1000 ≡ 7
  -- the message must have been accepted: flipped once more, what was refused is taken. And there is no bit 113, nor a bit 0
  pub flipped_back : returned (set_up (empty_bytes 1)).table (flipped 88 wrong) 1000 ≡ 0
  pub no_bit : (returned (set_up (empty_bytes 1)).table (flipped 113 first.message) 1000 ≡ 0) × (returned (set_up (empty_bytes 1)).table (flipped 0 first.message) 1000 ≡ 0)

pub wrong_bit : WrongBit
unfolding flipped set_up_sent received_sent remainder remainder_from reduce opened kind_of is_held holds rules.set_up rules.place_of rules.free_place rules.delivered rules.received whole_places site_from key_at body_at moved stored emptied number_at low_bytes put saved_from groups_in lowered position_in written_in meant_groups meant_position meant_saved meant track_of above_pole marks_of saved_number saved_bytes message_bytes spot_bytes body_of ranges.in_range group_track surface_track surface_position
wrong_bit = record { sent = refl; in_time = refl; late = refl; no_table = refl; flipped_back = refl; no_bit = (refl, refl) }
