-- The statement is not empty, its proviso is needed, and three wrong rules break it: two runs of two calls each, computed in the bytes and in the slice.
-- Assumes nothing.
use Rattle.std.specs.Prelude.{Result, Ok, Err, Option, Some, None}
use Prim.Native.Nat.{ℕ, zero, suc, ◌<◌, ◌^◌}
use mathlib.Core.Bool.{Bool, true, false, ◌&&◌, true≢false}
use mathlib.Core.Path.{◌≡◌, refl, ap, sym, ◌∙◌}
use mathlib.Core.List.{List, [], ◌∷◌}
use native.Mathlib.Omega.{arith}
use lib.Dec.{ltb}
use lib.ListN.{length, get_or, replicate}
use borrow.Author.Tests.{ltb-true}
use Rattle.refusals.specs.declared.Refusal.TheVariants.{Full}
use Rattle.fields.specs.Bytes.{Bytes}
use Rattle.fields.proofs.Bools.{and_left, and_right}
use Rattle.parity.specs.Division.{remainder_from, reduce}
use Rattle.parity.specs.Parity.{remainder}
use Rattle.memory.specs.Offsets.{table_size, whole_places}
use Rattle.messages.specs.Message.{opened, kind_of}
use Rattle.whereabouts.specs.Located.{no_site, read_singly, is_partner, airborne_position, surface_position}
use Rattle.track.specs.declared.Track.{Track}
use Rattle.track.specs.Track.{group_track, saved_track, surface_track}
use Rattle.track.specs.Meaning.{meant_groups, meant_position, meant_saved, meant}
use Rattle.memory.specs.Bytes.{number_at, low_bytes, put}
use Rattle.place.specs.Place.{saved_from, groups_in, lowered, position_in, written_in, track_of, above_pole, marks_of, saved_number, saved_bytes, message_bytes, spot_bytes, body_of}
use Rattle.memory.specs.Ranges as ranges
use Rattle.rules.specs.Form.{is_held, holds, Form}
use Rattle.rules.specs.Rules.{set_up, place_of, free_place, delivered, received}
use Rattle.rules.specs.View.{view_at}
use Rattle.table_bytes.specs.Layout.{site_from, key_at, body_at, moved, stored, emptied}
use Rattle.slice_places.specs.Ranges as slots
use Rattle.slice_places.specs.Head.{places_fit, head_of, site_of}
use Rattle.table.specs.Bytes.{bytes}
use Rattle.slice_table.specs.Slice.{Slice, slice_of, slice}
use Rattle.isolation.specs.Runs.{Call, own, Alike, Alike.end, Alike.its, Alike.others, Rule, call, NeverFull, Seen, seen, Isolation}
use Rattle.isolation.specs.Wrong.{number_in, overwriting, refreshing, kindless}
use Rattle.messages.specs.declared.Message.{Message}
use Rattle.refusals.specs.declared.Refusal.{Refusal}

-- ---- ten messages: three of I ABCDEF, the second of TYPE 0 and the third a status, of I 123456, two of O ABCDEF, the second a status, of T ABCDEF, two coarse ones of ABCDEF,
-- from the stations 3 and 5, and one whose parity is wrong

abbrev mine : List ℕ
mine = 0x8D ∷ 0xAB ∷ 0xCD ∷ 0xEF ∷ 0x20 ∷ 0x2C ∷ 0xC3 ∷ 0x71 ∷ 0xC3 ∷ 0x2C ∷ 0xE0 ∷ 0x42 ∷ 0xEA ∷ 0x5C ∷ []

abbrev silent : List ℕ
silent = 0x8D ∷ 0xAB ∷ 0xCD ∷ 0xEF ∷ 0x07 ∷ 0x38 ∷ 0x1E ∷ 0xD6 ∷ 0x90 ∷ 0xC8 ∷ 0xAC ∷ 0xAD ∷ 0x0E ∷ 0x1C ∷ []

abbrev strange : List ℕ
strange = 0x8D ∷ 0x12 ∷ 0x34 ∷ 0x56 ∷ 0x20 ∷ 0x2C ∷ 0xC3 ∷ 0x71 ∷ 0xC3 ∷ 0x2C ∷ 0xE0 ∷ 0xCA ∷ 0xBE ∷ 0x2F ∷ []

abbrev twin : List ℕ
twin = 0x91 ∷ 0xAB ∷ 0xCD ∷ 0xEF ∷ 0x20 ∷ 0x2C ∷ 0xC3 ∷ 0x71 ∷ 0xC3 ∷ 0x2C ∷ 0xE0 ∷ 0x67 ∷ 0x97 ∷ 0xD1 ∷ []

abbrev traffic : List ℕ
traffic = 0x92 ∷ 0xAB ∷ 0xCD ∷ 0xEF ∷ 0x3A ∷ 0x8A ∷ 0x35 ∷ 0x32 ∷ 0x3F ∷ 0xAE ∷ 0xBD ∷ 0xC0 ∷ 0xAB ∷ 0x93 ∷ []

abbrev state : List ℕ
state = 0x8D ∷ 0xAB ∷ 0xCD ∷ 0xEF ∷ 0xF9 ∷ 0x54 ∷ 0xB9 ∷ 0x12 ∷ 0x34 ∷ 0x4A ∷ 0xB5 ∷ 0xBF ∷ 0xE4 ∷ 0xF2 ∷ []

abbrev twin_state : List ℕ
twin_state = 0x91 ∷ 0xAB ∷ 0xCD ∷ 0xEF ∷ 0xF8 ∷ 0x00 ∷ 0x65 ∷ 0x01 ∷ 0x00 ∷ 0x37 ∷ 0x28 ∷ 0x9B ∷ 0x04 ∷ 0x13 ∷ []

abbrev from_3 : List ℕ
from_3 = 0x93 ∷ 0xAB ∷ 0xCD ∷ 0xEF ∷ 0x06 ∷ 0x6F ∷ 0x14 ∷ 0x18 ∷ 0x80 ∷ 0x08 ∷ 0x00 ∷ 0xD3 ∷ 0x61 ∷ 0x6B ∷ []

abbrev from_5 : List ℕ
from_5 = 0x93 ∷ 0xAB ∷ 0xCD ∷ 0xEF ∷ 0x0A ∷ 0x6F ∷ 0x14 ∷ 0x18 ∷ 0x80 ∷ 0x08 ∷ 0x00 ∷ 0xBE ∷ 0x91 ∷ 0x30 ∷ []

abbrev noise : List ℕ
noise = 0 ∷ 0 ∷ 0 ∷ 0 ∷ 0 ∷ 0 ∷ 0 ∷ 0 ∷ 0 ∷ 0 ∷ 1 ∷ 0 ∷ 0 ∷ 0 ∷ []

abbrev pub key : ℕ
key = 0x1ABCDEF

-- the keys of C ABCDEF from the two stations
abbrev pub key_3 : ℕ
key_3 = 0x9579BDE3

abbrev key_5 : ℕ
key_5 = 0x9579BDE5

abbrev all_bytes : List ℕ → Bool
all_bytes [] = true
all_bytes (b ∷ s) = ltb b 256 && all_bytes s

pub bytes_of : (s : List ℕ) → all_bytes s ≡ true → Bytes s
bytes_of [] e i = omega arith
bytes_of (b ∷ s) e zero = ltb-true b 256 (and_left (ltb b 256) (all_bytes s) e)
bytes_of (b ∷ s) e (suc i) = bytes_of s (and_right (ltb b 256) (all_bytes s) e) i

abbrev at : (message : List ℕ) → all_bytes message ≡ true → length message ≡ 14 → (time : ℕ) → time < 2 ^ 64 → Call
at message b l time f = record { message = message; bytes = bytes_of message b; whole = l; time = time; fits = f }

abbrev pub first : Call
first = at mine refl refl 1000 (omega arith)

abbrev pub second : Call
second = at mine refl refl 2000 (omega arith)

abbrev pub no_position_lem : Call
no_position_lem = at silent refl refl 2000 (omega arith)

abbrev pub stranger_first : Call
stranger_first = at strange refl refl 1000 (omega arith)

abbrev pub stranger : Call
stranger = at strange refl refl 2000 (omega arith)

abbrev other_kind : Call
other_kind = at twin refl refl 2000 (omega arith)

abbrev of_traffic : Call
of_traffic = at traffic refl refl 2000 (omega arith)

abbrev status_first : Call
status_first = at state refl refl 1000 (omega arith)

abbrev other_status : Call
other_status = at twin_state refl refl 2000 (omega arith)

abbrev pub station_3 : Call
station_3 = at from_3 refl refl 1000 (omega arith)

abbrev station_5 : Call
station_5 = at from_5 refl refl 2000 (omega arith)

abbrev pub refused_first : Call
refused_first = at noise refl refl 1000 (omega arith)

abbrev pub refused : Call
refused = at noise refl refl 2000 (omega arith)

-- ---- when the aircraft was last heard at the end of a run, one up, and the ME of its status; 0 if its track is absent

abbrev heard_in : Option Track → ℕ
heard_in None = 0
heard_in (Some t) = suc t.heard

abbrev status_in : Option Track → ℕ
status_in None = 0
status_in (Some t) = t.groups.status

abbrev last_of : List Seen → Option Track
last_of [] = None
last_of (x ∷ []) = x.track
last_of (x ∷ y ∷ r) = last_of (y ∷ r)

-- ---- whose the calls are: computed

pub own_calls_lem : (own key first ≡ true) × (own key second ≡ true) × (own key stranger_first ≡ false) × (own key stranger ≡ false) × (own key other_kind ≡ false)
    × (own key refused_first ≡ false) × (own key refused ≡ false) × (own key no_position_lem ≡ true) × (own key of_traffic ≡ false)
    × (own key status_first ≡ true) × (own key other_status ≡ false) × (own key station_5 ≡ false)
unfolding own remainder remainder_from reduce opened kind_of
own_calls_lem = (refl, refl, refl, refl, refl, refl, refl, refl, refl, refl, refl, refl)

-- of a station a message of its own, and of the other none
pub own_stations : (own key_3 station_3 ≡ true) × (own key_3 station_5 ≡ false) × (own key_3 refused ≡ false)
unfolding own remainder remainder_from reduce opened kind_of
own_stations = (refl, refl, refl)

own_first : own key first ≡ true
own_first = own_calls_lem.0

noise_not_own : own key refused ≡ false
noise_not_own = own_calls_lem.6

-- a call of its own, and then one that is not: alike whatever that is
alike : (c : Call) → own key c ≡ false → c.time ≡ 2000 → Alike key (first ∷ c ∷ []) (first ∷ refused ∷ [])
alike c o t = its first own_first (others c refused o noise_not_own (cc) end)

pub not_six : {d : Result Message Refusal} {n : ℕ} → number_in d ≡ n → (n ≡ 6 → ⊥) → d ≡ Err Full → ⊥
not_six z ne e = ne (sym z ∙ ap number_in e)

-- ---- a form, of which `empty n` is a table of n places

module _ {S : Type 0} (F : Form S) (empty : ℕ → S) where
  -- set up without a site
  abbrev ready : ℕ → S
  ready n = (set_up F (empty n) no_site).table

  abbrev end_of : Rule S → ℕ → List Call → ℕ
  end_of rule n cs = heard_in (last_of (seen F rule key (ready n) cs))

  -- the same of a key
  abbrev end_for : ℕ → List Call → ℕ
  end_for k cs = heard_in (last_of (seen F (received F) k (ready 2) cs))

  abbrev status_of_lem : ℕ → List Call → ℕ
  status_of_lem n cs = status_in (last_of (seen F (received F) key (ready n) cs))

  abbrev number_to_first : Rule S → ℕ → ℕ
  number_to_first rule n = number_in (call rule (ready n) first).answer

  -- what is answered to a call after another
  abbrev number_after : ℕ → Call → Call → ℕ
  number_after n c d = number_in (call (received F) (call (received F) (ready n) c).table d).answer

  -- what is computed of it
  pub record Computed : Type 0 where
    pub done_1 : (set_up F (empty 1) no_site).answer ≡ Ok tt
    pub done_2 : (set_up F (empty 2) no_site).answer ≡ Ok tt
    pub held_in_both : (number_to_first (received F) 2 ≡ 0) × (end_of (received F) 2 (first ∷ stranger ∷ []) ≡ 1001) × (end_of (received F) 2 (first ∷ refused ∷ []) ≡ 1001)
    pub one_place : (end_of (received F) 1 (stranger_first ∷ second ∷ []) ≡ 0) × (end_of (received F) 1 (refused_first ∷ second ∷ []) ≡ 2001)
        × (number_after 1 stranger_first second ≡ 6)
    pub silent_one : (number_after 1 stranger_first no_position_lem ≡ 12) × (number_after 1 refused_first no_position_lem ≡ 12)
        × (number_after 1 first no_position_lem ≡ 0) × (end_of (received F) 1 (first ∷ no_position_lem ∷ []) ≡ 2001)
    pub twin_of_traffic : (number_after 2 first of_traffic ≡ 0) × (end_of (received F) 2 (first ∷ of_traffic ∷ []) ≡ 1001)
    pub twin_states : (number_in (call (received F) (ready 2) status_first).answer ≡ 0) × (number_after 2 status_first other_status ≡ 0)
        × (status_of_lem 2 (status_first ∷ other_status ∷ []) ≡ 0xF954B912344AB5) × (status_of_lem 2 (status_first ∷ refused ∷ []) ≡ 0xF954B912344AB5)
    pub two_stations : (number_in (call (received F) (ready 2) station_3).answer ≡ 0) × (number_after 2 station_3 station_5 ≡ 0)
        × (end_for key_3 (station_3 ∷ station_5 ∷ []) ≡ 1001) × (end_for key_5 (station_3 ∷ station_5 ∷ []) ≡ 2001) × (end_for key_3 (station_3 ∷ refused ∷ []) ≡ 1001)
    pub coarse_twin : (number_after 2 first station_5 ≡ 0) × (end_of (received F) 2 (first ∷ station_5 ∷ []) ≡ 1001)
    pub by_overwriting : (number_to_first (overwriting F) 1 ≡ 0) × (end_of (overwriting F) 1 (first ∷ stranger ∷ []) ≡ 0) × (end_of (overwriting F) 1 (first ∷ refused ∷ []) ≡ 1001)
    pub by_refreshing : (number_to_first (refreshing F) 2 ≡ 0) × (end_of (refreshing F) 2 (first ∷ stranger ∷ []) ≡ 2001) × (end_of (refreshing F) 2 (first ∷ refused ∷ []) ≡ 1001)
    pub by_kindless : (number_to_first (kindless F) 2 ≡ 0) × (end_of (kindless F) 2 (first ∷ other_kind ∷ []) ≡ 2001) × (end_of (kindless F) 2 (first ∷ refused ∷ []) ≡ 1001)

  module _ (rule : Rule S) (n : ℕ) (is-done : (set_up F (empty n) no_site).answer ≡ Ok tt) (accepted : number_to_first rule n ≡ 0) where
    never_full : (c : Call) → own key c ≡ false → NeverFull rule key (ready n) (first ∷ c ∷ [])
    never_full c o = ((λ _ e. absurd (not_six accepted (λ z. omega arith) e)), ((λ p _. absurd (true≢false (sym p ∙ o))), tt))

    broken : (c : Call) → own key c ≡ false → c.time ≡ 2000 → {a b : ℕ} → end_of rule n (first ∷ c ∷ []) ≡ a → end_of rule n (first ∷ refused ∷ []) ≡ b → (a ≡ b → ⊥)
        → Isolation F F rule rule → ⊥
    broken c o t p q differ h =
        differ
        (sym p
        ∙ ap (λ (x : List Seen). heard_in (last_of x))
        (h key no_site (λ k. absurd (true≢false (sym k))) (empty n) (empty n) is-done is-done (first ∷ c ∷ []) (first ∷ refused ∷ []) (alike c o t) (never_full c o) (never_full refused noise_not_own))
        ∙ q)

  module _ (x : Computed) where
    -- two alike runs that differ in a stranger's call, and hold a track at the end
    pub not_empty : Alike key (first ∷ stranger ∷ []) (first ∷ refused ∷ [])
        × NeverFull (received F) key (ready 2) (first ∷ stranger ∷ []) × NeverFull (received F) key (ready 2) (first ∷ refused ∷ [])
        × (stranger.message ≡ refused.message → ⊥)
        × (end_of (received F) 2 (first ∷ stranger ∷ []) ≡ 1001) × (end_of (received F) 2 (first ∷ refused ∷ []) ≡ 1001)
    not_empty = (
      alike stranger own_calls_lem.3 refl,
      never_full (received F) 2 x.done_2 x.held_in_both.0 stranger own_calls_lem.3,
      never_full (received F) 2 x.done_2 x.held_in_both.0 refused noise_not_own,
      (λ e. let z : ◌≡◌ {A = ℕ} 141 0 = ap (λ (m : List ℕ). get_or m 0 0) e in omega arith),
      x.held_in_both.1,
      x.held_in_both.2,
    )

    -- TYPE 0 is one of its messages: 12 is answered to it, whether a stranger or nobody has the one place, and its own track it refreshes
    pub no_position_isolated : Alike key (stranger_first ∷ no_position_lem ∷ []) (refused_first ∷ no_position_lem ∷ [])
        × NeverFull (received F) key (ready 1) (stranger_first ∷ no_position_lem ∷ []) × NeverFull (received F) key (ready 1) (refused_first ∷ no_position_lem ∷ [])
        × (number_after 1 stranger_first no_position_lem ≡ 12) × (number_after 1 refused_first no_position_lem ≡ 12)
        × (number_after 1 first no_position_lem ≡ 0) × (end_of (received F) 1 (first ∷ no_position_lem ∷ []) ≡ 2001)
    no_position_isolated = (
      others stranger_first refused_first own_calls_lem.2 own_calls_lem.5 refl (its no_position_lem own_calls_lem.7 end),
      ((λ p _. absurd (true≢false (sym p ∙ own_calls_lem.2))), ((λ _ e. absurd (not_six x.silent_one.0 (λ z. omega arith) e)), tt)),
      ((λ p _. absurd (true≢false (sym p ∙ own_calls_lem.5))), ((λ _ e. absurd (not_six x.silent_one.1 (λ z. omega arith) e)), tt)),
      x.silent_one.0,
      x.silent_one.1,
      x.silent_one.2,
      x.silent_one.3,
    )

    -- the twin of its AA that a traffic service reports is accepted, and does nothing to it
    pub traffic_isolated : Alike key (first ∷ of_traffic ∷ []) (first ∷ refused ∷ [])
        × NeverFull (received F) key (ready 2) (first ∷ of_traffic ∷ []) × (number_after 2 first of_traffic ≡ 0)
        × (end_of (received F) 2 (first ∷ of_traffic ∷ []) ≡ 1001) × (end_of (received F) 2 (first ∷ refused ∷ []) ≡ 1001)
    traffic_isolated = (
      alike of_traffic own_calls_lem.8 refl,
      never_full (received F) 2 x.done_2 x.held_in_both.0 of_traffic own_calls_lem.8,
      x.twin_of_traffic.0,
      x.twin_of_traffic.1,
      x.held_in_both.2,
    )

    -- a status starts its track, and that of another kind under the same AA, of another version, does nothing to it: the version is per key
    pub status_isolated : Alike key (status_first ∷ other_status ∷ []) (status_first ∷ refused ∷ [])
        × NeverFull (received F) key (ready 2) (status_first ∷ other_status ∷ []) × (number_after 2 status_first other_status ≡ 0)
        × (status_of_lem 2 (status_first ∷ other_status ∷ []) ≡ 0xF954B912344AB5) × (status_of_lem 2 (status_first ∷ refused ∷ []) ≡ 0xF954B912344AB5)
    status_isolated = (
      its status_first own_calls_lem.9 (others other_status refused own_calls_lem.10 noise_not_own refl end),
      ((λ _ e. absurd (not_six x.twin_states.0 (λ z. omega arith) e)), ((λ p _. absurd (true≢false (sym p ∙ own_calls_lem.10))), tt)),
      x.twin_states.1,
      x.twin_states.2,
      x.twin_states.3,
    )

    -- one aircraft that two stations report is two tracks, and the one does nothing to the other
    pub stations_isolated : Alike key_3 (station_3 ∷ station_5 ∷ []) (station_3 ∷ refused ∷ [])
        × NeverFull (received F) key_3 (ready 2) (station_3 ∷ station_5 ∷ []) × (number_after 2 station_3 station_5 ≡ 0)
        × (end_for key_3 (station_3 ∷ station_5 ∷ []) ≡ 1001) × (end_for key_5 (station_3 ∷ station_5 ∷ []) ≡ 2001) × (end_for key_3 (station_3 ∷ refused ∷ []) ≡ 1001)
    stations_isolated = (
      its station_3 own_stations.0 (others station_5 refused own_stations.1 own_stations.2 refl end),
      ((λ _ e. absurd (not_six x.two_stations.0 (λ z. omega arith) e)), ((λ p _. absurd (true≢false (sym p ∙ own_stations.1))), tt)),
      x.two_stations.1,
      x.two_stations.2,
      x.two_stations.3,
      x.two_stations.4,
    )

    -- .. and a coarse message of its AA does nothing to an aircraft that sends for itself
    pub coarse_isolated : Alike key (first ∷ station_5 ∷ []) (first ∷ refused ∷ [])
        × NeverFull (received F) key (ready 2) (first ∷ station_5 ∷ []) × (number_after 2 first station_5 ≡ 0)
        × (end_of (received F) 2 (first ∷ station_5 ∷ []) ≡ 1001) × (end_of (received F) 2 (first ∷ refused ∷ []) ≡ 1001)
    coarse_isolated = (
      alike station_5 own_calls_lem.11 refl,
      never_full (received F) 2 x.done_2 x.held_in_both.0 station_5 own_calls_lem.11,
      x.coarse_twin.0,
      x.coarse_twin.1,
      x.held_in_both.2,
    )

    -- why 'table full' is excepted: of two newcomers to one place the second is refused
    pub proviso_needed : ((s : S) (xs ys : List Call) → (set_up F s no_site).answer ≡ Ok tt → Alike key xs ys
        → seen F (received F) key (set_up F s no_site).table xs ≡ seen F (received F) key (set_up F s no_site).table ys) → ⊥
    proviso_needed h =
        let z : ◌≡◌ {A = ℕ} 0 2001 =
        sym x.one_place.0
        ∙ ap (λ (y : List Seen). heard_in (last_of y))
        (h (empty 1) (stranger_first ∷ second ∷ []) (refused_first ∷ second ∷ []) x.done_1
        (others stranger_first refused_first own_calls_lem.2 own_calls_lem.5 refl (its second own_calls_lem.1 end)))
        ∙ x.one_place.1 in
        omega arith

    -- what must not pass: a newcomer over a held place, a stranger that refreshes every track, a key without its kind
    pub no_overwriting : Isolation F F (overwriting F) (overwriting F) → ⊥
    no_overwriting = broken (overwriting F) 1 x.done_1 x.by_overwriting.0 stranger own_calls_lem.3 refl x.by_overwriting.1 x.by_overwriting.2 (λ e. omega arith)

    pub no_refreshing : Isolation F F (refreshing F) (refreshing F) → ⊥
    no_refreshing = broken (refreshing F) 2 x.done_2 x.by_refreshing.0 stranger own_calls_lem.3 refl x.by_refreshing.1 x.by_refreshing.2 (λ e. omega arith)

    pub no_kindless : Isolation F F (kindless F) (kindless F) → ⊥
    no_kindless = broken (kindless F) 2 x.done_2 x.by_kindless.0 other_kind own_calls_lem.4 refl x.by_kindless.1 x.by_kindless.2 (λ e. omega arith)

-- ---- both forms

abbrev pub empty_bytes : ℕ → List ℕ
empty_bytes n = replicate (table_size n) 0

pub in_bytes : Computed bytes empty_bytes
unfolding remainder remainder_from reduce opened kind_of own is_held holds set_up place_of free_place delivered received view_at whole_places site_from key_at body_at moved stored emptied number_at low_bytes put saved_from groups_in lowered position_in written_in meant_groups meant_position meant_saved meant track_of above_pole marks_of saved_number saved_bytes message_bytes spot_bytes body_of ranges.in_range group_track saved_track surface_track airborne_position is_partner read_singly surface_position
in_bytes =
    record {
      done_1 = refl;
      done_2 = refl;
      held_in_both = (refl, refl, refl);
      one_place = (refl, refl, refl);
      silent_one = (refl, refl, refl, refl);
      twin_of_traffic = (refl, refl);
      twin_states = (refl, refl, refl, refl);
      two_stations = (refl, refl, refl, refl, refl);
      coarse_twin = (refl, refl);
      by_overwriting = (refl, refl, refl);
      by_refreshing = (refl, refl, refl);
      by_kindless = (refl, refl, refl);
    }

abbrev pub empty_slice : ℕ → Slice
empty_slice n = slice_of (head_of 0 no_site) (replicate n slots.no_place)

pub in_slice : Computed slice empty_slice
unfolding remainder remainder_from reduce opened kind_of own is_held holds set_up place_of free_place delivered received view_at meant_groups meant_position meant_saved meant slots.in_range slots.track_fits slots.groups_fit slots.counts_fit places_fit site_of group_track saved_track surface_track airborne_position is_partner read_singly surface_position
in_slice =
    record {
      done_1 = refl;
      done_2 = refl;
      held_in_both = (refl, refl, refl);
      one_place = (refl, refl, refl);
      silent_one = (refl, refl, refl, refl);
      twin_of_traffic = (refl, refl);
      twin_states = (refl, refl, refl, refl);
      two_stations = (refl, refl, refl, refl, refl);
      coarse_twin = (refl, refl);
      by_overwriting = (refl, refl, refl);
      by_refreshing = (refl, refl, refl);
      by_kindless = (refl, refl, refl);
    }
