-- What is promised of stamps is not empty, and each premise is needed: runs of one or two calls with stamps, computed. Two messages of two aircraft; then 14 zero bytes, which get 4: a stamp counts all the same.
-- Assumes nothing.
use Rattle.std.specs.Prelude.{Some, None}
use Prim.Native.Nat.{ℕ, ◌+◌, ◌^◌, ◌<◌}
use mathlib.Core.Bool.{Bool, true, false, cond, not, true≢false}
use mathlib.Core.Path.{◌≡◌, refl, ap, sym, ◌∙◌, subst}
use mathlib.Core.List.{List, [], ◌∷◌, map}
use native.Mathlib.Omega.{arith}
use lib.Dec.{lit<}
use lib.ListN.{get_or, replicate}
use Rattle.parity.specs.Division.{remainder_from, reduce}
use Rattle.parity.specs.Parity.{remainder}
use Rattle.memory.specs.Bytes.{number_at, low_bytes, put}
use Rattle.memory.specs.Offsets.{whole_places}
use Rattle.memory.specs.Ranges as ranges
use Rattle.messages.specs.Message.{opened, kind_of}
use Rattle.whereabouts.specs.Located.{surface_position}
use Rattle.track.specs.Track.{group_track, surface_track}
use Rattle.track.specs.Meaning.{meant_groups, meant_position, meant_saved, meant}
use Rattle.place.specs.Place.{saved_from, groups_in, lowered, position_in, written_in, track_of, above_pole, marks_of, saved_number, saved_bytes, message_bytes, spot_bytes, body_of}
use Rattle.rules.specs.Form.{is_held, holds}
use Rattle.rules.specs.Rules as rules
use Rattle.table_bytes.specs.Layout.{site_from, key_at, body_at, moved, stored, emptied}
use Rattle.table.specs.Table.{set_up, clock_in}
use Rattle.entries.specs.Sent.{Sent, sent, into}
use Rattle.stamps.specs.Stamps.{distance, extended, time_of, stamped}
use Rattle.stamps.specs.Times.{not_accepted, IfElse, stamp_of, NeverBack}
use Rattle.stamps.specs.Times as times
use Rattle.isolation.specs.Runs.{Call, Alike, Alike.end, Alike.its, Alike.others}
use Rattle.isolation.proofs.Examples.{key, first, second, stranger_first, stranger, refused_first, refused, own_calls_lem, empty_bytes}
use Rattle.addercoil.specs.Blocks.{Both}
use Rattle.addercoil.specs.Stamps.{received_stamp}
use Rattle.addercoil.specs.Tables.{set_up_sent, clock_said}
use Rattle.c_promises.specs.Runs.{SameTo}
use Rattle.c_promises.specs.Stamps.{tables_of, RunEqual}
use Rattle.c_promises.specs.Times.{RunTrue, accepted, FirstTrue, NoneFar, Right}
use Rattle.c_promises.proofs.Examples.{computed, zero_not_six}
use Rattle.c_promises.proofs.Stamped.{stamped_isolated}
use Rattle.c_promises.specs.Backs.{stamped_backs}
use Rattle.c_promises.proofs.Every.{clock_met, Narrow, run_stamps_met}

-- ---- demand 3 over equal stamps: the calls of Examples, their times for stamps

abbrev equal_backs : ℕ → List Call → List Both
equal_backs n cs = stamped_backs (λ (c : Call). c.message) (λ (c : Call). c.time) (set_up (empty_bytes n)).table (0 ∷ 0 ∷ []) cs

abbrev numbers_of : List Both → List ℕ
numbers_of xs = map (λ (x : Both). x.sent.number) xs

abbrev run_equal : (n : ℕ) → (set_up_sent (set_up (empty_bytes n))).number ≡ 0 → (cs : List Call) → Narrow (λ (c : Call). c.message) (λ (c : Call). c.time) cs → RunEqual None cs (equal_backs n cs)
run_equal n done cs small = run_stamps_met (λ (c : Call). c.message) (λ (c : Call). c.time) None (empty_bytes n) done cs small

-- ---- true times: 2^32, whose stamp is 0; 5, then 4; 0, then 2^31; 2^32 - 1, then 2^32 + 5, whose stamp is 5

abbrev at : (time : ℕ) → time < 2 ^ 64 → times.Call
at time fits = record { message = replicate 14 0; time = time; fits = fits }

abbrev turned : List times.Call
turned = at 4294967296 (lit< tt) ∷ []

abbrev back : List times.Call
back = at 5 (lit< tt) ∷ at 4 (lit< tt) ∷ []

abbrev far : List times.Call
far = at 0 (lit< tt) ∷ at 2147483648 (lit< tt) ∷ []

abbrev again : List times.Call
again = at 4294967295 (lit< tt) ∷ at 4294967301 (lit< tt) ∷ []

abbrev backs : List times.Call → List Both
backs cs = stamped_backs (λ (c : times.Call). c.message) (λ (c : times.Call). stamp_of c.time) (set_up (empty_bytes 1)).table (0 ∷ 0 ∷ []) cs

all_narrow : (cs : List times.Call) → Narrow (λ (c : times.Call). c.message) (λ (c : times.Call). stamp_of c.time) cs
all_narrow [] = tt
all_narrow (c ∷ cs) = (omega arith, all_narrow cs)

abbrev run_true : (cs : List times.Call) → RunTrue None cs (backs cs)
run_true cs = run_stamps_met (λ (c : times.Call). c.message) (λ (c : times.Call). stamp_of c.time) None (empty_bytes 1) computed.done.0 cs (all_narrow cs)

-- the clock after each call, in an array that held a seven
abbrev clocks_of : List Both → List Sent
clocks_of xs = map (λ (x : Both). into 1 (7 ∷ []) (clock_said (clock_in x.table))) xs

pub record Computed : Type 0 where
  pub two_places : (numbers_of (equal_backs 2 (first ∷ stranger ∷ [])) ≡ 0 ∷ 0 ∷ []) × (numbers_of (equal_backs 2 (first ∷ refused ∷ [])) ≡ 0 ∷ 3 ∷ [])
  pub one_place : (numbers_of (equal_backs 1 (stranger_first ∷ second ∷ [])) ≡ 0 ∷ 6 ∷ []) × (numbers_of (equal_backs 1 (refused_first ∷ second ∷ [])) ≡ 3 ∷ 0 ∷ [])
  pub by_turned : (numbers_of (backs turned) ≡ 4 ∷ []) × (clocks_of (backs turned) ≡ sent 0 (0 ∷ []) ∷ [])
  pub by_back : numbers_of (backs back) ≡ 4 ∷ 2 ∷ []
  pub by_far : numbers_of (backs far) ≡ 4 ∷ 2 ∷ []
  pub by_again : (numbers_of (backs again) ≡ 4 ∷ 4 ∷ []) × (clocks_of (backs again) ≡ sent 0 (4294967295 ∷ []) ∷ sent 0 (4294967301 ∷ []) ∷ [])

pub computed_stamps : Computed
unfolding received_stamp stamped time_of extended distance into clock_in remainder remainder_from reduce opened kind_of is_held holds rules.set_up rules.place_of rules.free_place rules.delivered rules.received whole_places site_from key_at body_at moved stored emptied number_at low_bytes put saved_from groups_in lowered position_in written_in meant_groups meant_position meant_saved meant track_of above_pole marks_of saved_number saved_bytes message_bytes spot_bytes body_of ranges.in_range group_track surface_track surface_position
computed_stamps = record { two_places = (refl, refl); one_place = (refl, refl); by_turned = (refl, refl); by_back = refl; by_far = refl; by_again = (refl, refl) }

-- ---- demand 3

-- two runs that keep every premise, and of which the second calls return 0 and 3
pub stamped_not_empty : SameTo key (first ∷ stranger ∷ []) (tables_of (equal_backs 2 (first ∷ stranger ∷ []))) (tables_of (equal_backs 2 (first ∷ refused ∷ [])))
stamped_not_empty =
    stamped_isolated key None _ _ _ _ (run_equal 2 computed.done.1 (first ∷ stranger ∷ []) (omega arith, (omega arith, tt))) (run_equal 2 computed.done.1 (first ∷ refused ∷ []) (omega arith, (omega arith, tt)))
    (its first own_calls_lem.0 (others stranger refused own_calls_lem.3 own_calls_lem.6 refl end))
    ((λ _ e. zero_not_six computed_stamps.two_places.0 e), ((λ p _. true≢false (sym p ∙ own_calls_lem.3)), tt))
    ((λ _ e. zero_not_six computed_stamps.two_places.1 e), ((λ p _. true≢false (sym p ∙ own_calls_lem.6)), tt))

-- why 6 is excepted
pub stamped_six_excepted : ((cs ds : List Call) (xs ys : List Both) → RunEqual None cs xs → RunEqual None ds ys → Alike key cs ds → SameTo key cs (tables_of xs) (tables_of ys)) → ⊥
stamped_six_excepted h =
    let same = h _ _ _ _ (run_equal 1 computed.done.0 (stranger_first ∷ second ∷ []) (omega arith, (omega arith, tt))) (run_equal 1 computed.done.0 (refused_first ∷ second ∷ []) (omega arith, (omega arith, tt)))
    (others stranger_first refused_first own_calls_lem.2 own_calls_lem.5 refl (its second own_calls_lem.1 end)) in
    six_not_zero computed_stamps.one_place.0 computed_stamps.one_place.1 (same.2.0 own_calls_lem.1)
  where
    six_not_zero : {a b x y : ℕ} {l m : List ℕ} → a ∷ x ∷ l ≡ 0 ∷ 6 ∷ [] → b ∷ y ∷ m ≡ 3 ∷ 0 ∷ [] → x ≡ y → ⊥
    six_not_zero p q e = let w : ◌≡◌ {A = ℕ} 0 6 = cc in omega arith

-- ---- the times

-- the numbers of two calls tell that the stamp of the first was accepted, and of the second not
first_accepted : {x y : ℕ} {n : ℕ} → x ∷ y ∷ [] ≡ 4 ∷ n ∷ [] → not (not_accepted x) ≡ true
first_accepted {x} e = let z : x ≡ 4 = cc in ap (λ (k : ℕ). not (not_accepted k)) z

second_late : {x y : ℕ} → x ∷ y ∷ [] ≡ 4 ∷ 2 ∷ [] → not (not_accepted y) ≡ false
second_late {x} {y} e = let z : y ≡ 2 = cc in ap (λ (k : ℕ). not (not_accepted k)) z

module _ (a b : ℕ) (f : a < 2 ^ 64) (g : b < 2 ^ 64) where
  abbrev two : List times.Call
  two = at a f ∷ at b g ∷ []

  abbrev one : Both
  one = received_stamp (set_up (empty_bytes 1)).table (replicate 14 0) (stamp_of a) (0 ∷ 0 ∷ [])

  abbrev rest : List Both
  rest = stamped_backs (λ (c : times.Call). c.message) (λ (c : times.Call). stamp_of c.time) one.table one.sent.array (at b g ∷ [])

  first_true : accepted one ≡ true → stamp_of a ≡ a → FirstTrue two (backs two)
  first_true t e = subst (λ (o : Bool). IfElse o (stamp_of a ≡ a) (FirstTrue (at b g ∷ []) rest)) (sym t) e

  none_far : accepted one ≡ true → b < a + 2 ^ 31 → NoneFar None two (backs two)
  none_far t n = (tt, subst (λ (o : Bool). NoneFar (cond o (Some a) None) (at b g ∷ []) rest) (sym t) (n, tt))

-- all three hold if the counter starts again between two calls, and the clock is the true time (`by_again`)
pub across_a_turn : FirstTrue again (backs again) × NeverBack 0 again × NoneFar None again (backs again)
across_a_turn =
    let t = first_accepted computed_stamps.by_again.0 in
    (first_true 4294967295 4294967301 (lit< tt) (lit< tt) t refl, (omega arith, (omega arith, tt)), none_far 4294967295 4294967301 (lit< tt) (lit< tt) t (omega arith))

-- the first accepted stamp is the true time: else the clock is another
pub first_needed : ((cs : List times.Call) (xs : List Both) (run : RunTrue None cs xs) → NeverBack 0 cs → NoneFar None cs xs → Right run.back.array cs xs) → ⊥
first_needed h =
    let r = h turned (backs turned) (run_true turned) (omega arith, tt) (tt, tt) in
    let e = (r.0 refl).1 (7 ∷ []) _ refl (clock_met (received_stamp (set_up (empty_bytes 1)).table (replicate 14 0) 0 (0 ∷ 0 ∷ [])).table (7 ∷ [])) in
    other_clock computed_stamps.by_turned.1 e
  where
    other_clock : {x : Sent} → x ∷ [] ≡ sent 0 (0 ∷ []) ∷ [] → x ≡ sent 0 (4294967296 ∷ []) → ⊥
    other_clock {x} p q =
        let e : x ≡ sent 0 (0 ∷ []) = cc in
        let w : ◌≡◌ {A = ℕ} 0 4294967296 = ap (λ (y : Sent). get_or y.array 0 7) (sym e ∙ q) in
        omega arith

-- true times never go back: else a message is late
pub never_back_needed : ((cs : List times.Call) (xs : List Both) (run : RunTrue None cs xs) → FirstTrue cs xs → NoneFar None cs xs → Right run.back.array cs xs) → ⊥
never_back_needed h =
    let t = first_accepted computed_stamps.by_back in
    let r = h back (backs back) (run_true back) (first_true 5 4 (lit< tt) (lit< tt) t refl) (none_far 5 4 (lit< tt) (lit< tt) t (omega arith)) in
    true≢false (sym (r.1.0 refl).0 ∙ second_late computed_stamps.by_back)

-- none is 2^31 or more past the last accepted one: else a message is late
pub none_far_needed : ((cs : List times.Call) (xs : List Both) (run : RunTrue None cs xs) → FirstTrue cs xs → NeverBack 0 cs → Right run.back.array cs xs) → ⊥
none_far_needed h =
    let t = first_accepted computed_stamps.by_far in
    let r = h far (backs far) (run_true far) (first_true 0 2147483648 (lit< tt) (lit< tt) t refl) (omega arith, (omega arith, tt)) in
    true≢false (sym (r.1.0 refl).0 ∙ second_late computed_stamps.by_far)
