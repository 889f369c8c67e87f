-- A delivery, as the code makes it: one place is chosen by the scan, and it is stepped by what it holds. The place found with the key holds it, and a free one does not.
-- Assumes nothing.
use Rattle.std.specs.Prelude.{Result, Ok, Err, is_err}
use Prim.Native.Nat.{ℕ, ◌≤◌, ◌<◌}
use native.Mathlib.Omega.{arith}
use mathlib.Core.Bool.{Bool, true, false, cond, not, ◌&&◌, true≢false, false≢true}
use mathlib.Core.Path.{◌≡◌, refl, ap, sym, subst, ◌∙◌}
use mathlib.Core.List.{List}
use lib.Dec.{eqb, ltb}
use lib.ListN.{length, get_or, set}
use borrow.Author.Tests.{lt-ltb, le-ltb, ltb-true, not-true}
use Rattle.fields.proofs.Bools.{and_left, and-false, both}
use Rattle.refusals.specs.declared.Refusal.TheVariants.{Length, Late, Places}
use Rattle.messages.specs.declared.Message.{Message}
use Rattle.messages.specs.Message.{decoded, key_of, starts}
use Rattle.track.specs.declared.Track.{Track}
use Rattle.track.specs.Track.{new_track, stepped}
use Rattle.rules.specs.Form as form
use Rattle.rules.specs.Rules as rules
use Rattle.rules.specs.Search.{lowest}
use Rattle.rules.proofs.Search.{lowest_passes}
use Rattle.slice_places.specs.declared.Place.{Place}
use Rattle.slice_places.specs.declared.Head.{Head}
use Rattle.slice_places.specs.declared.Sought.{Sought}
use Rattle.slice_places.specs.declared.arrivals.Received.{Received}
use Rattle.slice_places.specs.declared.arrivals.Renewal.{Renewal}
use Rattle.slice_places.specs.Ranges.{no_place, meaning_of, is_held, holds}
use Rattle.slice_places.specs.Head.{places_fit, moved, site_of}
use Rattle.slice_places.specs.Arrivals.{refused_with, judged, starts_in, track_in, sought_by, next_of, turned_away_by}
use Rattle.slice_table.specs.Slice.{slice_of, slice}
use Rattle.slice_table.specs.Tracks.{After, after, received}
use Rattle.slice_table.specs.Code.{delivered, scanned, chosen}
use Rattle.refusals.specs.declared.Refusal.{Refusal}

chosen_true : {A : Type 0} {b : Bool} (x y : A) → b ≡ true → x ≡ cond b x y
chosen_true x y e = rw e

chosen_false : {A : Type 0} {b : Bool} (x y : A) → b ≡ false → y ≡ cond b x y
chosen_false x y e = rw e

-- ---- what a place holds

own_track : (s : Sought) (p : Place) → holds s.clock s.key p ≡ true → track_in s p ≡ meaning_of p
unfolding track_in
own_track s p e = sym (chosen_true (meaning_of p) new_track e)

new_track_lem : (s : Sought) (p : Place) → is_held s.clock p ≡ false → track_in s p ≡ new_track
unfolding track_in form.holds
new_track_lem s p e = sym (chosen_false (meaning_of p) new_track (ap (λ (b : Bool). eqb p.key s.key && b) e ∙ and-false (eqb p.key s.key)))

-- ---- what the scan finds

module _ (ps : List Place) (head : Head) (key : ℕ) (may : Bool) where
  abbrev own : ℕ
  own = rules.place_of slice (slice_of head ps) head.clock key

  abbrev free : ℕ
  free = rules.free_place slice (slice_of head ps) head.clock

  own_holds : own < length ps → holds head.clock key (get_or ps own no_place) ≡ true
  unfolding rules.place_of
  own_holds h = lowest_passes (λ i. holds head.clock key (get_or ps i no_place)) (length ps) h

  free_unheld : free < length ps → is_held head.clock (get_or ps free no_place) ≡ false
  unfolding rules.free_place
  free_unheld h = not-true _ (lowest_passes (λ i. not (is_held head.clock (get_or ps i no_place))) (length ps) h)

  -- the free place that is sought: the free one for a message that may start a track, and none for another
  abbrev wanted : ℕ
  wanted = lowest (λ i. may && not (is_held head.clock (get_or ps i no_place))) (length ps)

  wanted_is : may ≡ true → wanted ≡ free
  unfolding rules.free_place
  wanted_is k = ap (λ (b : Bool). lowest (λ i. b && not (is_held head.clock (get_or ps i no_place))) (length ps)) k

  wanted_may : wanted < length ps → may ≡ true
  wanted_may h = and_left may _ (lowest_passes (λ i. may && not (is_held head.clock (get_or ps i no_place))) (length ps) h)

  none_wanted : length ps ≤ wanted → (b : Bool) → may ≡ b → may && ltb free (length ps) ≡ false
  none_wanted h true k = ap (λ (b : Bool). b && ltb free (length ps)) k ∙ le-ltb free (length ps) (subst (λ (j : ℕ). length ps ≤ j) (wanted_is k) h)
  none_wanted h false k = ap (λ (b : Bool). b && ltb free (length ps)) k

  chosen_is : chosen (scanned ps (record { clock = head.clock; key = key; starts = may }) (length ps)) (length ps) ≡ cond (ltb own (length ps)) own wanted
  unfolding scanned rules.place_of
  chosen_is = refl

-- ---- the ways of a delivery

-- what the code answers and leaves after the step of a place
abbrev pub left_by : List Place → ℕ → Renewal → After (Result Message Refusal)
left_by ps i r = after r.received.answer r.received.head (set ps i r.place)

module _ (ps : List Place) (head : Head) (m : Message) where
  abbrev due : Received
  due = record { answer = Ok m; head = head }

  abbrev here : ℕ
  here = own ps head (key_of m) (starts m)

  abbrev spare : ℕ
  spare = free ps head (key_of m) (starts m)

  abbrev aimed : ℕ
  aimed = wanted ps head (key_of m) (starts m)

  -- a track's step, at a place
  abbrev stepped_at : ℕ → Track → After (Result Message Refusal)
  stepped_at i t = rules.placed slice (slice_of head ps) i (key_of m) (stepped t (Ok m) (site_of head) head.clock)

  step_is : (i : ℕ) → left_by ps i (next_of due (get_or ps i no_place)) ≡ stepped_at i (track_in (sought_by due) (get_or ps i no_place))
  unfolding next_of
  step_is i = refl

  own_step : here < length ps → left_by ps here (next_of due (get_or ps here no_place)) ≡ delivered ps head (Ok m)
  unfolding rules.delivered
  own_step h = step_is here ∙ ap (stepped_at here) (own_track (sought_by due) (get_or ps here no_place) (own_holds ps head (key_of m) (starts m) h)) ∙ chosen_true _ _ (lt-ltb here (length ps) h)

  free_step : ltb here (length ps) ≡ false → starts m ≡ true → spare < length ps → left_by ps spare (next_of due (get_or ps spare no_place)) ≡ delivered ps head (Ok m)
  unfolding rules.delivered
  free_step f k h =
      step_is spare
      ∙ ap (stepped_at spare) (new_track_lem (sought_by due) (get_or ps spare no_place) (free_unheld ps head (key_of m) (starts m) h))
      ∙ chosen_true _ _ (both k (lt-ltb spare (length ps) h))
      ∙ chosen_false _ _ f

  aimed_step : ltb here (length ps) ≡ false → aimed < length ps → left_by ps aimed (next_of due (get_or ps aimed no_place)) ≡ delivered ps head (Ok m)
  aimed_step f h =
      let k : starts m ≡ true = wanted_may ps head (key_of m) (starts m) h in
      let e : aimed ≡ spare = wanted_is ps head (key_of m) (starts m) k in
      ap (λ (j : ℕ). left_by ps j (next_of due (get_or ps j no_place))) e ∙ free_step f k (subst (λ (j : ℕ). j < length ps) e h)

  no_step : ltb here (length ps) ≡ false → length ps ≤ aimed → after (Err (rules.turned_away (starts m))) head ps ≡ delivered ps head (Ok m)
  unfolding rules.delivered
  no_step f h = chosen_false _ _ (none_wanted ps head (key_of m) (starts m) h (starts m) refl) ∙ chosen_false _ _ f

  by_place : (b : Bool) → ltb here (length ps) ≡ b → (i : ℕ) → i ≡ cond b here aimed → i < length ps → left_by ps i (next_of due (get_or ps i no_place)) ≡ delivered ps head (Ok m)
  by_place true f i e h = ap (λ (j : ℕ). left_by ps j (next_of due (get_or ps j no_place))) e ∙ own_step (ltb-true here (length ps) f)
  by_place false f i e h = ap (λ (j : ℕ). left_by ps j (next_of due (get_or ps j no_place))) e ∙ aimed_step f (omega (arith, e, h))

  by_none : (b : Bool) → ltb here (length ps) ≡ b → (i : ℕ) → i ≡ cond b here aimed → length ps ≤ i → after (Err (rules.turned_away (starts m))) head ps ≡ delivered ps head (Ok m)
  by_none true f i e h = absurd (omega (arith, e, h, ltb-true here (length ps) f))
  by_none false f i e h = no_step f (omega (arith, e, h))

place_of_lem : (ps : List Place) (head : Head) (d : Result Message Refusal) → is_err d ≡ false → (i : ℕ) → i ≡ chosen (scanned ps (sought_by (record { answer = d; head = head })) (length ps)) (length ps) → i < length ps
    → left_by ps i (next_of (record { answer = d; head = head }) (get_or ps i no_place)) ≡ delivered ps head d
place_of_lem ps head (Err r) h i e l = absurd (true≢false h)
place_of_lem ps head (Ok m) h i e l = by_place ps head m (ltb (own ps head (key_of m) (starts m)) (length ps)) refl i (e ∙ chosen_is ps head (key_of m) (starts m)) l

none_of_lem : (ps : List Place) (head : Head) (d : Result Message Refusal) → is_err d ≡ false → (i : ℕ) → i ≡ chosen (scanned ps (sought_by (record { answer = d; head = head })) (length ps)) (length ps) → length ps ≤ i
    → after (Err (rules.turned_away (starts_in d))) head ps ≡ delivered ps head d
none_of_lem ps head (Err r) h i e l = absurd (true≢false h)
none_of_lem ps head (Ok m) h i e l = by_none ps head m (ltb (own ps head (key_of m) (starts m)) (length ps)) refl i (e ∙ chosen_is ps head (key_of m) (starts m)) l

refused_of : (ps : List Place) (head : Head) (d : Result Message Refusal) → is_err d ≡ true → after d head ps ≡ delivered ps head d
unfolding rules.delivered
refused_of ps head (Err r) h = refl
refused_of ps head (Ok m) h = absurd (false≢true h)

module _ (ps : List Place) (due : Received) where
  pub delivered_refused : is_err due.answer ≡ true → after due.answer due.head ps ≡ delivered ps due.head due.answer
  delivered_refused = refused_of ps due.head due.answer

  module _ (h : is_err due.answer ≡ false) (i : ℕ) (e : i ≡ chosen (scanned ps (sought_by due) (length ps)) (length ps)) where
    pub delivered_at : i < length ps → (r : Renewal) → r ≡ next_of due (get_or ps i no_place) → left_by ps i r ≡ delivered ps due.head due.answer
    delivered_at l r f = ap (left_by ps i) f ∙ place_of_lem ps due.head due.answer h i e l

    pub delivered_none : length ps ≤ i → (r : Received) → r ≡ turned_away_by due → after r.answer r.head ps ≡ delivered ps due.head due.answer
    delivered_none l r f = ap (λ (y : Received). after y.answer y.head ps) f ∙ none_of_lem ps due.head due.answer h i e l

-- ---- what is judged, and then delivered

judged_of : (a b c : Bool) (ps : List Place) (head next : Head) (d : Result Message Refusal) (r : Received) → r ≡ cond a (refused_with Length head) (cond b (refused_with Places head) (cond c (refused_with Late head) (record { answer = d; head = next })))
    → delivered ps r.head r.answer
    ≡ cond a (after (Err Length) head ps) (cond b (after (Err Places) head ps) (cond c (after (Err Late) head ps) (delivered ps next d)))
unfolding rules.delivered
judged_of true b c ps head next d r e = ap (λ (y : Received). delivered ps y.head y.answer) e
judged_of false true c ps head next d r e = ap (λ (y : Received). delivered ps y.head y.answer) e
judged_of false false true ps head next d r e = ap (λ (y : Received). delivered ps y.head y.answer) e
judged_of false false false ps head next d r e = ap (λ (y : Received). delivered ps y.head y.answer) e

pub received_is : (ps : List Place) (head : Head) (message : List ℕ) (time : ℕ) (r : Received) → r ≡ judged (length ps) head message time → delivered ps r.head r.answer ≡ received ps head message time
unfolding judged rules.received
received_is ps head message time r e =
    judged_of (not (eqb (length message) 14)) (not (places_fit (length ps))) (ltb time head.clock) ps head (moved head time) (decoded message) r e
