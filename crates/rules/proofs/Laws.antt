-- The laws of the lent table, of any form: what each call does to its clock, its site and the view of every key, and when it answers which number; each by the ways through a call.
-- Assumes nothing.
use Rattle.std.specs.Prelude.{Result, Ok, Err, Option, Some, None, ⊤}
use Prim.Native.Nat.{ℕ, ◌^◌, ◌≤◌, ◌<◌}
use native.Mathlib.Omega.{arith}
use mathlib.Core.Bool.{Bool, true, false, cond, not, ◌&&◌, true≢false, false≢true}
use mathlib.Core.Logic.{◌⊎◌, inl, inr, ⊎_elim, ◌↔◌}
use mathlib.Core.Path.{◌≡◌, refl, ap, ap₂, sym, ◌∙◌, subst}
use mathlib.Core.List.{List}
use lib.Dec.{eqb, ltb}
use lib.ListN.{length}
use borrow.Author.Tests.{lt-ltb, le-ltb, not-false}
use Rattle.refusals.specs.declared.Refusal.{Refusal}
use Rattle.refusals.specs.declared.Refusal.TheVariants.{Length, Late, Full, Places, NoTrack}
use Rattle.refusals.specs.Numbers.{number_of}
use Rattle.fields.proofs.Bools.{by_test, and_left, and_right}
use Rattle.positions.specs.Positions.{pole_to_pole}
use Rattle.messages.specs.declared.Message.{Message}
use Rattle.messages.specs.Message.{decoded, key_of, starts}
use Rattle.whereabouts.specs.declared.Site.{Site}
use Rattle.whereabouts.specs.Located.{no_site}
use Rattle.track.specs.declared.Track.{Track}
use Rattle.rules.specs.Search.{lowest}
use Rattle.track.specs.Held.{later_at, found, stepped_from, answered_from}
use Rattle.rules.specs.Form.{is_held, holds, Form, East, SiteFits, Lawful}
use Rattle.rules.specs.Rules.{After, set_up, place_of, delivered, received, looked_up}
use Rattle.rules.specs.View.{track_in, view_at, view, Once, AllFit, Table, Fresh, Unheld, AllTaken, NoRoom, NoneToStep, Early, Undecoded, Unplaced, Later}
use Rattle.rules.proofs.Search.{clash, fails, alike, look_miss}
use Rattle.rules.proofs.Steps.{Single, view_later, single_later, as_moved, moved_view, moved_unheld, moved_taken, moved_fit}
use Rattle.rules.proofs.Delivered.{delivered_keeps, FullDue, NoneDue, Answered, answered, sorted, Effect, delivery}
use Rattle.rules.proofs.Ways.{not_refused, refused_as, not_unplaced, not_both, decoder_refuses, decoded_14, decoded_fits, Way, short, uneven, late, timely, way, received_in_time}

-- what a move of the clock keeps, and then a track stored at any place, every call keeps
pub received_keeps : {S : Type 0} (F : Form S) (s : S) (message : List ℕ) (t : ℕ) (P : S → Type 0) → P s → P (F.moved s t)
    → ((i key : ℕ) (x : Track) → P (F.stored (F.moved s t) i key x)) → P (received F s message t).table
received_keeps {S} F s message t P a b c = by_way (way F s message t)
  where
    by_way : {r : After S (Result Message Refusal)} → Way F s message t r → P r.table
    by_way (short l) = a
    by_way (uneven l w) = a
    by_way (late l w h) = a
    by_way (timely l w h) = delivered_keeps F P (F.moved s t) b c (decoded message) t

module _ {S : Type 0} (F : Form S) (L : Lawful F) (s : S) (message : List ℕ) (t : ℕ) where
  abbrev call : After S (Result Message Refusal)
  call = received F s message t

  -- ---- the site, and the clock

  -- no call changes the site
  pub site_after : F.site call.table ≡ F.site s
  site_after = received_keeps F s message t (λ (x : S). F.site x ≡ F.site s) refl (L.moved_site s t) (λ i key x. L.stored_site (F.moved s t) i key x ∙ L.moved_site s t)

  module _ (w : F.whole s ≡ true) (fits : t < 2 ^ 64) where
    at_time : F.clock (F.moved s t) ≡ t
    at_time = L.moved_clock s t w fits

    clock_delivered : (d : Result Message Refusal) → F.clock (delivered F (F.moved s t) d t).table ≡ t
    clock_delivered d = delivered_keeps F (λ (x : S). F.clock x ≡ t) (F.moved s t) at_time (λ i key x. L.stored_clock (F.moved s t) i key x ∙ at_time) d t

    clock_by : {r : After S (Result Message Refusal)} → length message ≡ 14 → Way F s message t r → F.clock r.table ≡ cond (ltb t (F.clock s)) (F.clock s) t
    clock_by l (short n) = absurd (n l)
    clock_by l (uneven _ f) = absurd (clash w f)
    clock_by l (late _ _ h) = rw (lt-ltb t (F.clock s) h)
    clock_by l (timely _ _ h) = clock_delivered (decoded message) ∙ sym (ap (λ (b : Bool). cond b (F.clock s) t) (le-ltb t (F.clock s) h))

    -- a call of 14 bytes leaves the greater of the clock and its time
    pub clock_after : length message ≡ 14 → F.clock call.table ≡ cond (ltb t (F.clock s)) (F.clock s) t
    clock_after l = clock_by l (way F s message t)

  -- a message that is decoded, in time, is delivered
  accepted_is : (m : Message) → decoded message ≡ Ok m → F.whole s ≡ true → F.clock s ≤ t → call ≡ delivered F (F.moved s t) (Ok m) t
  accepted_is m e w h = received_in_time F s message t (decoded_14 message m e) w h ∙ ap (λ (d : Result Message Refusal). delivered F (F.moved s t) d t) e

  -- no call changes whether the places are whole
  pub whole_after : F.whole call.table ≡ F.whole s
  whole_after =
      received_keeps F s message t (λ (x : S). F.whole x ≡ F.whole s) refl (L.moved_whole s t) (λ i key x. L.stored_whole (F.moved s t) i key x ∙ L.moved_whole s t)

  -- ---- a table whose tracks fit, though a key be held twice

  module _ (fit : AllFit F s) (fits : t < 2 ^ 64) where
    pub effect : F.whole s ≡ true → (m : Message) (e : decoded message ≡ Ok m)
        → Effect F t (F.moved s t) m (decoded_fits message m e) (delivered F (F.moved s t) (Ok m) t)
    effect w m e = delivery F t (F.moved s t) m (decoded_fits message m e) L (moved_fit F L s fit t) (L.moved_whole s t ∙ w) fits

    fit_timely : F.whole s ≡ true → (d : Result Message Refusal) → decoded message ≡ d → AllFit F (delivered F (F.moved s t) d t).table
    unfolding delivered
    fit_timely w (Err r) e = moved_fit F L s fit t
    fit_timely w (Ok m) e = (effect w m e).fits

    fit_by : {r : After S (Result Message Refusal)} → Way F s message t r → AllFit F r.table
    fit_by (short l) = fit
    fit_by (uneven l w) = fit
    fit_by (late l w h) = fit
    fit_by (timely l w h) = fit_timely w (decoded message) refl

    -- the tracks fit: kept by every call
    pub fit_after : AllFit F call.table
    fit_after = fit_by (way F s message t)

  -- ---- a table in which each key is held once

  module _ (tb : Table F s) (fits : t < 2 ^ 64) where
    done : (m : Message) (e : decoded message ≡ Ok m) → Effect F t (F.moved s t) m (decoded_fits message m e) (delivered F (F.moved s t) (Ok m) t)
    done = effect tb.fit fits tb.size

    module _ (h : F.clock s ≤ t) where
      moved_single : Single F t (F.moved s t)
      moved_single k = as_moved F L s t (Once (holds t k)) (single_later F s (F.clock s) t tb.once h k)

      -- at the new clock, before delivery
      here : (k : ℕ) → view_at F t (F.moved s t) k ≡ later_at t (view F s k)
      here k = moved_view F L s t t k ∙ view_later F s (F.clock s) t tb.once h k

    -- a table whose clock is t: its view is the view at t
    at_clock : (r : S) (k : ℕ) → F.clock r ≡ t → view F r k ≡ view_at F t r k
    at_clock r k e = ap (λ (c : ℕ). view_at F c r k) e

    single_timely : F.clock s ≤ t → (d : Result Message Refusal) → decoded message ≡ d → Single F t (delivered F (F.moved s t) d t).table
    unfolding delivered
    single_timely h (Err r) e = moved_single h
    single_timely h (Ok m) e = (done m e).single (moved_single h)

    single_by : {r : After S (Result Message Refusal)} → Way F s message t r → Single F (F.clock r.table) r.table
    single_by (short l) = tb.once
    single_by (uneven l w) = tb.once
    single_by (late l w h) = tb.once
    single_by (timely l w h) =
        subst (λ (c : ℕ). Single F c (delivered F (F.moved s t) (decoded message) t).table) (sym (clock_delivered w fits (decoded message)))
        (single_timely h (decoded message) refl)

    -- a key is held at most once: kept by every call
    pub table_after_lem : Table F call.table
    table_after_lem =
        record {
          size = whole_after ∙ tb.size;
          fit = fit_after tb.fit fits;
          once = single_by (way F s message t);
        }

    dropped_timely : (k : ℕ) → F.clock s ≤ t → (d : Result Message Refusal) → decoded message ≡ d
        → ((m : Message) → (delivered F (F.moved s t) d t).answer ≡ Ok m → k ≡ key_of m → ⊥) → view_at F t (delivered F (F.moved s t) d t).table k ≡ view_at F t (F.moved s t) k
    unfolding delivered
    dropped_timely k h (Err r) e un = refl
    dropped_timely k h (Ok m) e un =
        ⊎_elim
        (λ (x : k ≡ key_of m). ⊎_elim
        (λ y. absurd (un m y x))
        (λ y. ap (λ (r : After S (Result Message Refusal)). view_at F t r.table k) y.1.1)
        (sorted F t (F.moved s t) m (decoded_fits message m e)))
        (λ (x : k ≡ key_of m → ⊥). (done m e).other k x)
        (alike k (key_of m))

    dropped_by : (k : ℕ) {r : After S (Result Message Refusal)} → length message ≡ 14 → F.clock s ≤ t → ((m : Message) → r.answer ≡ Ok m → k ≡ key_of m → ⊥)
        → Way F s message t r → view F r.table k ≡ later_at t (view F s k)
    dropped_by k l h un (short n) = absurd (n l)
    dropped_by k l h un (uneven _ f) = absurd (clash tb.size f)
    dropped_by k l h un (late _ _ g) = absurd (omega arith)
    dropped_by k l h un (timely _ w _) =
        at_clock (delivered F (F.moved s t) (decoded message) t).table k (clock_delivered w fits (decoded message))
        ∙ dropped_timely k h (decoded message) refl un
        ∙ here h k

    -- dropped by the clock: a call in time leaves the view of each key but for its age, unless it is the key's own message and accepted
    pub dropped_by_the_clock : (k : ℕ) → length message ≡ 14 → F.clock s ≤ t → ((m : Message) → call.answer ≡ Ok m → k ≡ key_of m → ⊥)
        → view F call.table k ≡ later_at t (view F s k)
    dropped_by_the_clock k l h un = dropped_by k l h un (way F s message t)

    -- an acceptable message steps the track that it finds, as old as that is at its time; where it finds none and may start none the answer is 12
    pub steps_its_track : (m : Message) → decoded message ≡ Ok m → F.clock s ≤ t → (call.answer ≡ Err Full → ⊥)
        → (call.answer ≡ answered_from m (found m (later_at t (view F s (key_of m)))))
        × (view F call.table (key_of m) ≡ stepped_from m (F.site s) t (found m (later_at t (view F s (key_of m)))))
    steps_its_track m e h =
        subst (λ (r : After S (Result Message Refusal)). (r.answer ≡ Err Full → ⊥) → (r.answer ≡ answered_from m (found m (later_at t (view F s (key_of m)))))
        × (view F r.table (key_of m) ≡ stepped_from m (F.site s) t (found m (later_at t (view F s (key_of m))))))
        (sym (accepted_is m e tb.size h))
        (λ un. (
          (done m e).told un ∙ ap (λ (v : Option Track). answered_from m (found m v)) (here h (key_of m)),
          at_clock (delivered F (F.moved s t) (Ok m) t).table (key_of m) (clock_delivered tb.size fits (Ok m))
              ∙ (done m e).own un
              ∙ ap₂ (λ (v : Option Track) (site : Site). stepped_from m site t (found m v)) (here h (key_of m)) (L.moved_site s t),
        ))

  -- ---- which number, and what it leaves: for any table at all, and any message

  refused_timely : (d : Result Message Refusal) → decoded message ≡ d → length message ≡ 14 → (r : Refusal) → (delivered F (F.moved s t) d t).answer ≡ Err r
      → Later r × ((delivered F (F.moved s t) d t).table ≡ F.moved s t)
  unfolding delivered
  refused_timely (Err q) e l r a = (inl (subst Undecoded (refused_as a) (decoder_refuses message q l e)), refl)
  refused_timely (Ok m) e l r a =
      ⊎_elim
      (λ y. absurd (not_refused (sym y ∙ a)))
      (λ y. (inr (subst Unplaced (refused_as (sym (ap (λ (x : After S (Result Message Refusal)). x.answer) y.1.1) ∙ a)) y.1.0), ap (λ (x : After S (Result Message Refusal)). x.table) y.1.1))
      (sorted F t (F.moved s t) m (decoded_fits message m e))

  refused_by : (r : Refusal) {x : After S (Result Message Refusal)} → x.answer ≡ Err r → Way F s message t x
      → (Early r × (x.table ≡ s)) ⊎ (Later r × (x.table ≡ F.moved s t))
  refused_by r a (short l) = inl (inl (sym (refused_as a)), refl)
  refused_by r a (uneven l w) = inl (inr (inl (sym (refused_as a))), refl)
  refused_by r a (late l w h) = inl (inr (inr (sym (refused_as a))), refl)
  refused_by r a (timely l w h) = inr (refused_timely (decoded message) refl l r a)

  -- a refusal is 1, 7 or 2 and changes nothing, or 3, 4, 5, 6 or 12 and moves the clock
  pub refused_leaves : (r : Refusal) → call.answer ≡ Err r
      → (Early r × (call.table ≡ s)) ⊎ (Later r × (call.table ≡ F.moved s t))
  refused_leaves r a = refused_by r a (way F s message t)

  -- 1, 7 and 2 change nothing
  pub unchanged : (r : Refusal) → Early r → call.answer ≡ Err r → call.table ≡ s
  unchanged r h a = ⊎_elim (λ x. x.1) (λ x. absurd (not_both r h x.0)) (refused_leaves r a)

  -- 3, 4, 5, 6 and 12 move the clock, and nothing else
  pub only_the_clock : (r : Refusal) → Later r → call.answer ≡ Err r → call.table ≡ F.moved s t
  only_the_clock r h a = ⊎_elim (λ x. absurd (not_both r x.0 h)) (λ x. x.1) (refused_leaves r a)

  unlike : (q r : Refusal) → (number_of q ≡ number_of r → ⊥) → ◌≡◌ {A = Result Message Refusal} (Err q) (Err r) → ⊥
  unlike q r ne e = ne (ap number_of (refused_as e))

  -- an answer in time is none of 1, 7 and 2
  not_early : (r : Refusal) → Early r → length message ≡ 14 → (delivered F (F.moved s t) (decoded message) t).answer ≡ Err r → ⊥
  not_early r h l a = not_both r h (refused_timely (decoded message) refl l r a).0

  length_by : {x : After S (Result Message Refusal)} → Way F s message t x → x.answer ≡ Err Length ↔ (length message ≡ 14 → ⊥)
  length_by (short n) = (λ _. n, λ _. refl)
  length_by (uneven l w) = (λ a. absurd (unlike Places Length (λ e. omega arith) a), λ n. absurd (n l))
  length_by (late l w h) = (λ a. absurd (unlike Late Length (λ e. omega arith) a), λ n. absurd (n l))
  length_by (timely l w h) = (λ a. absurd (not_early Length (inl refl) l a), λ n. absurd (n l))

  places_by : {x : After S (Result Message Refusal)} → Way F s message t x → x.answer ≡ Err Places ↔ (length message ≡ 14) × (F.whole s ≡ false)
  places_by (short n) = (λ a. absurd (unlike Length Places (λ e. omega arith) a), λ y. absurd (n y.0))
  places_by (uneven l w) = (λ _. (l, w), λ _. refl)
  places_by (late l w h) = (λ a. absurd (unlike Late Places (λ e. omega arith) a), λ y. absurd (clash w y.1))
  places_by (timely l w h) = (λ a. absurd (not_early Places (inr (inl refl)) l a), λ y. absurd (clash w y.1))

  late_by : {x : After S (Result Message Refusal)} → Way F s message t x
      → x.answer ≡ Err Late ↔ (length message ≡ 14) × ((F.whole s ≡ true) × (t < F.clock s))
  late_by (short n) = (λ a. absurd (unlike Length Late (λ e. omega arith) a), λ y. absurd (n y.0))
  late_by (uneven l w) = (λ a. absurd (unlike Places Late (λ e. omega arith) a), λ y. absurd (clash y.1.0 w))
  late_by (late l w h) = (λ _. (l, (w, h)), λ _. refl)
  late_by (timely l w h) = (λ a. absurd (not_early Late (inr (inr refl)) l a), λ y. absurd (omega (arith, y.1.1)))

  -- 1, 7 and 2, each exactly when
  pub length_exactly : call.answer ≡ Err Length ↔ (length message ≡ 14 → ⊥)
  length_exactly = length_by (way F s message t)

  pub places_exactly : call.answer ≡ Err Places ↔ (length message ≡ 14) × (F.whole s ≡ false)
  places_exactly = places_by (way F s message t)

  pub late_exactly : call.answer ≡ Err Late ↔ (length message ≡ 14) × ((F.whole s ≡ true) × (t < F.clock s))
  late_exactly = late_by (way F s message t)

  -- ---- the others, where the places are whole and the call is in time

  module _ (w : F.whole s ≡ true) (h : F.clock s ≤ t) where
    decoder_by : (d : Result Message Refusal) → decoded message ≡ d → (r : Refusal) → (Unplaced r → ⊥) → (delivered F (F.moved s t) d t).answer ≡ Err r ↔ d ≡ Err r
    unfolding delivered
    decoder_by (Err q) e r un = (λ a. a, λ a. a)
    decoder_by (Ok m) e r un = (
      λ a. ⊎_elim
          (λ y. absurd (not_refused (sym y ∙ a)))
          (λ y. absurd (un (subst Unplaced (refused_as (sym (ap (λ (x : After S (Result Message Refusal)). x.answer) y.1.1) ∙ a)) y.1.0)))
          (sorted F t (F.moved s t) m (decoded_fits message m e)),
      λ a. absurd (not_refused a),
    )

    -- then each number but 6 and 12 is answered exactly when the decoder answers it, so these are 3, 4 and 5
    pub decoder_exactly : length message ≡ 14 → (r : Refusal) → (Unplaced r → ⊥) → call.answer ≡ Err r ↔ decoded message ≡ Err r
    decoder_exactly l r un =
        subst (λ (x : After S (Result Message Refusal)). x.answer ≡ Err r ↔ decoded message ≡ Err r) (sym (received_in_time F s message t l w h))
        (decoder_by (decoded message) refl r un)

    module _ (m : Message) (e : decoded message ≡ Ok m) where
      its_answer : Answered F t (F.moved s t) m (decoded_fits message m e) call
      its_answer = subst (Answered F t (F.moved s t) m (decoded_fits message m e)) (sym (accepted_is m e w h)) (answered F t (F.moved s t) m (decoded_fits message m e))

      six_by : {r : After S (Result Message Refusal)} → Answered F t (F.moved s t) m (decoded_fits message m e) r
          → r.answer ≡ Err Full ↔ FullDue F t (F.moved s t) m (decoded_fits message m e)
      six_by (inl y) = (λ a. absurd (not_refused (sym y.0 ∙ a)), λ x. absurd (y.1.0 x))
      six_by (inr (inl y)) = (λ _. y.1, λ _. ap (λ (r : After S (Result Message Refusal)). r.answer) y.0)
      six_by (inr (inr y)) = (
        λ a. absurd (unlike NoTrack Full (λ e. omega arith) (sym (ap (λ (r : After S (Result Message Refusal)). r.answer) y.0) ∙ a)),
        λ x. absurd (clash x.0 y.1.0),
      )

      twelve_by : {r : After S (Result Message Refusal)} → Answered F t (F.moved s t) m (decoded_fits message m e) r
          → r.answer ≡ Err NoTrack ↔ NoneDue F t (F.moved s t) m (decoded_fits message m e)
      twelve_by (inl y) = (λ a. absurd (not_refused (sym y.0 ∙ a)), λ x. absurd (y.1.1 x))
      twelve_by (inr (inl y)) = (
        λ a. absurd (unlike Full NoTrack (λ e. omega arith) (sym (ap (λ (r : After S (Result Message Refusal)). r.answer) y.0) ∙ a)),
        λ x. absurd (clash y.1.0 x.0),
      )
      twelve_by (inr (inr y)) = (λ _. y.1, λ _. ap (λ (r : After S (Result Message Refusal)). r.answer) y.0)

      -- 6 exactly when the message may start a track, the key is held by no place and every place is held
      pub full_exactly : call.answer ≡ Err Full ↔ (starts m ≡ true) × AllTaken F t (key_of m) s
      full_exactly = (
        λ a. let x = (six_by its_answer).0 a in (x.0, (moved_taken F L s t t (key_of m)).0 x.1),
        λ x. (six_by its_answer).1 (x.0, (moved_taken F L s t t (key_of m)).1 x.1),
      )

      -- 12 exactly when it may not, and the key is held by no place
      pub none_exactly : call.answer ≡ Err NoTrack ↔ (starts m ≡ false) × Unheld F t (key_of m) s
      none_exactly = (
        λ a. let x = (twelve_by its_answer).0 a in (x.0, (moved_unheld F L s t t (key_of m)).0 x.1),
        λ x. (twelve_by its_answer).1 (x.0, (moved_unheld F L s t t (key_of m)).1 x.1),
      )

      key_by_lem : {r : After S (Result Message Refusal)} → Answered F t (F.moved s t) m (decoded_fits message m e) r
          → (r.answer ≡ Ok m) ⊎ ((r.answer ≡ Err Full) ⊎ (r.answer ≡ Err NoTrack))
      key_by_lem (inl y) = inl y.0
      key_by_lem (inr (inl y)) = inr (inl (ap (λ (r : After S (Result Message Refusal)). r.answer) y.0))
      key_by_lem (inr (inr y)) = inr (inr (ap (λ (r : After S (Result Message Refusal)). r.answer) y.0))

      -- an acceptable message in time is answered with itself, with 6 or with 12
      pub key_answer : (call.answer ≡ Ok m) ⊎ ((call.answer ≡ Err Full) ⊎ (call.answer ≡ Err NoTrack))
      key_answer = key_by_lem its_answer

-- ---- 6 and 12, for any table at all

module _ {S : Type 0} (F : Form S) (L : Lawful F) (s : S) (message : List ℕ) (t : ℕ) where
  -- each of the two is answered to a message that the decoder takes, in time and to whole places
  pub record Turned : Type 0 where
    pub whole : length message ≡ 14
    pub places : F.whole s ≡ true
    pub in_time : F.clock s ≤ t
    pub message_is : (m : Message) × (decoded message ≡ Ok m)

  taken : (q : Refusal) → Unplaced q → (d : Result Message Refusal) → decoded message ≡ d → length message ≡ 14 → (delivered F (F.moved s t) d t).answer ≡ Err q
      → (m : Message) × (decoded message ≡ Ok m)
  unfolding delivered
  taken q u (Err r) e l a = absurd (not_unplaced r (decoder_refuses message r l e) (subst Unplaced (sym (refused_as a)) u))
  taken q u (Ok m) e l a = (m, e)

  turned : (q : Refusal) → Unplaced q → {x : After S (Result Message Refusal)} → Way F s message t x → x.answer ≡ Err q → Turned
  turned q u (short n) a = absurd (not_both Length (inl refl) (inr (subst Unplaced (sym (refused_as a)) u)))
  turned q u (uneven l w) a = absurd (not_both Places (inr (inl refl)) (inr (subst Unplaced (sym (refused_as a)) u)))
  turned q u (late l w h) a = absurd (not_both Late (inr (inr refl)) (inr (subst Unplaced (sym (refused_as a)) u)))
  turned q u (timely l w h) a = record { whole = l; places = w; in_time = h; message_is = taken q u (decoded message) refl l a }

  -- 6 exactly when a message that the decoder takes, and that may start a track, comes in time to whole places and finds no room for its key
  pub six_exactly : (received F s message t).answer ≡ Err Full
      ↔ (length message ≡ 14) × ((F.whole s ≡ true) × ((F.clock s ≤ t) × NoRoom F t s message))
  six_exactly = (
    λ a.
        let p = turned Full (inl refl) (way F s message t) a in
        let m = p.message_is in
        (p.whole, (p.places, (p.in_time, (m.0, (m.1, (full_exactly F L s message t p.places p.in_time m.0 m.1).0 a))))),
    λ p. (full_exactly F L s message t p.1.0 p.1.1.0 p.1.1.1.0 p.1.1.1.1.0).1 p.1.1.1.1.1,
  )

  -- 12 exactly when one that may not comes so, and no place holds its key
  pub twelve_exactly : (received F s message t).answer ≡ Err NoTrack
      ↔ (length message ≡ 14) × ((F.whole s ≡ true) × ((F.clock s ≤ t) × NoneToStep F t s message))
  twelve_exactly = (
    λ a.
        let p = turned NoTrack (inr refl) (way F s message t) a in
        let m = p.message_is in
        (p.whole, (p.places, (p.in_time, (m.0, (m.1, (none_exactly F L s message t p.places p.in_time m.0 m.1).0 a))))),
    λ p. (none_exactly F L s message t p.1.0 p.1.1.0 p.1.1.1.0 p.1.1.1.1.0).1 p.1.1.1.1.1,
  )

-- ---- what look_up answers is the view

pub looked_up_lem : {S : Type 0} (F : Form S) (s : S) (key : ℕ) → F.whole s ≡ true → looked_up F s key ≡ Ok (view F s key)
unfolding looked_up place_of view_at
looked_up_lem F s key w =
    let at : ℕ = lowest (λ i. holds (F.clock s) key (F.cell s i)) (F.count s) in
    rw w (by_cases at (ltb at (F.count s)))
  where
    by_cases : (i : ℕ) (b : Bool)
        → ◌≡◌ {A = Result (Option Track) Refusal} (cond b (Ok (Some (F.cell s i).track)) (Ok None)) (Ok (track_in (cond b (Some (F.cell s i)) None)))
    by_cases i true = refl
    by_cases i false = refl

-- ---- set-up

abbrev is_done : Result ⊤ Refusal → Bool
is_done (Ok tt) = true
is_done (Err r) = false

pub not_done : {r : Refusal} → ◌≡◌ {A = Result ⊤ Refusal} (Err r) (Ok tt) → ⊥
not_done e = false≢true (ap is_done e)

-- a site that is not refused fits
pub site_fits : (o : Site) → East o → o.known && not (pole_to_pole o.spot.latitude) ≡ false → SiteFits o
site_fits o east p k = (pole o.known (pole_to_pole o.spot.latitude) k p, east k)
  where
    pole : (k b : Bool) → k ≡ true → k && not b ≡ false → b ≡ true
    pole true true e p = refl
    pole true false e p = absurd (true≢false p)
    pole false b e p = absurd (false≢true e)

-- a set-up that is refused leaves the table as it was
pub set_up_unchanged : {S : Type 0} (F : Form S) (s : S) (o : Site) (r : Refusal) → (set_up F s o).answer ≡ Err r → (set_up F s o).table ≡ s
unfolding set_up
set_up_unchanged {S} F s o r =
    let P : After S (Result ⊤ Refusal) → Type 0 = λ (x : After S (Result ⊤ Refusal)). x.answer ≡ Err r → x.table ≡ s in
    by_test P (not (F.whole s)) _ _
    (λ _ _. refl)
    (λ _. by_test P (o.known && not (pole_to_pole o.spot.latitude)) _ _
    (λ _ _. refl)
    (λ _ a. absurd (not_done (sym a))))

module _ {S : Type 0} (F : Form S) (L : Lawful F) (s : S) (o : Site) where
  unkept : (c k i : ℕ) → holds c k (F.cell (F.emptied s o) i) ≡ false
  unfolding holds is_held
  unkept c k i = fails _ (λ h. true≢false (sym (and_left _ _ (and_right (eqb (F.cell (F.emptied s o) i).key k) _ h)) ∙ L.emptied_cell s o i))

  emptied_fresh : F.whole s ≡ true → SiteFits o → Fresh F (cond o.known o no_site) (F.emptied s o)
  unfolding view_at
  emptied_fresh w f =
      let x : S = F.emptied s o in
      record {
        table = record {
          size = L.emptied_whole s o ∙ w;
          fit = λ i h e. absurd (clash e (L.emptied_cell s o i));
          once = λ k i j h g p q. absurd (clash p (unkept (F.clock x) k i));
        };
        clock = L.emptied_clock s o;
        sited = L.emptied_site s o w f;
        unheld = λ k. ap track_in (look_miss (holds (F.clock x) k) (F.cell x) (F.count x) (λ i h. unkept (F.clock x) k i));
      }

  -- a set-up that is not refused leaves clock 0, no key held, and the site if it is known
  pub set_up_table_lem : East o → (set_up F s o).answer ≡ Ok tt → Fresh F (cond o.known o no_site) (set_up F s o).table
  unfolding set_up
  set_up_table_lem east =
      let P : After S (Result ⊤ Refusal) → Type 0 = λ (r : After S (Result ⊤ Refusal)). r.answer ≡ Ok tt → Fresh F (cond o.known o no_site) r.table in
      by_test P (not (F.whole s)) _ _
      (λ _ a. absurd (not_done a))
      (λ w. by_test P (o.known && not (pole_to_pole o.spot.latitude)) _ _
      (λ _ a. absurd (not_done a))
      (λ p _. emptied_fresh (not-false _ w) (site_fits o east p)))
