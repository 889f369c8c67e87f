-- What the delivery of a message does to a table whose clock is at its time: by the two searches, for a place of its key and for a free one.
-- Assumes nothing.
use Rattle.std.specs.Prelude.{Result, Ok, Err, Some, None}
use Prim.Native.Nat.{ℕ, ◌^◌, ◌<◌}
use native.Mathlib.Omega.{arith}
use mathlib.Core.Bool.{Bool, true, false, cond, not, ◌&&◌}
use mathlib.Core.Logic.{◌⊎◌, inl, inr, ⊎_elim}
use mathlib.Core.Path.{◌≡◌, refl, ap, sym, ◌∙◌, subst}
use lib.Dec.{eqb, ltb}
use borrow.Author.Tests.{ltb-true, eqb-true, not-true, not-false}
use Rattle.refusals.specs.declared.Refusal.{Refusal}
use Rattle.refusals.specs.declared.Refusal.TheVariants.{Full, NoTrack}
use Rattle.fields.proofs.Bools.{by_test, and_left, and_right, and-false}
use Rattle.layouts.specs.Bodies.{body_me, body_fits}
use Rattle.messages.specs.declared.Message.{Message}
use Rattle.messages.specs.Message.{key_of, starts}
use Rattle.track.specs.declared.Track.{Track}
use Rattle.track.specs.declared.Stepped.{Stepped}
use Rattle.track.specs.Track.{new_track, step_body, stepped}
use Rattle.track.specs.Held.{found, stepped_from, answered_from}
use Rattle.track.proofs.Rules.{accepted, heard_at_its_time}
use Rattle.place.specs.Place.{Fits}
use Rattle.place.proofs.Steps.{new_fits, stepped_fits}
use Rattle.rules.specs.Search.{lowest}
use Rattle.rules.specs.Form.{Cell, is_held, holds, Form, Lawful}
use Rattle.rules.specs.Rules.{After, after, place_of, free_place, placed, turned_away, delivered}
use Rattle.rules.specs.View.{track_in, view_at, Once, AllFit, Unheld, AllTaken, Unplaced}
use Rattle.rules.proofs.Search.{clash, fails, alike, lowest_passes, none_lower, none_passes}
use Rattle.messages.proofs.Keys.{key_range}
use Rattle.rules.proofs.Steps.{Single, stored_fit, put_other, once_other, put_own, once_own}

-- what a track stored at any place keeps, a delivery keeps
pub delivered_keeps : {S : Type 0} (F : Form S) (P : S → Type 0) (s : S) → P s → ((i key : ℕ) (x : Track) → P (F.stored s i key x))
    → (d : Result Message Refusal) (t : ℕ) → P (delivered F s d t).table
unfolding delivered
delivered_keeps F P s p f (Err r) t = p
delivered_keeps {S} F P s p f (Ok m) t =
    by_test (λ (r : After S (Result Message Refusal)). P r.table) (ltb (place_of F s t (key_of m)) (F.count s)) _ _
    (λ _. f _ _ _)
    (λ _. by_test (λ (r : After S (Result Message Refusal)). P r.table) (starts m && ltb (free_place F s t) (F.count s)) _ _ (λ _. f _ _ _) (λ _. p))

-- ---- the two searches, at the time t, for the key of a message that fits

module _ {S : Type 0} (F : Form S) (t : ℕ) (s : S) (m : Message) (fit : body_fits m.body ≡ true) where
  abbrev n : ℕ
  n = F.count s

  abbrev here : ℕ
  here = lowest (λ j. holds t (key_of m) (F.cell s j)) n

  abbrev free : ℕ
  free = lowest (λ j. not (is_held t (F.cell s j))) n

  hit : ltb here n ≡ true → holds t (key_of m) (F.cell s here) ≡ true
  hit e = lowest_passes (λ j. holds t (key_of m) (F.cell s j)) n (ltb-true _ _ e)

  vacant : ltb free n ≡ true → is_held t (F.cell s free) ≡ false
  vacant e = not-true (is_held t (F.cell s free)) (lowest_passes (λ j. not (is_held t (F.cell s j))) n (ltb-true _ _ e))

  all_taken : ltb here n ≡ false → ltb free n ≡ false → AllTaken F t (key_of m) s
  all_taken e f =
      record {
        unheld = none_passes (λ j. holds t (key_of m) (F.cell s j)) n e;
        taken = λ i h. not-false (is_held t (F.cell s i)) (none_passes (λ j. not (is_held t (F.cell s j))) n f i h);
      }

  abbrev next : Track → Track
  next x = step_body x m.body (body_me m.body) (F.site s) t

  step_is : (x : Track) → stepped x (Ok m) (F.site s) t ≡ record { answer = Ok m; track = next x }
  step_is x = accepted x m (F.site s) t fit

  -- when 6 is due: the message may start a track, and all places are taken; and 12: it may not, and no place holds its key
  abbrev pub FullDue : Type 0
  FullDue = (starts m ≡ true) × AllTaken F t (key_of m) s

  abbrev pub NoneDue : Type 0
  NoneDue = (starts m ≡ false) × Unheld F t (key_of m) s

  abbrev Turned : After S (Result Message Refusal) → Type 0
  Turned r = ((r ≡ after (Err Full) s) × FullDue) ⊎ ((r ≡ after (Err NoTrack) s) × NoneDue)

  -- the answer is the message, or one of the two, exactly where it is due
  abbrev pub Answered : After S (Result Message Refusal) → Type 0
  Answered r = ((r.answer ≡ Ok m) × ((FullDue → ⊥) × (NoneDue → ⊥))) ⊎ Turned r

  turned : ltb here n ≡ false → starts m && ltb free n ≡ false → (b : Bool) → starts m ≡ b → Turned (after (Err (turned_away (starts m))) s)
  turned e f true k = inl (ap (λ (b : Bool). after (Err (turned_away b)) s) k, (k, all_taken e (ap (λ (b : Bool). b && ltb free n) (sym k) ∙ f)))
  turned e f false k = inr (ap (λ (b : Bool). after (Err (turned_away b)) s) k, (k, none_passes (λ j. holds t (key_of m) (F.cell s j)) n e))

  pub answered : Answered (delivered F s (Ok m) t)
  unfolding delivered place_of free_place
  answered =
      by_test Answered (ltb here n) _ _
      (λ e. inl (ap (λ (y : Stepped). y.answer) (step_is _), ((λ x. clash (hit e) (x.1.unheld here (ltb-true _ _ e))), λ x. clash (hit e) (x.1 here (ltb-true _ _ e)))))
      (λ e. by_test Answered (starts m && ltb free n) _ _
      (λ f. inl (
        ap (λ (y : Stepped). y.answer) (step_is _),
        (
          (λ x. clash (x.1.taken free (ltb-true _ _ (and_right (starts m) _ f))) (vacant (and_right (starts m) _ f))),
          λ x. clash (and_left (starts m) _ f) x.0,
        ),
      ))
      (λ f. inr (turned e f (starts m) refl)))

  -- so it is the message, or 6 or 12 and the table as it was
  abbrev pub Sorted : After S (Result Message Refusal) → Type 0
  Sorted r = (r.answer ≡ Ok m) ⊎ ((q : Refusal) × (Unplaced q × (r ≡ after (Err q) s)))

  sorted_by : {r : After S (Result Message Refusal)} → Answered r → Sorted r
  sorted_by (inl y) = inl y.0
  sorted_by (inr (inl y)) = inr (Full, (inl refl, y.0))
  sorted_by (inr (inr y)) = inr (NoTrack, (inr refl, y.0))

  pub sorted : Sorted (delivered F s (Ok m) t)
  sorted = sorted_by answered

  -- ---- what it leaves

  -- the track that the message finds is stepped, and no other key's view changes, though a key be held twice; each that was held once still is
  pub record Effect (r : After S (Result Message Refusal)) : Type 0 where
    pub single : Single F t s → Single F t r.table
    pub fits : AllFit F r.table
    pub told : (r.answer ≡ Err Full → ⊥) → r.answer ≡ answered_from m (found m (view_at F t s (key_of m)))
    pub own : (r.answer ≡ Err Full → ⊥) → view_at F t r.table (key_of m) ≡ stepped_from m (F.site s) t (found m (view_at F t s (key_of m)))
    pub other : (k : ℕ) → (k ≡ key_of m → ⊥) → view_at F t r.table k ≡ view_at F t s k

  module _ (L : Lawful F) (all_fit : AllFit F s) (size : F.whole s ≡ true) (fits : t < 2 ^ 64) where
    next_fits : (x : Track) → Fits x → Fits (next x)
    next_fits x f = subst Fits (ap (λ (y : Stepped). y.track) (step_is x)) (stepped_fits x f (F.site s) t fits (Ok m))

    -- one place is written
    written : (i : ℕ) → i < n → (x : Track) → Fits x → found m (view_at F t s (key_of m)) ≡ Some x
        → ((j : ℕ) → j < i → holds t (key_of m) (F.cell s j) ≡ false)
        → (Single F t s → (j : ℕ) → j < n → (j ≡ i → ⊥) → holds t (key_of m) (F.cell s j) ≡ false)
        → ((k : ℕ) → (k ≡ key_of m → ⊥) → holds t k (F.cell s i) ≡ false)
        → Effect (placed F s i (key_of m) (stepped x (Ok m) (F.site s) t))
    written i h x f v lower only clear =
        let is_key = key_range m in
        let g : Fits (next x) = next_fits x f in
        let its : (next x).heard ≡ t = heard_at_its_time x m.body (body_me m.body) (F.site s) t in
        let r : S = F.stored s i (key_of m) (next x) in
        let e : Effect (after (Ok m) r)
        = record {
          single = λ u k. ⊎_elim
              (λ (y : k ≡ key_of m). subst (λ (k : ℕ). Once (holds t k) (F.cell r) (F.count r)) (sym y) (once_own F L t s size i h (key_of m) is_key (next x) g its (only u)))
              (λ (y : k ≡ key_of m → ⊥). once_other F L t s size i h (key_of m) is_key (next x) g its k y (clear k y) (u k)) (alike k (key_of m));
          fits = stored_fit F L s all_fit i (key_of m) (next x) size h is_key g;
          told = λ _. sym (ap (answered_from m) v);
          own = λ _. put_own F L t s size i h (key_of m) is_key (next x) g its lower ∙ sym (ap (stepped_from m (F.site s) t) v);
          other = λ k y. put_other F L t s size i h (key_of m) is_key (next x) g its k y (clear k y);
        } in
        subst (λ (y : Stepped). Effect (placed F s i (key_of m) y)) (sym (step_is x)) e

    seen : (b : Bool) → ltb here n ≡ b → view_at F t s (key_of m) ≡ track_in (cond b (Some (F.cell s here)) None)
    unfolding view_at
    seen b e = ap (λ (b : Bool). track_in (cond b (Some (F.cell s here)) None)) e

    -- a place that holds the key holds no other
    key_only : (p : Cell) → holds t (key_of m) p ≡ true → (k : ℕ) → (k ≡ key_of m → ⊥) → holds t k p ≡ false
    unfolding holds
    key_only p h k ne = fails _ (λ e. ne (sym (eqb-true p.key k (and_left _ _ e)) ∙ eqb-true p.key (key_of m) (and_left _ _ h)))

    -- it is in range
    in_range_lem : (p : Cell) (k : ℕ) → holds t k p ≡ true → p.in_range ≡ true
    unfolding holds is_held
    in_range_lem p k h = and_left p.in_range _ (and_right (eqb p.key k) _ h)

    -- a place that is not held holds no key
    no_key : (p : Cell) → is_held t p ≡ false → (k : ℕ) → holds t k p ≡ false
    unfolding holds
    no_key p h k = ap (λ (b : Bool). eqb p.key k && b) h ∙ and-false (eqb p.key k)

    -- no place holds the key: the message finds a new track, or none
    unseen : ltb here n ≡ false → (b : Bool) → starts m ≡ b → found m (view_at F t s (key_of m)) ≡ cond b (Some new_track) None
    unseen e b k = ap (found m) (seen false e) ∙ ap (λ (b : Bool). cond b (Some new_track) None) k

    turned_effect : ltb here n ≡ false → Effect (after (Err (turned_away (starts m))) s)
    turned_effect e =
        record {
          single = λ u. u;
          fits = all_fit;
          told = λ un. ap (λ (b : Bool). Err (turned_away b)) (unstarted un) ∙ sym (ap (answered_from m) (unseen e false (unstarted un)));
          own = λ un. seen false e ∙ sym (ap (stepped_from m (F.site s) t) (unseen e false (unstarted un)));
          other = λ k ne. refl;
        }
      where
        unstarted : (◌≡◌ {A = Result Message Refusal} (Err (turned_away (starts m))) (Err Full) → ⊥) → starts m ≡ false
        unstarted un = fails (starts m) (λ k. un (ap (λ (b : Bool). Err (turned_away b)) k))

    pub delivery : Effect (delivered F s (Ok m) t)
    unfolding delivered place_of free_place
    delivery =
        by_test Effect (ltb here n) _ _
        (λ e. written here (ltb-true _ _ e) (F.cell s here).track (all_fit here (ltb-true _ _ e) (in_range_lem (F.cell s here) (key_of m) (hit e))) (ap (found m) (seen true e))
        (λ j l. none_lower (λ j. holds t (key_of m) (F.cell s j)) n j l (omega (arith, ltb-true here n e)))
        (λ u j g ne. fails _ (λ x. ne (u (key_of m) j here g (ltb-true _ _ e) x (hit e))))
        (key_only (F.cell s here) (hit e)))
        (λ e. by_test Effect (starts m && ltb free n) _ _
        (λ f. written free (ltb-true _ _ (and_right (starts m) _ f)) new_track new_fits (unseen e true (and_left (starts m) _ f))
        (λ j l. none_passes (λ j. holds t (key_of m) (F.cell s j)) n e j (omega (arith, ltb-true free n (and_right (starts m) _ f))))
        (λ _ j g ne. none_passes (λ j. holds t (key_of m) (F.cell s j)) n e j g)
        (λ k ne. no_key (F.cell s free) (vacant (and_right (starts m) _ f)) k))
        (λ _. turned_effect e))
