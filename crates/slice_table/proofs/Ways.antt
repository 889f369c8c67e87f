-- The ways through a call, over variables: each test in its order.
-- Assumes nothing.
use Rattle.std.specs.Prelude.{Result, Ok, Err, Some, None, is_ok, ⊤}
use Prim.Native.Nat.{ℕ, ◌≤◌, ◌<◌}
use mathlib.Core.Bool.{Bool, true, false, cond, not, ◌&&◌, true≢false, false≢true}
use mathlib.Core.Path.{◌≡◌, refl, ap, sym, ◌∙◌}
use mathlib.Core.List.{List}
use lib.ListN.{length, get_or}
use borrow.Author.Tests.{lt-ltb, le-ltb}
use Rattle.refusals.specs.declared.Refusal.TheVariants.{Places, Field}
use Rattle.positions.specs.Positions.{pole_to_pole}
use Rattle.whereabouts.specs.declared.Site.{Site}
use Rattle.rules.specs.Keys.{key_or_end}
use Rattle.slice_places.specs.declared.Place.{Place}
use Rattle.slice_places.specs.declared.Head.{Head}
use Rattle.slice_places.specs.declared.Started.{Started}
use Rattle.slice_places.specs.Ranges.{no_place, meaning_of}
use Rattle.slice_places.specs.Head.{places_fit, head_of}
use Rattle.slice_places.specs.Decided.{not_started, started, sought}
use Rattle.rules.specs.Rules as rules
use Rattle.slice_table.specs.Slice.{slice_of, slice}
use Rattle.slice_table.specs.Tracks.{After, after, emptied, set_up, looked_up, next_above}
use Rattle.slice_table.specs.Code.{smallest, scanned}
use Rattle.refusals.specs.declared.Refusal.{Refusal}

-- ---- set-up

module _ (ps : List Place) (head : Head) (site : Site) where
  abbrev started_by : Bool → Bool → Started
  started_by a b = cond a (not_started Places head) (cond b (not_started Field head) (record { answer = Ok tt; head = head_of 0 site }))

  abbrev set_by : Bool → Bool → After (Result ⊤ Refusal)
  set_by a b = cond a (after (Err Places) head ps) (cond b (after (Err Field) head ps) (after (Ok tt) (head_of 0 site) (emptied ps)))

  on_of : (a b : Bool) → is_ok (started_by a b).answer ≡ true → after (started_by a b).answer (started_by a b).head (emptied ps) ≡ set_by a b
  on_of true b h = absurd (false≢true h)
  on_of false true h = absurd (false≢true h)
  on_of false false h = refl

  off_of : (a b : Bool) → is_ok (started_by a b).answer ≡ false → after (started_by a b).answer (started_by a b).head ps ≡ set_by a b
  off_of true b h = refl
  off_of false true h = refl
  off_of false false h = absurd (true≢false h)

  pub set_on : {r : Started} → r ≡ started (length ps) head site → is_ok r.answer ≡ true → after r.answer r.head (emptied ps) ≡ set_up ps head site
  unfolding started rules.set_up
  set_on e h =
      ap (λ (x : Started). after x.answer x.head (emptied ps)) e
      ∙ on_of (not (places_fit (length ps))) (site.known && not (pole_to_pole site.spot.latitude)) (ap (λ (x : Started). is_ok x.answer) (sym e) ∙ h)

  pub set_off : {r : Started} → r ≡ started (length ps) head site → is_ok r.answer ≡ false → after r.answer r.head ps ≡ set_up ps head site
  unfolding started rules.set_up
  set_off e h =
      ap (λ (x : Started). after x.answer x.head ps) e
      ∙ off_of (not (places_fit (length ps))) (site.known && not (pole_to_pole site.spot.latitude)) (ap (λ (x : Started). is_ok x.answer) (sym e) ∙ h)

-- ---- a look

pub looked_not : (ps : List Place) (head : Head) (key : ℕ) → not (places_fit (length ps)) ≡ true → Err Places ≡ looked_up ps head key
unfolding rules.looked_up
looked_not ps head key h = rw h

module _ (ps : List Place) (head : Head) (key : ℕ) (f : not (places_fit (length ps)) ≡ false) (i : ℕ) (e : i ≡ (scanned ps (sought head.clock key) (length ps)).own) where
  own_is : i ≡ rules.place_of slice (slice_of head ps) head.clock key
  unfolding scanned rules.place_of
  own_is = e

  pub looked_held : i < length ps → Ok (Some (meaning_of (get_or ps i no_place))) ≡ looked_up ps head key
  unfolding rules.looked_up
  looked_held h = rw (f, ← own_is, lt-ltb i (length ps) h)

  pub looked_none : length ps ≤ i → Ok None ≡ looked_up ps head key
  unfolding rules.looked_up
  looked_none h = rw (f, ← own_is, le-ltb i (length ps) h)

-- ---- the next key

pub next_not : (ps : List Place) (head : Head) (above : ℕ) → not (places_fit (length ps)) ≡ true → Err Places ≡ next_above ps head above
unfolding rules.next_above
next_not ps head above h = rw h

pub next_is : (ps : List Place) (head : Head) (above : ℕ) → not (places_fit (length ps)) ≡ false → Ok (key_or_end (smallest ps head.clock above (length ps))) ≡ next_above ps head above
unfolding rules.next_above
next_is ps head above h = rw h
