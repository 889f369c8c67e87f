-- What each way through the functions that answer gives: the tests on the way are those of the definition.
-- Assumes nothing.
use Rattle.std.specs.Prelude.{Result, Ok, Err, Option, Some, None}
use Prim.Native.Nat.{ℕ, ◌+◌, ◌%◌, ◌≤◌, ◌<◌}
use mathlib.Core.Bool.{Bool, true, false, cond, not, ◌&&◌, ◌||◌, true≢false}
use mathlib.Core.Path.{◌≡◌, refl, ap, sym, ◌∙◌, subst}
use mathlib.Core.List.{List, ◌++◌}
use lib.Dec.{ltb}
use lib.ListN.{length}
use borrow.Author.Tests.{lt-ltb, le-ltb, eq-eqb, ne_eqb}
use Rattle.refusals.specs.declared.Refusal.{Refusal}
use Rattle.refusals.specs.declared.Refusal.TheVariants.{Length, Late, Places, Field}
use Rattle.positions.specs.declared.Spot.{Spot}
use Rattle.positions.specs.Positions.{pole_to_pole}
use Rattle.messages.specs.declared.Message.{Message}
use Rattle.messages.specs.Message.{decoded, key_of, starts}
use Rattle.whereabouts.specs.declared.Site.{Site}
use Rattle.track.specs.declared.Track.{Track}
use Rattle.track.specs.declared.Stepped.{Stepped}
use Rattle.track.specs.Track.{new_track, stepped}
use Rattle.memory.specs.Bytes.{low_bytes, put}
use Rattle.place.specs.Place.{above_pole, track_of}
use Rattle.memory.specs.Ranges.{held}
use Rattle.rules.specs.Rules as rules
use Rattle.table_bytes.specs.declared.scan.Target.{Target}
use Rattle.memory.specs.Offsets.{site_latitude_at, whole_places, places_in}
use Rattle.table_bytes.specs.Layout.{clock_of, site_of, body_at, place_at, is_held, holds, moved, stored, emptied, emptied_at}
use Rattle.table_bytes.specs.Scan.{lowest, target_of}
use Rattle.table_bytes.specs.Walk.{smallest}
use Rattle.table.specs.Table.{After, after, set_up, set_up_at, received, looked_up, next_above, clock_in, site_in}
use Rattle.table.specs.Code.{delivered}
use Rattle.rules.specs.Keys.{key_or_end}

-- ---- a message reaches the table

-- a stepped track at the place i of n, as the code has counted them: the rule's `placed`, where n is the table's
abbrev pub placed : List ℕ → ℕ → ℕ → ℕ → Stepped → After (Result Message Refusal)
placed s n i key t = after t.answer (stored s n i key t.track)

module _ (s : List ℕ) (time : ℕ) where
  pub deliver_refused : {a : Result Message Refusal} (r : Refusal) → a ≡ Err r → after a s ≡ delivered s a time
  unfolding rules.delivered
  deliver_refused r e = rw e

  module _ {a : Result Message Refusal} {m : Message} (a-is : a ≡ Ok m) {k n : ℕ} (k-is : k ≡ key_of m) (n-is : n ≡ places_in s) {b : Bool} (b-is : b ≡ starts m)
      {g : Target} (g-is : g ≡ target_of (place_at s n) n time k) where
    abbrev step_from : Track → ℕ → After (Result Message Refusal)
    step_from t i = placed s n i k (stepped t (Ok m) (site_of s) time)

    abbrev turned_away_lem : After (Result Message Refusal)
    turned_away_lem = after (Err (rules.turned_away b)) s

    abbrev aim : ℕ → ℕ → Bool → Target
    aim i j own = cond own (record { held = true; at = i }) (record { held = false; at = j })

    abbrev outcome : ℕ → ℕ → Bool → After (Result Message Refusal)
    outcome i j own = cond own (step_from (track_of (body_at s n i)) i) (cond (b && ltb j n) (step_from new_track j) turned_away_lem)

    -- the place is the key's, or one for a message that may start a track; and it is one
    abbrev fit : Target → Bool
    fit w = (w.held || b) && ltb w.at n

    abbrev start : Target → Track
    start g = cond g.held (track_of (body_at s n g.at)) new_track

    on_by : (i j : ℕ) (own : Bool) → g ≡ aim i j own → fit g ≡ true → step_from (start g) g.at ≡ outcome i j own
    on_by i j true f h = ap (λ (w : Target). step_from (start w) w.at) f
    on_by i j false f h =
        ap (λ (w : Target). step_from (start w) w.at) f
        ∙ sym (ap (λ (c : Bool). cond c (step_from new_track j) turned_away_lem) (subst (λ (w : Target). fit w ≡ true) f h))

    pub deliver_on : {x : Result Message Refusal} {l : List ℕ} {t : Track} → fit g ≡ true → t ≡ start g → after x l ≡ step_from t g.at → after x l ≡ delivered s a time
    unfolding rules.delivered rules.place_of rules.free_place
    deliver_on h t_is d =
        d
        ∙ ap (λ (u : Track). step_from u g.at) t_is
        ∙ on_by (lowest (λ j. holds time k (place_at s n j)) n) (lowest (λ j. not (is_held time (place_at s n j))) n) (ltb (lowest (λ j. holds time k (place_at s n j)) n) n) g-is h
        ∙ rw (a-is, ← k-is, ← n-is, ← b-is)

    turned_by : (i j : ℕ) (own : Bool) → ltb i n ≡ own → g ≡ aim i j own → fit g ≡ false → turned_away_lem ≡ outcome i j own
    turned_by i j true e f h = absurd (true≢false (sym e ∙ subst (λ (w : Target). fit w ≡ false) f h))
    turned_by i j false e f h = sym (ap (λ (c : Bool). cond c (step_from new_track j) turned_away_lem) (subst (λ (w : Target). fit w ≡ false) f h))

    pub deliver_none : fit g ≡ false → {r : Refusal} → r ≡ rules.turned_away b → after (Err r) s ≡ delivered s a time
    unfolding rules.delivered rules.place_of rules.free_place
    deliver_none h r-is =
        ap (λ (r : Refusal). after (Err r) s) r-is
        ∙ turned_by (lowest (λ j. holds time k (place_at s n j)) n) (lowest (λ j. not (is_held time (place_at s n j))) n) _ refl g-is h
        ∙ rw (a-is, ← k-is, ← n-is, ← b-is)

-- ---- a message is received

module _ (s m : List ℕ) (time : ℕ) where
  pub receive_length : (length m ≡ 14 → ⊥) → after (Err Length) s ≡ received s m time
  unfolding rules.received
  receive_length f = rw (ne_eqb (length m) 14 f)

  module _ (l : length m ≡ 14) {t : Bool} (e : t ≡ whole_places (length s)) where
    pub receive_size : not t ≡ true → after (Err Places) s ≡ received s m time
    unfolding rules.received
    receive_size f = rw (eq-eqb (length m) 14 l, ← e, f)

    module _ (f : not t ≡ false) {g : ℕ} (g-is : g ≡ clock_of s) where
      pub receive_late : time < g → after (Err Late) s ≡ received s m time
      unfolding rules.received
      receive_late h = rw (eq-eqb (length m) 14 l, ← e, f, ← g-is, lt-ltb time g h)

      pub receive_on : g ≤ time → {r : List ℕ} → r ≡ moved s time → {a x : Result Message Refusal} {z : List ℕ} → a ≡ decoded m
          → after x z ≡ delivered r a time → after x z ≡ received s m time
      unfolding rules.received
      receive_on h {r} r-is a-is d = d ∙ ap (λ (a : Result Message Refusal). delivered r a time) a-is ∙ rw (r-is, eq-eqb (length m) 14 l, ← e, f, ← g-is, le-ltb time g h)

-- ---- set-up, and what can be read

module _ (s : List ℕ) {t : Bool} (e : t ≡ whole_places (length s)) where
  pub set_up_size : not t ≡ true → after (Err Places) s ≡ set_up s
  unfolding rules.set_up
  set_up_size f = rw (← e, f)

  pub set_up_on : not t ≡ false → {l : List ℕ} → l ≡ emptied s → after (Ok tt) l ≡ set_up s
  unfolding rules.set_up
  set_up_on f h = rw (← e, f, ← h)

  module _ (spot : Spot) where
    pub site_size : not t ≡ true → after (Err Places) s ≡ set_up_at s spot
    unfolding rules.set_up
    site_size f = rw (← e, f)

    module _ (f : not t ≡ false) {p : Bool} (p-is : p ≡ pole_to_pole spot.latitude) where
      pub site_pole : not p ≡ true → after (Err Field) s ≡ set_up_at s spot
      unfolding rules.set_up
      site_pole g = rw (← e, f, ← p-is, g)

      pub site_on : not p ≡ false → {l m : List ℕ} → l ≡ emptied s → m ≡ put l site_latitude_at (low_bytes 4 (above_pole spot.latitude % 4294967296 + 1) ++ low_bytes 4 spot.longitude)
          → after (Ok tt) m ≡ set_up_at s spot
      unfolding rules.set_up emptied_at
      site_on g l-is m-is = rw (← e, f, ← p-is, g, ← l-is, ← m-is)

  pub look_size : (key : ℕ) → not t ≡ true → Err Places ≡ looked_up s key
  unfolding rules.looked_up
  look_size key f = rw (← e, f)

  module _ (key : ℕ) (f : not t ≡ false) {c n i : ℕ} (n-is : n ≡ places_in s) (c-is : c ≡ clock_of s) (i-is : i ≡ lowest (λ j. holds c key (place_at s n j)) n) where
    pub look_found : i < n → {p : List ℕ} {u : Track} → p ≡ body_at s n i → u ≡ track_of p → Ok (Some u) ≡ looked_up s key
    unfolding rules.looked_up rules.place_of
    look_found h p-is u_is = rw (← e, f, ← c-is, ← n-is, ← i-is, lt-ltb i n h, ← p-is, ← u_is)

    pub look_none : n ≤ i → Ok None ≡ looked_up s key
    unfolding rules.looked_up rules.place_of
    look_none h = rw (← e, f, ← c-is, ← n-is, ← i-is, le-ltb i n h)

  module _ (above : ℕ) where
    pub next_size : not t ≡ true → Err Places ≡ next_above s above
    unfolding rules.next_above
    next_size f = rw (← e, f)

    pub next_on : not t ≡ false → {c n k : ℕ} {o : Option ℕ} → n ≡ places_in s → c ≡ clock_of s → k ≡ smallest (place_at s n) c above n → o ≡ key_or_end k → Ok o ≡ next_above s above
    unfolding rules.next_above
    next_on f n-is c-is k-is o-is = rw (← e, f, ← c-is, ← n-is, ← k-is, ← o-is)

  pub clock_on : t ≡ true → {c : ℕ} → c ≡ clock_of s → Ok c ≡ clock_in s
  unfolding clock_in
  clock_on f c-is = rw (← e, f, ← c-is)

  pub clock_size : t ≡ false → Err Places ≡ clock_in s
  unfolding clock_in
  clock_size f = rw (← e, f)

  pub site_in_lem : t ≡ true → {x : Site} → x ≡ site_of s → Ok x ≡ site_in s
  unfolding site_in
  site_in_lem f x-is = rw (← e, f, ← x-is)

  pub no_site_lem : t ≡ false → Err Places ≡ site_in s
  unfolding site_in
  no_site_lem f = rw (← e, f)
