-- Two forms of the table take the same calls alike: the clock moves in both, both searches find the same numbers, and the same track is stored at one of them.
-- Assumes nothing.
use Rattle.std.specs.Prelude.{Result, Ok, Err, Option, Some}
use Prim.Native.Nat.{ℕ, zero, suc, ◌^◌, ◌≤◌, ◌<◌}
use native.Mathlib.Nat.{le_refl}
use native.Mathlib.Omega.{arith}
use mathlib.Core.Bool.{Bool, true, false, cond, not, ◌&&◌, ◌||◌}
use mathlib.Core.Logic.{⊎_elim}
use mathlib.Core.Path.{◌≡◌, refl, ap, sym, ◌∙◌, subst}
use mathlib.Core.List.{List, [], ◌∷◌}
use lib.Dec.{eqb, ltb}
use lib.ListN.{length}
use borrow.Author.Tests.{ltb-true, ltb-false, not-false}
use Rattle.fields.proofs.Bools.{and_left, and_right, and-false}
use Rattle.positions.specs.Positions.{pole_to_pole}
use Rattle.messages.specs.declared.Message.{Message}
use Rattle.messages.specs.Message.{decoded, key_of, starts}
use Rattle.whereabouts.specs.declared.Site.{Site}
use Rattle.track.specs.declared.Track.{Track}
use Rattle.track.specs.Track.{new_track, stepped}
use Rattle.place.specs.Place.{Fits}
use Rattle.place.proofs.Steps.{new_fits, stepped_fits}
use Rattle.rules.specs.Keys.{key_or_end}
use Rattle.track.specs.Held.{in_date}
use Rattle.rules.specs.Search.{lowest, better, smallest}
use Rattle.rules.specs.Form.{Cell, taken, is_held, holds, Form, East, SiteFits, Lawful}
use Rattle.rules.specs.Rules.{After, set_up, place_of, free_place, placed, delivered, received, looked_up, least_above, next_above}
use Rattle.rules.specs.Agreement.{Same, Agree, Alike, AlikeSet, Call, AlikeRuns}
use Rattle.rules.proofs.Search.{clash, alike, lowest_passes, lowest_same}
use Rattle.rules.proofs.Steps.{held_later, moved_fit, stored_fit}
use Rattle.messages.proofs.Keys.{key_range}
use Rattle.rules.proofs.Laws.{not_done, site_fits}
use Rattle.refusals.specs.declared.Refusal.{Refusal}

-- ---- two places

-- where both are held their ages are one, and where neither is the age is nothing to it
ages : (x y : Bool) (a b : Bool) → x ≡ y → (y ≡ true → a ≡ b) → x && a ≡ y && b
ages x true a b e h = ap (λ (z : Bool). z && a) e ∙ h refl
ages x false a b e h = ap (λ (z : Bool). z && a) e

same_later : (c t : ℕ) (b p : Cell) → c ≤ t → Same c b p → Same t b p
same_later c t b p h same =
    record {
      held =
          held_later c t h b
          ∙ ages (is_held c b) (is_held c p) (in_date t b.track.heard) (in_date t p.track.heard) same.held (λ e. ap (λ (x : Track). in_date t x.heard) (same.track e))
          ∙ sym (held_later c t h p);
      key = λ e. same.key (was e);
      track = λ e. same.track (was e);
    }
  where
    was : is_held t p ≡ true → is_held c p ≡ true
    was e = and_left (is_held c p) (in_date t p.track.heard) (sym (held_later c t h p) ∙ e)

keyed : (x y : Bool) (a b : Bool) → x ≡ y → (y ≡ true → a ≡ b) → a && x ≡ b && y
keyed x true a b e h = ap (λ (z : Bool). z && x) (h refl) ∙ ap (λ (z : Bool). b && z) e
keyed x false a b e h = ap (λ (z : Bool). a && z) e ∙ and-false a ∙ sym (and-false b)

same_holds : (clock key : ℕ) (b p : Cell) → Same clock b p → holds clock key b ≡ holds clock key p
unfolding holds
same_holds clock key b p same = keyed (is_held clock b) (is_held clock p) (eqb b.key key) (eqb p.key key) same.held (λ e. ap (λ (k : ℕ). eqb k key) (same.key e))

module _ (clock above best : ℕ) (b p : Cell) (same : Same clock b p) where
  abbrev passes : ℕ → Bool
  passes k = ltb above k && (eqb best 0 || ltb k best)

  by_holding : (h : Bool) → is_held clock p ≡ h → cond (passes b.key && is_held clock b) b.key best ≡ cond (passes p.key && is_held clock p) p.key best
  by_holding true e =
      ap (λ (k : ℕ). cond (passes k && is_held clock b) k best) (same.key e)
      ∙ ap (λ (h : Bool). cond (passes p.key && h) p.key best) same.held
  by_holding false e =
      ap (λ (h : Bool). cond h b.key best) (ap (λ (h : Bool). passes b.key && h) (same.held ∙ e) ∙ and-false (passes b.key))
      ∙ sym (ap (λ (h : Bool). cond h p.key best) (ap (λ (h : Bool). passes p.key && h) e ∙ and-false (passes p.key)))

  same_better : better above best b.key (is_held clock b) ≡ better above best p.key (is_held clock p)
  unfolding better
  same_better = by_holding (is_held clock p) refl

same_as : (clock : ℕ) {b p c : Cell} → b ≡ c → p ≡ c → Same clock b p
same_as clock e f = record { held = ap (is_held clock) (e ∙ sym f); key = λ _. ap (λ (x : Cell). x.key) (e ∙ sym f); track = λ _. ap (λ (x : Cell). x.track) (e ∙ sym f) }

free_of : (c : ℕ) (p : Cell) → p.in_range ≡ false → is_held c p ≡ false
unfolding is_held
free_of c p e = ap (λ (b : Bool). b && in_date c p.track.heard) e

-- two places that nobody has
same_free : (c : ℕ) (b p : Cell) → b.in_range ≡ false → p.in_range ≡ false → Same c b p
same_free c b p e f =
    let no = free_of c p f in
    record { held = free_of c b e ∙ sym no; key = λ q. absurd (clash q no); track = λ q. absurd (clash q no) }

-- ---- both searches

-- two choices by one test are related if both ways are
both_ways : {A B : Type 0} (R : A → B → Type 0) {x y : Bool} (b₁ b₂ : A) (r₁ r₂ : B) → x ≡ y → (y ≡ true → R b₁ r₁) → (y ≡ false → R b₂ r₂) → R (cond x b₁ b₂) (cond y r₁ r₂)
both_ways R {y = y} b₁ b₂ r₁ r₂ e p q = subst (λ (z : Bool). R (cond z b₁ b₂) (cond y r₁ r₂)) (sym e) (by_cases y p q)
  where
    by_cases : (z : Bool) → (z ≡ true → R b₁ r₁) → (z ≡ false → R b₂ r₂) → R (cond z b₁ b₂) (cond z r₁ r₂)
    by_cases true p q = p refl
    by_cases false p q = q refl

module _ {S T : Type 0} (F : Form S) (G : Form T) (s : S) (t : T) (a : Agree F G s t) where
  abbrev c : ℕ
  c = G.clock t

  own_same : (key : ℕ) → place_of F s c key ≡ place_of G t c key
  unfolding place_of
  own_same key =
      ap (lowest (λ i. holds c key (F.cell s i))) a.count
      ∙ lowest_same (λ i. holds c key (F.cell s i)) (λ i. holds c key (G.cell t i)) (G.count t) (λ i h. same_holds c key (F.cell s i) (G.cell t i) (a.same i h))

  free_same : free_place F s c ≡ free_place G t c
  unfolding free_place
  free_same =
      ap (lowest (λ i. not (is_held c (F.cell s i)))) a.count
      ∙ lowest_same (λ i. not (is_held c (F.cell s i))) (λ i. not (is_held c (G.cell t i))) (G.count t) (λ i h. ap not (a.same i h).held)

  -- the place found is held
  own_held : (key : ℕ) → place_of G t c key < G.count t → is_held c (G.cell t (place_of G t c key)) ≡ true
  unfolding place_of holds
  own_held key h = and_right (eqb (G.cell t (lowest (λ i. holds c key (G.cell t i)) (G.count t))).key key) _ (lowest_passes (λ i. holds c key (G.cell t i)) (G.count t) h)

  -- so it holds the same track, which fits
  own_track : (key : ℕ) → place_of G t c key < G.count t → (F.cell s (place_of F s c key)).track ≡ (G.cell t (place_of G t c key)).track
  own_track key h = ap (λ (i : ℕ). (F.cell s i).track) (own_same key) ∙ (a.same (place_of G t c key) h).track (own_held key h)

  in_range_lem : (p : Cell) → is_held c p ≡ true → p.in_range ≡ true
  unfolding is_held
  in_range_lem p e = and_left p.in_range _ e

  own_fits : (key : ℕ) → place_of G t c key < G.count t → Fits (G.cell t (place_of G t c key)).track
  own_fits key h =
      let i : ℕ = place_of G t c key in
      let same : Same c (F.cell s i) (G.cell t i) = a.same i h in
      subst Fits (same.track (own_held key h)) (a.fit i (omega (arith, h, a.count)) (in_range_lem (F.cell s i) (same.held ∙ own_held key h)))

  -- ---- a delivery

  module _ (L : Lawful F) (M : Lawful G) (size : G.whole t ≡ true) (fits : c < 2 ^ 64) where
    module _ (m : Message) (i : ℕ) (h : i < G.count t) (x : Track) (f : Fits x) where
      abbrev r : S
      r = F.stored s i (key_of m) x

      abbrev z : T
      z = G.stored t i (key_of m) x

      within : i < F.count s
      within = omega (arith, h, a.count)

      r_there : F.cell r i ≡ taken (key_of m) x
      r_there = L.stored_there s i (key_of m) x (a.size ∙ size) within (key_range m) f

      z_there : G.cell z i ≡ taken (key_of m) x
      z_there = M.stored_there t i (key_of m) x size h (key_range m) f

      same_all : (j : ℕ) → j < G.count t → Same c (F.cell r j) (G.cell z j)
      same_all j g = ⊎_elim
          (λ (e : j ≡ i). same_as c (ap (F.cell r) e ∙ r_there) (ap (G.cell z) e ∙ z_there))
          (λ (e : j ≡ i → ⊥). subst (λ (b : Cell). Same c b (G.cell z j)) (sym (L.stored_elsewhere s i (key_of m) x within j (omega (arith, g, a.count)) e))
          (subst (Same c (F.cell s j)) (sym (M.stored_elsewhere t i (key_of m) x h j g e)) (a.same j g)))
          (alike j i)

      stored_agrees : Agree F G r z
      stored_agrees =
          record {
            fit = stored_fit F L s a.fit i (key_of m) x (a.size ∙ size) within (key_range m) f;
            size = L.stored_whole s i (key_of m) x ∙ a.size ∙ sym (M.stored_whole t i (key_of m) x);
            count = L.stored_count s i (key_of m) x ∙ a.count ∙ sym (M.stored_count t i (key_of m) x);
            clock = L.stored_clock s i (key_of m) x ∙ a.clock ∙ sym (M.stored_clock t i (key_of m) x);
            site = L.stored_site s i (key_of m) x ∙ a.site ∙ sym (M.stored_site t i (key_of m) x);
            same = λ j g. subst (λ (d : ℕ). Same d (F.cell r j) (G.cell z j)) (sym (M.stored_clock t i (key_of m) x)) (same_all j (omega (arith, g, M.stored_count t i (key_of m) x)));
          }

    -- two steps from one track, stored at one number
    step_agrees : (m : Message) (i j : ℕ) (x y : Track) → i ≡ j → x ≡ y → j < G.count t → Fits y
        → Alike F G (placed F s i (key_of m) (stepped x (Ok m) (F.site s) c)) (placed G t j (key_of m) (stepped y (Ok m) (G.site t) c))
    step_agrees m i j x y e p h f =
        subst (λ (k : ℕ). Alike F G (placed F s k (key_of m) (stepped x (Ok m) (F.site s) c)) after_it) (sym e)
        (subst (λ (z : Track). Alike F G (placed F s j (key_of m) (stepped z (Ok m) (F.site s) c)) after_it) (sym p)
        (subst (λ (z : Site). Alike F G (placed F s j (key_of m) (stepped y (Ok m) z c)) after_it) (sym a.site)
        (record { answer = refl; left = stored_agrees m j h (stepped y (Ok m) (G.site t) c).track (stepped_fits y f (G.site t) c fits (Ok m)) })))
      where
        after_it : After T (Result Message Refusal)
        after_it = placed G t j (key_of m) (stepped y (Ok m) (G.site t) c)

    tests_same : (i j : ℕ) → i ≡ j → ltb i (F.count s) ≡ ltb j (G.count t)
    tests_same i j e = rw (e, a.count)

    delivered_agrees : (d : Result Message Refusal) → Alike F G (delivered F s d c) (delivered G t d c)
    unfolding delivered
    delivered_agrees (Err r) = record { answer = refl; left = a }
    delivered_agrees (Ok m) =
        both_ways (Alike F G) _ _ _ _ (tests_same _ _ (own_same (key_of m)))
        (λ e. let h : place_of G t c (key_of m) < G.count t = ltb-true _ _ e in step_agrees m _ _ _ _ (own_same (key_of m)) (own_track (key_of m) h) h (own_fits (key_of m) h))
        (λ _. both_ways (Alike F G) _ _ _ _ (ap (λ (b : Bool). starts m && b) (tests_same _ _ free_same))
        (λ e. step_agrees m _ _ new_track new_track free_same refl (ltb-true _ _ (and_right (starts m) _ e)) new_fits)
        (λ _. record { answer = refl; left = a }))

-- ---- a call

module _ {S T : Type 0} (F : Form S) (G : Form T) (L : Lawful F) (M : Lawful G) where
  moved_agrees : (s : S) (t : T) (time : ℕ) → Agree F G s t → G.whole t ≡ true → G.clock t ≤ time → time < 2 ^ 64 → Agree F G (F.moved s time) (G.moved t time)
  moved_agrees s t time a size h f =
      record {
        fit = moved_fit F L s a.fit time;
        size = L.moved_whole s time ∙ a.size ∙ sym (M.moved_whole t time);
        count = L.moved_count s time ∙ a.count ∙ sym (M.moved_count t time);
        clock = L.moved_clock s time (a.size ∙ size) f ∙ sym (M.moved_clock t time size f);
        site = L.moved_site s time ∙ a.site ∙ sym (M.moved_site t time);
        same = λ i l. subst (λ (d : ℕ). Same d (F.cell (F.moved s time) i) (G.cell (G.moved t time) i)) (sym (M.moved_clock t time size f))
            (subst (λ (b : Cell). Same time b (G.cell (G.moved t time) i)) (sym (L.moved_cell s time i))
            (subst (Same time (F.cell s i)) (sym (M.moved_cell t time i)) (same_later (G.clock t) time _ _ h (a.same i (omega (arith, l, M.moved_count t time))))));
      }

  module _ (s : S) (t : T) (a : Agree F G s t) where
    at_time : (time : ℕ) → G.whole t ≡ true → G.clock t ≤ time → time < 2 ^ 64 → (d : Result Message Refusal) → Alike F G (delivered F (F.moved s time) d time) (delivered G (G.moved t time) d time)
    at_time time w h f d =
        let e : G.clock (G.moved t time) ≡ time = M.moved_clock t time w f in
        subst (λ (x : ℕ). Alike F G (delivered F (F.moved s time) d x) (delivered G (G.moved t time) d x)) e
        (delivered_agrees F G (F.moved s time) (G.moved t time) (moved_agrees s t time a w h f) L M (M.moved_whole t time ∙ w) (subst (λ (x : ℕ). x < 2 ^ 64) (sym e) f) d)

    -- one message at one time is answered alike, and what is left agrees
    pub received_agrees : (message : List ℕ) (time : ℕ) → time < 2 ^ 64 → Alike F G (received F s message time) (received G t message time)
    unfolding received
    received_agrees message time f =
        both_ways (Alike F G) {x = not (eqb (length message) 14)} _ _ _ _ refl (λ _. record { answer = refl; left = a })
        (λ _. both_ways (Alike F G) _ _ _ _ (ap not a.size) (λ _. record { answer = refl; left = a })
        (λ w. both_ways (Alike F G) _ _ _ _ (ap (ltb time) a.clock) (λ _. record { answer = refl; left = a })
        (λ l. at_time time (not-false _ w) (ltb-false _ _ l) f (decoded message))))

    -- what is looked up is the same in both
    pub looked_up_agrees : (key : ℕ) → looked_up F s key ≡ looked_up G t key
    unfolding looked_up
    looked_up_agrees key =
        both_ways ◌≡◌ _ _ _ _ (ap not a.size) (λ _. refl)
        (λ _. both_ways ◌≡◌ _ _ _ _ (tests_at own_at)
        (λ e. ap held (track_at_lem (ltb-true _ _ e)))
        (λ _. refl))
      where
        own_at : place_of F s (F.clock s) key ≡ place_of G t (G.clock t) key
        own_at = ap (λ (c : ℕ). place_of F s c key) a.clock ∙ own_same F G s t a key

        tests_at : {i j : ℕ} → i ≡ j → ltb i (F.count s) ≡ ltb j (G.count t)
        tests_at e = rw (e, a.count)

        held : Track → Result (Option Track) Refusal
        held x = Ok (Some x)

        track_at_lem : place_of G t (G.clock t) key < G.count t → (F.cell s (place_of F s (F.clock s) key)).track ≡ (G.cell t (place_of G t (G.clock t) key)).track
        track_at_lem h = ap (λ (c : ℕ). (F.cell s (place_of F s c key)).track) a.clock ∙ own_track F G s t a key h

    least_same : (above m : ℕ) → m ≤ G.count t
        → smallest (λ i. (F.cell s i).key) (λ i. is_held (G.clock t) (F.cell s i)) above m ≡ smallest (λ i. (G.cell t i).key) (λ i. is_held (G.clock t) (G.cell t i)) above m
    least_same above zero h = refl
    least_same above (suc m) h =
        ap (λ (b : ℕ). better above b (F.cell s m).key (is_held (G.clock t) (F.cell s m))) (least_same above m (omega arith))
        ∙ same_better (G.clock t) above _ (F.cell s m) (G.cell t m) (a.same m (omega arith))

    -- and so is the next key
    pub next_agrees : (above : ℕ) → next_above F s above ≡ next_above G t above
    unfolding next_above
    next_agrees above = both_ways ◌≡◌ _ _ _ _ (ap not a.size) (λ _. refl)
        (λ _. ap answered least)
      where
        answered : ℕ → Result (Option ℕ) Refusal
        answered k = Ok (key_or_end k)

        least : least_above F s above ≡ least_above G t above
        least = rw (a.clock, a.count) (least_same above (G.count t) (le_refl (G.count t)))

  -- ---- a set-up of as many places, and the calls after it

  emptied_agrees : (s : S) (t : T) (o : Site) → SiteFits o → F.whole s ≡ true → G.whole t ≡ true → F.count s ≡ G.count t → Agree F G (F.emptied s o) (G.emptied t o)
  emptied_agrees s t o f v w e =
      record {
        fit = λ i l q. absurd (clash q (L.emptied_cell s o i));
        size = L.emptied_whole s o ∙ v ∙ sym (M.emptied_whole t o ∙ w);
        count = L.emptied_count s o ∙ e ∙ sym (M.emptied_count t o);
        clock = L.emptied_clock s o ∙ sym (M.emptied_clock t o);
        site = L.emptied_site s o v f ∙ sym (M.emptied_site t o w f);
        same = λ i l. same_free _ _ _ (L.emptied_cell s o i) (M.emptied_cell t o i);
      }

  -- two set-ups at one site are answered alike, whatever the places held
  pub set_up_agrees : (s : S) (t : T) (o : Site) → East o → F.whole s ≡ G.whole t → F.count s ≡ G.count t → AlikeSet F G (set_up F s o) (set_up G t o)
  unfolding set_up
  set_up_agrees s t o east v e =
      both_ways (AlikeSet F G) _ _ _ _ (ap not v) (λ _. record { answer = refl; left = λ d. absurd (not_done d) })
      (λ w. both_ways (AlikeSet F G) {x = o.known && not (pole_to_pole o.spot.latitude)} _ _ _ _ refl (λ _. record { answer = refl; left = λ d. absurd (not_done d) })
      (λ p. record { answer = refl; left = λ _. emptied_agrees s t o (site_fits o east p) (v ∙ not-false _ w) (not-false _ w) e }))

  pub runs_agree : (s : S) (t : T) → Agree F G s t → (cs : List Call) → AlikeRuns F G s t cs
  runs_agree s t a [] = a
  runs_agree s t a (c ∷ cs) =
      let e = received_agrees s t a c.message c.time c.fits in
      (a, (e.answer, runs_agree (received F s c.message c.time).table (received G t c.message c.time).table e.left cs))
