-- A table with a place for each key that it hears never answers 6, in any form: where it does, each place holds a key of its own, and none of them is the newcomer's.
-- Assumes nothing.
use Rattle.std.specs.Prelude.{Result, Ok, Err, Some, None, ⊤}
use Prim.Native.Nat.{ℕ, zero, suc, ◌≤◌, ◌<◌}
use native.Mathlib.Omega.{arith}
use mathlib.Core.Bool.{Bool, true, false, cond, not, ◌&&◌, ◌||◌, false≢true}
use mathlib.Core.Path.{◌≡◌, refl, ap, sym, ◌∙◌}
use mathlib.Core.List.{List, [], ◌∷◌}
use lib.Dec.{eqb, ltb}
use lib.ListN.{length}
use borrow.Author.Tests.{eqb-true, eq-eqb, ne_eqb}
use Rattle.fields.proofs.Bools.{by_test}
use Rattle.positions.specs.Positions.{pole_to_pole}
use Rattle.refusals.specs.declared.Refusal.TheVariants.{Full}
use Rattle.messages.specs.declared.Message.{Message}
use Rattle.messages.specs.Message.{decoded, key_of}
use Rattle.whereabouts.specs.declared.Site.{Site}
use Rattle.track.specs.Held.{later_at}
use Rattle.replay.specs.Alone.{heard_in, own_after, track_after}
use Rattle.replay.specs.declared.Own.{Own}
use Rattle.replay.proofs.Ways.{with_track}
use Rattle.rules.specs.Form.{Cell, is_held, holds, Form, East, Lawful}
use Rattle.rules.specs.Rules.{After, set_up, received}
use Rattle.rules.specs.View.{track_in, view_at, view, Table, AllTaken}
use Rattle.rules.proofs.Search.{clash, none_passes}
use Rattle.rules.proofs.Steps.{view_later, single_later}
use Rattle.rules.proofs.Laws.{received_keeps, table_after_lem, six_exactly, set_up_table_lem}
use Rattle.isolation.specs.Runs.{Call, is_of, own, call, NeverFull}
use Rattle.isolation.specs.Alone.{heard_by, own_of}
use Rattle.isolation.proofs.Calls.{none_in, other_call}
use Rattle.fleet.specs.Room.{member, is_among, Among}
use Rattle.refusals.specs.declared.Refusal.{Refusal}

-- ---- as many numbers as there are, each in a list, need a list as long

abbrev without : ℕ → List ℕ → List ℕ
without k [] = []
without k (x ∷ xs) = cond (eqb x k) xs (x ∷ without k xs)

shorter : (k : ℕ) (xs : List ℕ) → member k xs ≡ true → length xs ≡ suc (length (without k xs))
shorter k [] e = absurd (false≢true e)
shorter k (x ∷ xs) e = by_test (eqb x k) e (shorter k xs)
  where
    by_test : (b : Bool) → b || member k xs ≡ true → (member k xs ≡ true → length xs ≡ suc (length (without k xs))) → suc (length xs) ≡ suc (length (cond b xs (x ∷ without k xs)))
    by_test true e more = refl
    by_test false e more = ap suc (more e)

stays : (k j : ℕ) → (j ≡ k → ⊥) → (xs : List ℕ) → member j xs ≡ true → member j (without k xs) ≡ true
stays k j n [] e = e
stays k j n (x ∷ xs) e = by_tests (eqb x k) (eqb x j) refl refl e (stays k j n xs)
  where
    by_tests : (b d : Bool) → eqb x k ≡ b → eqb x j ≡ d → d || member j xs ≡ true → (member j xs ≡ true → member j (without k xs) ≡ true) → member j (cond b xs (x ∷ without k xs)) ≡ true
    by_tests true true p q e more = absurd (n (sym (eqb-true x j q) ∙ eqb-true x k p))
    by_tests true false p q e more = e
    by_tests false true p q e more = rw q
    by_tests false false p q e more = rw q (more e)

as_long : (n : ℕ) (f : ℕ → ℕ) (xs : List ℕ) → ((i : ℕ) → i < n → member (f i) xs ≡ true) → ((i j : ℕ) → i < n → j < n → f i ≡ f j → i ≡ j) → n ≤ length xs
as_long zero f xs h u = omega arith
as_long (suc n) f xs h u =
    let less : n ≤ length (without (f n) xs) = as_long n f (without (f n) xs)
    (λ i l. stays (f n) (f i) (λ e. omega (arith, u i n (omega arith) (omega arith) e)) xs (h i (omega arith)))
    (λ i j l m e. u i j (omega arith) (omega arith) e) in
    omega (arith, less, shorter (f n) xs (h n (omega arith)))

-- ---- where 6 is answered

pub some_held : {C : Type 0} {c : C} → Some c ≡ None → ⊥
some_held e = let z : ◌≡◌ {A = ℕ} 0 1 = cc in omega arith

module _ {S : Type 0} (F : Form S) (s : S) (t : ℕ) where
  -- where there is no track of a key no place holds it
  nowhere : (k : ℕ) → view_at F t s k ≡ None → (i : ℕ) → i < F.count s → holds t k (F.cell s i) ≡ false
  unfolding view_at
  nowhere k e = none_passes (λ i. holds t k (F.cell s i)) (F.count s) (by_test _ _ e)
    where
      by_test : (b : Bool) (c : Cell) → track_in (cond b (Some c) None) ≡ None → b ≡ false
      by_test true c e = absurd (some_held e)
      by_test false c e = refl

  held_own : (c : Cell) → is_held t c ≡ true → holds t c.key c ≡ true
  unfolding holds
  held_own c e = rw (eq-eqb c.key c.key refl, e)

  held_as : (k : ℕ) (c : Cell) → is_held t c ≡ true → c.key ≡ k → holds t k c ≡ true
  unfolding holds
  held_as k c e p = rw (eq-eqb c.key k p, e)

-- ---- no call changes how many places there are, and no set-up

module _ {S : Type 0} (F : Form S) (L : Lawful F) (s : S) where
  count_after : (message : List ℕ) (t : ℕ) → F.count (received F s message t).table ≡ F.count s
  count_after message t =
      received_keeps F s message t (λ (x : S). F.count x ≡ F.count s) refl (L.moved_count s t) (λ i key x. L.stored_count (F.moved s t) i key x ∙ L.moved_count s t)

  count_set_up : (site : Site) → F.count (set_up F s site).table ≡ F.count s
  unfolding set_up
  count_set_up site =
      let P : After S (Result ⊤ Refusal) → Type 0 = λ (r : After S (Result ⊤ Refusal)). F.count r.table ≡ F.count s in
      by_test P (not (F.whole s)) _ _ (λ _. refl) (λ _. by_test P (site.known && not (pole_to_pole site.spot.latitude)) _ _ (λ _. refl) (λ _. L.emptied_count s site))

module _ {S : Type 0} (F : Form S) (L : Lawful F) (keys : List ℕ) where
  -- a key that is none of these is not held
  abbrev Only : S → Type 0
  Only s = (k : ℕ) → member k keys ≡ false → view F s k ≡ None

  -- 6 is answered to one of them only if there are more of them than places
  pub more_keys : (s : S) → Table F s → Only s → (message : List ℕ) (t : ℕ) → is_among keys (decoded message) ≡ true → (received F s message t).answer ≡ Err Full → F.count s < length keys
  more_keys s table only message t among a =
      let x = (six_exactly F L s message t).0 a in
      let in_time : F.clock s ≤ t = x.1.1.0 in
      let m : Message = x.1.1.1.0 in
      let all : AllTaken F t (key_of m) s = x.1.1.1.1.1.1 in
      let its : member (key_of m) keys ≡ true = sym (ap (is_among keys) x.1.1.1.1.0) ∙ among in
      let less : F.count s ≤ length (without (key_of m) keys) = as_long (F.count s) (λ i. (F.cell s i).key) (without (key_of m) keys)
      (λ i l. stays (key_of m) (F.cell s i).key (λ e. clash (held_as F s t (key_of m) (F.cell s i) (all.taken i l) e) (all.unheld i l)) keys (listed in_time i l (all.taken i l)))
      (λ i j l n e. single_later F s (F.clock s) t table.once in_time (F.cell s i).key i j l n (held_own F s t (F.cell s i) (all.taken i l)) (held_as F s t (F.cell s i).key (F.cell s j) (all.taken j n) (sym e))) in
      omega (arith, less, shorter (key_of m) keys its)
    where
      listed : F.clock s ≤ t → (i : ℕ) → i < F.count s → is_held t (F.cell s i) ≡ true → member (F.cell s i).key keys ≡ true
      listed h i l held = by_test (member (F.cell s i).key keys) refl
        where
          by_test : (b : Bool) → member (F.cell s i).key keys ≡ b → b ≡ true
          by_test true e = refl
          by_test false e =
              absurd (clash (held_own F s t (F.cell s i) held)
              (nowhere F s t (F.cell s i).key (view_later F s (F.clock s) t table.once h (F.cell s i).key ∙ ap (later_at t) (only (F.cell s i).key e)) i l))

  -- ---- a run

  not_among : (k : ℕ) (d : Result Message Refusal) → is_among keys d ≡ true → member k keys ≡ false → is_of k d ≡ false
  not_among k (Err r) a e = refl
  not_among k (Ok m) a e = ne_eqb (key_of m) k (λ p. clash a (ap (λ (j : ℕ). member j keys) p ∙ e))

  none_after : (site : Site) (o : Own) (k : ℕ) (c : Call) → own k c ≡ false → o.track ≡ None → (own_after site o (heard_by k c)).track ≡ None
  unfolding own own_after heard_in
  none_after site o k c p e = by_test (ltb c.time o.clock)
    where
      by_test : (b : Bool) → (cond b o (with_track c.time (track_after site o.track c.time (heard_by k c).message))).track ≡ None
      by_test true = e
      by_test false = rw (e, none_in k (decoded c.message) p)

  only_after : (s : S) → Table F s → (c : Call) → is_among keys (decoded c.message) ≡ true → Only s → Only (call (received F) s c).table
  unfolding own
  only_after s table c a only k e =
      let p : own k c ≡ false = not_among k (decoded c.message) a e in
      ap (λ (o : Own). o.track) (other_call F L k s c table p) ∙ none_after (F.site s) (own_of F s k) k c p (only k e)

  room_from : (key : ℕ) (cs : List Call) (s : S) → Table F s → Only s → Among keys cs → length keys ≤ F.count s → NeverFull (received F) key s cs
  room_from key [] s table only among h = tt
  room_from key (c ∷ cs) s table only among h = (
    λ _ a. omega (arith, h, more_keys s table only c.message c.time among.0 a),
    room_from key cs (call (received F) s c).table (table_after_lem F L s c.message c.time table c.fits) (only_after s table c among.0 only) among.1
        (omega (arith, h, count_after F L s c.message c.time)),
  )

  -- from a set-up on: a place for each key is enough
  pub room : (key : ℕ) (site : Site) → East site → (s : S) → (set_up F s site).answer ≡ Ok tt → (cs : List Call) → Among keys cs → length keys ≤ F.count s
      → NeverFull (received F) key (set_up F s site).table cs
  room key site east s done cs among h =
      let x = set_up_table_lem F L s site east done in
      room_from key cs (set_up F s site).table x.table (λ k _. x.unheld k) among (omega (arith, h, count_set_up F L s site))
