-- Two messages at one time, to a table of any form: at one clock a call steps the track of its own key and leaves every other, so two calls that are not both of one key commute; and one that changes nothing does so first
-- or second.
-- Assumes nothing.
use Rattle.std.specs.Prelude.{Result, Ok, Err, Option}
use Prim.Native.Nat.{ℕ, ◌^◌, ◌≤◌, ◌<◌}
use native.Mathlib.Omega.{arith}
use mathlib.Core.Bool.{Bool, true, false, cond}
use mathlib.Core.Path.{◌≡◌, refl, ap, ap₂, sym, ◌∙◌, subst, fun_ext}
use mathlib.Core.List.{List}
use lib.Dec.{eqb, ltb}
use lib.ListN.{length}
use borrow.Author.Tests.{ltb-false, le-ltb, eqb-true, eqb-false, eq-eqb, ne_eqb}
use Rattle.refusals.specs.declared.Refusal.TheVariants.{Length, Late, Places, Full}
use Rattle.messages.specs.declared.Message.{Message}
use Rattle.messages.specs.Message.{decoded, key_of}
use Rattle.whereabouts.specs.declared.Site.{Site}
use Rattle.track.specs.declared.Track.{Track}
use Rattle.track.specs.Held.{found, stepped_from, answered_from}
use Rattle.rules.specs.Form.{Form, Lawful}
use Rattle.rules.specs.Rules.{After, after, delivered, received}
use Rattle.rules.specs.View.{view_at, view, AllFit}
use Rattle.rules.specs.Agreement.{Call}
use Rattle.rules.proofs.Steps.{moved_view}
use Rattle.rules.proofs.Delivered.{Effect}
use Rattle.rules.proofs.Ways.{decoded_fits, received_in_time}
use Rattle.rules.proofs.Laws.{site_after, clock_after, whole_after, effect, fit_after}
use Rattle.isolation.specs.Runs.{is_of}
use Rattle.merging.specs.Orders.{Offered, then, OfOneKey, NoSix, Same, Merges}
use Rattle.refusals.specs.declared.Refusal.{Refusal}

-- ---- one key, at one clock

-- what the decoder's answer does to the track of a key at the time of the call
abbrev step_view : Site → ℕ → ℕ → Result Message Refusal → Option Track → Option Track
step_view site t k (Err r) v = v
step_view site t k (Ok m) v = cond (eqb k (key_of m)) (stepped_from m site t (found m v)) v

-- what is answered then, where it is not 6: by the track of its own key
abbrev answer_by : Result Message Refusal → (ℕ → Option Track) → Result Message Refusal
answer_by (Err r) v = Err r
answer_by (Ok m) v = answered_from m (found m (v (key_of m)))

-- not both messages of one key
abbrev Apart : Result Message Refusal → Result Message Refusal → Type 0
Apart d e = (m n : Message) → d ≡ Ok m → e ≡ Ok n → key_of m ≡ key_of n → ⊥

step_swap : (site : Site) (t k : ℕ) (d e : Result Message Refusal) → Apart d e → (v : Option Track) → step_view site t k e (step_view site t k d v) ≡ step_view site t k d (step_view site t k e v)
step_swap site t k (Err r) e apart v = refl
step_swap site t k (Ok m) (Err r) apart v = refl
step_swap site t k (Ok m) (Ok n) apart v = by_keys (eqb k (key_of m)) (eqb k (key_of n)) refl refl
  where
    step : Message → Option Track → Option Track
    step x w = stepped_from x site t (found x w)

    by_keys : (p q : Bool) → eqb k (key_of m) ≡ p → eqb k (key_of n) ≡ q
        → cond q (step n (cond p (step m v) v)) (cond p (step m v) v) ≡ cond p (step m (cond q (step n v) v)) (cond q (step n v) v)
    by_keys true true f g = absurd (apart m n refl refl (sym (eqb-true k (key_of m) f) ∙ eqb-true k (key_of n) g))
    by_keys true false f g = refl
    by_keys false q f g = refl

answer_kept : (site : Site) (t : ℕ) (d e : Result Message Refusal) → Apart d e → (v w : ℕ → Option Track) → ((k : ℕ) → w k ≡ step_view site t k e (v k)) → answer_by d w ≡ answer_by d v
answer_kept site t (Err r) e apart v w h = refl
answer_kept site t (Ok m) (Err r) apart v w h = ap (λ (x : Option Track). answered_from m (found m x)) (h (key_of m))
answer_kept site t (Ok m) (Ok n) apart v w h =
    ap (λ (x : Option Track). answered_from m (found m x))
    (h (key_of m) ∙ ap (λ (b : Bool). cond b (stepped_from n site t (found n (v (key_of m)))) (v (key_of m))) (ne_eqb (key_of m) (key_of n) (apart m n refl refl)))

-- ---- one call in time

module _ {S : Type 0} (F : Form S) (L : Lawful F) (t : ℕ) (fits : t < 2 ^ 64) where
  -- a table that a call at t reaches
  record Reached (s : S) : Type 0 where
    pub fit : AllFit F s
    pub whole : F.whole s ≡ true
    pub time : F.clock s ≤ t

  module _ (s : S) (at : Reached s) (a : List ℕ) (l : length a ≡ 14) where
    is : received F s a t ≡ delivered F (F.moved s t) (decoded a) t
    is = received_in_time F s a t l at.whole at.time

    clock_at_lem : F.clock (received F s a t).table ≡ t
    clock_at_lem = clock_after F L s a t at.whole fits l ∙ ap (λ (b : Bool). cond b (F.clock s) t) (le-ltb t (F.clock s) at.time)

    reached_after : Reached (received F s a t).table
    reached_after = record { fit = fit_after F L s a t at.fit fits; whole = whole_after F L s a t ∙ at.whole; time = rw clock_at_lem (omega arith) }

    -- what the delivery does, by what the decoder says
    record Done (d : Result Message Refusal) (r : After S (Result Message Refusal)) : Type 0 where
      pub told : r.answer ≡ answer_by d (view_at F t (F.moved s t))
      pub left : (k : ℕ) → view_at F t r.table k ≡ step_view (F.site (F.moved s t)) t k d (view_at F t (F.moved s t) k)

    by_decoded : (d : Result Message Refusal) → decoded a ≡ d → ((delivered F (F.moved s t) d t).answer ≡ Err Full → ⊥) → Done d (delivered F (F.moved s t) d t)
    unfolding delivered
    by_decoded (Err r) e un = record { told = refl; left = λ k. refl }
    by_decoded (Ok m) e un =
        record { told = did.told un; left = λ k. by_key k (eqb k (key_of m)) refl }
      where
        did : Effect F t (F.moved s t) m (decoded_fits a m e) (delivered F (F.moved s t) (Ok m) t)
        did = effect F L s a t at.fit fits at.whole m e

        by_key : (k : ℕ) (b : Bool) → eqb k (key_of m) ≡ b
            → view_at F t (delivered F (F.moved s t) (Ok m) t).table k
            ≡ cond b (stepped_from m (F.site (F.moved s t)) t (found m (view_at F t (F.moved s t) k))) (view_at F t (F.moved s t) k)
        by_key k true u =
            subst (λ (j : ℕ). view_at F t (delivered F (F.moved s t) (Ok m) t).table j ≡ stepped_from m (F.site (F.moved s t)) t (found m (view_at F t (F.moved s t) j)))
            (sym (eqb-true k (key_of m) u)) (did.own un)
        by_key k false u = did.other k (eqb-false k (key_of m) u)

    module _ (un : (received F s a t).answer ≡ Err Full → ⊥) where
      done : Done (decoded a) (received F s a t)
      done = subst (Done (decoded a)) (sym is) (by_decoded (decoded a) refl (λ e. un (ap (λ (r : After S (Result Message Refusal)). r.answer) is ∙ e)))

      view_after : (k : ℕ) → view_at F t (received F s a t).table k ≡ step_view (F.site s) t k (decoded a) (view_at F t s k)
      view_after k = done.left k ∙ ap₂ (λ (site : Site) (v : Option Track). step_view site t k (decoded a) v) (L.moved_site s t) (moved_view F L s t t k)

      answer_is : (received F s a t).answer ≡ answer_by (decoded a) (view_at F t s)
      answer_is = done.told ∙ ap (answer_by (decoded a)) (fun_ext (λ k. moved_view F L s t t k))

  -- ---- two calls

  abbrev two : S → List ℕ → List ℕ → Offered S (Result Message Refusal)
  two s a b = let p = received F s a t in then p (received F p.table b t)

  turned : {x y : Offered S (Result Message Refusal)} → Same F x y → Same F y x
  turned e = record { clock = sym e.clock; one = sym e.other; other = sym e.one; tracks = λ k. sym (e.tracks k) }

  -- the first changes nothing, first or second
  still : (s : S) (a b : List ℕ) (q : Result Message Refusal) → received F s a t ≡ after q s → received F (received F s b t).table a t ≡ after q (received F s b t).table
      → Same F (two s a b) (two s b a)
  still s a b q e g =
      let x : two s a b ≡ record { first = q; second = (received F s b t).answer; table = (received F s b t).table }
      = ap (λ (r : After S (Result Message Refusal)). then r (received F r.table b t)) e in
      let y : two s b a ≡ record { first = (received F s b t).answer; second = q; table = (received F s b t).table } = ap (then (received F s b t)) g in
      let same : (two s a b).table ≡ (two s b a).table = cc in
      record { clock = ap F.clock same; one = (cc); other = (cc); tracks = λ k. ap (λ (z : S). view F z k) same }

  -- both in time
  in_time : (s : S) → Reached s → (a b : List ℕ) → length a ≡ 14 → length b ≡ 14 → Apart (decoded a) (decoded b) → NoSix (two s a b) → NoSix (two s b a)
      → Same F (two s a b) (two s b a)
  in_time s at a b la lb apart ab ba =
      let x : S = (received F s a t).table in
      let y : S = (received F s b t).table in
      let at_x : Reached x = reached_after s at a la in
      let at_y : Reached y = reached_after s at b lb in
      let cx : F.clock (two s a b).table ≡ t = clock_at_lem x at_x b lb in
      let cy : F.clock (two s b a).table ≡ t = clock_at_lem y at_y a la in
      let apart' : Apart (decoded b) (decoded a) = λ n m e d k. apart m n d e (sym k) in
      record {
        clock = cx ∙ sym cy;
        one = answer_is s at a la ab.0
            ∙ sym (answer_is y at_y a la ba.1 ∙ answer_kept (F.site s) t (decoded a) (decoded b) apart (view_at F t s) (view_at F t y) (view_after s at b lb ba.0));
        other = answer_is x at_x b lb ab.1
            ∙ answer_kept (F.site s) t (decoded b) (decoded a) apart' (view_at F t s) (view_at F t x) (view_after s at a la ab.0)
            ∙ sym (answer_is s at b lb ba.0);
        tracks = λ k.
            ap (λ (c : ℕ). view_at F c (two s a b).table k) cx
            ∙ view_after x at_x b lb ab.1 k
            ∙ ap₂ (λ (site : Site) (v : Option Track). step_view site t k (decoded b) v) (site_after F L s a t) (view_after s at a la ab.0 k)
            ∙ step_swap (F.site s) t k (decoded a) (decoded b) apart (view_at F t s k)
            ∙ sym (ap₂ (λ (site : Site) (v : Option Track). step_view site t k (decoded a) v) (site_after F L s b t) (view_after s at b lb ba.0 k))
            ∙ sym (view_after y at_y a la ba.1 k)
            ∙ sym (ap (λ (c : ℕ). view_at F c (two s b a).table k) cy);
      }

  -- ---- by the tests in their order

  short : (x : S) (a : List ℕ) → eqb (length a) 14 ≡ false → received F x a t ≡ after (Err Length) x
  unfolding received
  short x a e = rw e

  uneven : (x : S) (a : List ℕ) → eqb (length a) 14 ≡ true → F.whole x ≡ false → received F x a t ≡ after (Err Places) x
  unfolding received
  uneven x a e w = rw (e, w)

  late : (x : S) (a : List ℕ) → eqb (length a) 14 ≡ true → F.whole x ≡ true → ltb t (F.clock x) ≡ true → received F x a t ≡ after (Err Late) x
  unfolding received
  late x a e w h = rw (e, w, h)

  module _ (s : S) (fit : AllFit F s) (a b : List ℕ) (apart : Apart (decoded a) (decoded b)) (ab : NoSix (two s a b)) (ba : NoSix (two s b a)) where
    by_time : (c : Bool) → ltb t (F.clock s) ≡ c → eqb (length a) 14 ≡ true → eqb (length b) 14 ≡ true → F.whole s ≡ true → Same F (two s a b) (two s b a)
    by_time true h la lb w =
        let e = late s a la w h in
        still s a b (Err Late) e
        (subst (λ (z : S). received F z a t ≡ after (Err Late) z) (sym (ap (λ (r : After S (Result Message Refusal)). r.table) (late s b lb w h))) e)
    by_time false h la lb w =
        in_time s (record { fit = fit; whole = w; time = ltb-false t (F.clock s) h }) a b (eqb-true (length a) 14 la) (eqb-true (length b) 14 lb) apart ab ba

    by_places : (c : Bool) → F.whole s ≡ c → eqb (length a) 14 ≡ true → eqb (length b) 14 ≡ true → Same F (two s a b) (two s b a)
    by_places true w la lb = by_time (ltb t (F.clock s)) refl la lb w
    by_places false w la lb = still s a b (Err Places) (uneven s a la w) (uneven (received F s b t).table a la (whole_after F L s b t ∙ w))

    by_second : (c : Bool) → eqb (length b) 14 ≡ c → eqb (length a) 14 ≡ true → Same F (two s a b) (two s b a)
    by_second true lb la = by_places (F.whole s) refl la lb
    by_second false lb la = turned (still s b a (Err Length) (short s b lb) (short (received F s a t).table b lb))

    by_first : (c : Bool) → eqb (length a) 14 ≡ c → Same F (two s a b) (two s b a)
    by_first true la = by_second (eqb (length b) 14) refl la
    by_first false la = still s a b (Err Length) (short s a la) (short (received F s b t).table a la)

    either_way : Same F (two s a b) (two s b a)
    either_way = by_first (eqb (length a) 14) refl

-- ---- the statement

apart_by : (a b : Call) → (OfOneKey a b → ⊥) → Apart (decoded a.message) (decoded b.message)
apart_by a b never m n d e k = never (key_of n, (ap (is_of (key_of n)) d ∙ eq-eqb (key_of m) (key_of n) k, ap (is_of (key_of n)) e ∙ eq-eqb (key_of n) (key_of n) refl))

pub merges : {S : Type 0} (F : Form S) → Lawful F → Merges F (received F)
merges {S} F L s fit a b g =
    subst
    (λ (u : ℕ). NoSix (at u) → NoSix (back u) → Same F (at u) (back u)) g.time
    (either_way F L a.time a.fits s fit a.message b.message (apart_by a b g.keys)) g.one_way g.other_way
  where
    -- the two orders, with u for the time of b
    at : ℕ → Offered S (Result Message Refusal)
    at u = let p = received F s a.message a.time in then p (received F p.table b.message u)

    back : ℕ → Offered S (Result Message Refusal)
    back u = let p = received F s b.message u in then p (received F p.table a.message a.time)
