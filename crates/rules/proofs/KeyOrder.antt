-- The walk in the order of the keys: what `next` answers is held, above, and nothing held lies between, and at the end nothing held is above. By induction over the places: the best of n places and one more.
-- Assumes nothing.
use Rattle.std.specs.Prelude.{Some, None, Ok}
use Prim.Native.Nat.{ℕ, suc, zero, ◌≤◌, ◌<◌}
use native.Mathlib.Omega.{arith}
use native.Mathlib.Nat.{eq-or-lt_of_le}
use mathlib.Core.Bool.{Bool, true, false, cond, ◌&&◌, ◌||◌, true≢false}
use mathlib.Core.Logic.{◌⊎◌, inl, inr, ⊎_elim}
use mathlib.Core.Path.{◌≡◌, refl, sym, ◌∙◌}
use lib.Dec.{eqb, ltb}
use borrow.Author.Tests.{ltb-true, ltb-false, eqb-true, eqb-false, eq-eqb}
use Rattle.fields.proofs.Bools.{and_left, and_right, both}
use Rattle.rules.specs.Form.{Cell, is_held, holds, Form}
use Rattle.rules.specs.View.{HeldKey, Follows}
use Rattle.rules.specs.Search.{better, smallest}
use Rattle.rules.specs.Rules.{least_above, next_above}
use Rattle.rules.specs.Keys.{key_or_end}

-- ---- the smallest key of things that have one, and are held or not

module _ (key : ℕ → ℕ) (held : ℕ → Bool) (above : ℕ) where
  -- one that the walk has yet to show
  abbrev Ahead : ℕ → Type 0
  Ahead i = (above < key i) × (held i ≡ true)

  -- what is known of the best of n
  record Best (n best : ℕ) : Type 0 where
    found : (best ≡ 0) ⊎ ((i : ℕ) × ((i < n) × (Ahead i × (key i ≡ best))))
    none_less : (i : ℕ) → i < n → Ahead i → (best ≡ 0 → ⊥) × (best ≤ key i)

  more : (n best : ℕ) → Best n best → Best (suc n) (better above best (key n) (held n))
  unfolding better
  more n best h = by_cases (ltb above (key n)) (eqb best 0) (ltb (key n) best) (held n) refl refl refl refl
    where
      taken : above < key n → held n ≡ true → (best ≡ 0) ⊎ (key n < best) → Best (suc n) (key n)
      taken a e o =
          record {
            found = inr (n, (omega arith, ((a, e), refl)));
            none_less =
                λ i g w. (
                  λ z. omega arith,
                  ⊎_elim
                      (λ (x : i ≡ n). rw x (omega arith))
                      (λ (x : i < n). ⊎_elim (λ (z : best ≡ 0). absurd ((h.none_less i x w).0 z)) (λ (z : key n < best). omega (arith, (h.none_less i x w).1)) o)
                      (eq-or-lt_of_le {n = i} {m = n} (omega arith)),
                );
          }

      kept : (Ahead n → (best ≡ 0 → ⊥) × (best ≤ key n)) → Best (suc n) best
      kept last =
          record {
            found = ⊎_elim (λ (z : best ≡ 0). inl z) (λ w. inr (w.0, (omega (arith, w.1.0), w.1.1))) h.found;
            none_less = λ i g w. ⊎_elim (λ (x : i ≡ n). at_last i x w) (λ (x : i < n). h.none_less i x w) (eq-or-lt_of_le {n = i} {m = n} (omega arith));
          }
        where
          at_last : (i : ℕ) → i ≡ n → Ahead i → (best ≡ 0 → ⊥) × (best ≤ key i)
          at_last i x w = rw x (last (rw x at w))

      by_cases : (a b c d : Bool) → ltb above (key n) ≡ a → eqb best 0 ≡ b → ltb (key n) best ≡ c → held n ≡ d
          → Best (suc n) (cond (a && (b || c) && d) (key n) best)
      by_cases true true c true p q r e = taken (ltb-true _ _ p) e (inl (eqb-true best 0 q))
      by_cases true false true true p q r e = taken (ltb-true _ _ p) e (inr (ltb-true _ _ r))
      by_cases true false false true p q r e = kept (λ w. (eqb-false best 0 q, ltb-false _ _ r))
      by_cases true true c false p q r e = kept (λ w. absurd (true≢false (sym w.1 ∙ e)))
      by_cases true false true false p q r e = kept (λ w. absurd (true≢false (sym w.1 ∙ e)))
      by_cases true false false false p q r e = kept (λ w. absurd (true≢false (sym w.1 ∙ e)))
      by_cases false b c d p q r e = kept (λ w. absurd (omega (arith, w.0, ltb-false above (key n) p)))

  best_of : (n : ℕ) → Best n (smallest key held above n)
  best_of zero = record { found = inl refl; none_less = λ i g w. absurd (omega arith) }
  best_of (suc n) = more n (smallest key held above n) (best_of n)

-- ---- the same of a table, over its keys

-- a place holds a key if it is held and the key is its own
held_place : (clock other : ℕ) (p : Cell) → holds clock other p ≡ true → (p.key ≡ other) × (is_held clock p ≡ true)
unfolding holds
held_place clock other p h = (eqb-true p.key other (and_left (eqb p.key other) _ h), and_right (eqb p.key other) _ h)

held_key : (clock key : ℕ) (p : Cell) → is_held clock p ≡ true → p.key ≡ key → holds clock key p ≡ true
unfolding holds
held_key clock key p h e = both (eq-eqb p.key key e) h

module _ {S : Type 0} (F : Form S) (s : S) (above : ℕ) where
  abbrev keys : ℕ → ℕ
  keys i = (F.cell s i).key

  abbrev held : ℕ → Bool
  held i = is_held (F.clock s) (F.cell s i)

  follows : (k : ℕ) → Best keys held above (F.count s) k → Follows F s above (Ok (key_or_end k))
  follows k h = by_test (eqb k 0) refl
    where
      less : (other : ℕ) → above < other → HeldKey F s other → (k ≡ 0 → ⊥) × (k ≤ other)
      less other a w =
          let e = held_place (F.clock s) other (F.cell s w.0) w.1.1 in
          let l = h.none_less w.0 w.1.0 (rw e.0 a, e.1) in
          (l.0, rw e.0 at l.1)

      by_test : (b : Bool) → eqb k 0 ≡ b → Follows F s above (Ok (cond b None (Some k)))
      by_test true e = λ other a w. (less other a w).0 (eqb-true k 0 e)
      by_test false e =
          ⊎_elim
          (λ (z : k ≡ 0). absurd (eqb-false k 0 e z))
          (λ (w : (i : ℕ) × ((i < F.count s) × (Ahead keys held above i × (keys i ≡ k)))). (
            (w.0, (w.1.0, held_key (F.clock s) k (F.cell s w.0) w.1.1.0.1 w.1.1.1)),
            (rw w.1.1.1 at w.1.1.0.0, λ other a v. (less other a v).1),
          ))
          h.found

  -- one step of the walk: the answer is the smallest key held above, and the end says that there is none
  pub next_follows : F.whole s ≡ true → Follows F s above (next_above F s above)
  unfolding next_above
  next_follows e = rw e (follows (least_above F s above) (best_of keys held above (F.count s)))
