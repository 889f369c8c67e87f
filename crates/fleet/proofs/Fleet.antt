-- A fleet: a deal of a stream is sparse of it for each key that goes to the table. Nothing that is handed over is late, and of the aircraft's own calls each that is not late is handed over.
-- Assumes nothing.
use Rattle.std.specs.Prelude.{Result, Ok, Err}
use Prim.Native.Nat.{ℕ, ◌≤◌, ◌<◌, ◌^◌}
use native.Mathlib.Omega.{arith}
use mathlib.Core.Bool.{Bool, true, false, cond, not, ◌&&◌}
use mathlib.Core.Path.{◌≡◌, refl, ap, sym, ◌∙◌, subst}
use mathlib.Core.List.{List, [], ◌∷◌, ◌++◌}
use borrow.Author.Tests.{ltb-false, le-ltb, eqb-true, eq-eqb}
use Rattle.messages.specs.Message.{decoded, key_of}
use Rattle.rules.specs.Form.{Form, Lawful}
use Rattle.rules.specs.Rules.{received}
use Rattle.isolation.specs.Runs.{Call, is_of, own}
use Rattle.fleet.specs.Sparse.{late, ticked, latest, timely, Sparse}
use Rattle.fleet.specs.Fleet.{is_for, call_for, Dealt, Dealt.end, Dealt.hand, Dealt.skip, Dealt.tick, Fleet, handed, least_deal}
use Rattle.fleet.proofs.Shards.{shards}
use Rattle.messages.specs.declared.Message.{Message}
use Rattle.refusals.specs.declared.Refusal.{Refusal}

-- ---- times

ticked_on : (n : ℕ) (c : Call) → n ≤ ticked n c
ticked_on n c = by_test (late n c) refl
  where
    by_test : (b : Bool) → late n c ≡ b → n ≤ cond b n c.time
    by_test true e = omega arith
    by_test false e = ltb-false c.time n e

ticked_below : (k n : ℕ) (c : Call) → k ≤ n → c.time ≤ n → ticked k c ≤ n
ticked_below k n c h g = by_test (late k c)
  where
    by_test : (b : Bool) → cond b k c.time ≤ n
    by_test true = h
    by_test false = g

-- a stream's latest time has 64 bits, as each time has
pub latest_fits : (n : ℕ) (cs : List Call) → n < 2 ^ 64 → latest n cs < 2 ^ 64
latest_fits n [] h = h
latest_fits n (c ∷ cs) h = latest_fits (ticked n c) cs (by_test (late n c))
  where
    by_test : (b : Bool) → cond b n c.time < 2 ^ 64
    by_test true = h
    by_test false = c.fits

-- ---- a deal

module _ (which : ℕ → ℕ) (key : ℕ) where
  -- its own messages are for its table
  own_for : (d : Result Message Refusal) → is_of key d ≡ true → is_for which (which key) d ≡ true
  own_for (Err r) o = o
  own_for (Ok m) o = eq-eqb (which (key_of m)) (which key) (ap which (eqb-true (key_of m) key o))

  not_for : (c : Call) (b : Bool) → call_for which (which key) c && b ≡ false → own key c && b ≡ false
  unfolding own
  not_for c b e = by_owner (own key c) refl
    where
      by_owner : (o : Bool) → own key c ≡ o → o && b ≡ false
      by_owner true p = ap (λ (x : Bool). x && b) (sym (own_for (decoded c.message) p)) ∙ e
      by_owner false p = refl

  not_own : (c : Call) → call_for which (which key) c ≡ false → own key c ≡ false
  unfolding own
  not_own c e = by_owner (own key c) refl
    where
      by_owner : (o : Bool) → own key c ≡ o → o ≡ false
      by_owner true p = sym (own_for (decoded c.message) p) ∙ e
      by_owner false p = refl

  -- the table's clock is not after the stream's
  dealt_timely : {n : ℕ} {xs ys : List Call} → Dealt which (which key) n xs ys → (k : ℕ) → k ≤ n → timely key n xs ≡ timely key k ys
  dealt_timely (end n) k h = refl
  dealt_timely {n} (hand c g d) k h =
      rw (le-ltb c.time n g, le-ltb c.time k (omega arith)) (ap (λ (l : List Call). cond (own key c && true) (c ∷ l) l) (dealt_timely d c.time (omega arith)))
  dealt_timely {n} (skip c e d) k h = rw (not_for c (not (late n c)) e) (dealt_timely d k (omega (arith, ticked_on n c)))
  dealt_timely {n} (tick c e g d) k h = rw (not_own c e) (dealt_timely d (ticked k c) (ticked_below k n c h g))

  pub dealt_sparse : {xs ys : List Call} → Dealt which (which key) 0 xs ys → latest 0 ys ≡ latest 0 xs → Sparse key xs ys
  dealt_sparse d e = record { calls = dealt_timely d 0 (omega arith); clock = sym e }

pub fleet : {S T : Type 0} (F : Form S) (G : Form T) → Lawful F → Lawful G → Fleet F G (received F) (received G)
fleet F G L M which site east s p tables q stream deal dealt key e =
    shards F G L M key site east s (tables (which key)) p (q (which key)) stream (deal (which key)) (dealt_sparse which key (dealt (which key)) e)

-- ---- every stream can be dealt out: the least deal is one, and leaves the stream's clock

module _ (which : ℕ → ℕ) (i : ℕ) (t : Call) where
  abbrev from : ℕ → List Call → List Call
  from n cs = handed which i n cs ++ t ∷ []

  skipped : (c : Call) (n m : ℕ) {cs ys : List Call} → call_for which i c && not (late n c) ≡ false → m ≡ ticked n c → Dealt which i m cs ys → Dealt which i n (c ∷ cs) ys
  skipped c n m {cs} {ys} e p d = skip c e (subst (λ (x : ℕ). Dealt which i x cs ys) p d)

  pub least_is : call_for which i t ≡ false → (cs : List Call) (n : ℕ) → t.time ≡ latest n cs → Dealt which i n cs (from n cs)
  least_is o [] n e = let g : t.time ≤ n = omega arith in tick t o g (end n)
  least_is o (c ∷ cs) n e = by_tests (call_for which i c) (late n c) refl refl (least_is o cs (ticked n c) e)
    where
      by_tests : (w b : Bool) → call_for which i c ≡ w → late n c ≡ b → Dealt which i (cond b n c.time) cs (from (cond b n c.time) cs)
          → Dealt which i n (c ∷ cs) (cond (w && not b) (c ∷ handed which i (cond b n c.time) cs) (handed which i (cond b n c.time) cs) ++ t ∷ [])
      by_tests true false q p d = hand c (ltb-false c.time n p) d
      by_tests false false q p d = skipped c n _ (rw q) (rw p) d
      by_tests true true q p d = skipped c n _ (rw (q, p)) (rw p) d
      by_tests false true q p d = skipped c n _ (rw q) (rw p) d

  least_clock : (cs : List Call) (n k : ℕ) → k ≤ n → t.time ≡ latest n cs → latest k (from n cs) ≡ t.time
  least_clock [] n k h e = rw (le-ltb t.time k (omega arith))
  least_clock (c ∷ cs) n k h e = by_tests (call_for which i c) (late n c) refl (least_clock cs) e
    where
      by_tests : (w b : Bool) → late n c ≡ b → ((m j : ℕ) → j ≤ m → t.time ≡ latest m cs → latest j (from m cs) ≡ t.time) → t.time ≡ latest (cond b n c.time) cs
          → latest k (cond (w && not b) (c ∷ handed which i (cond b n c.time) cs) (handed which i (cond b n c.time) cs) ++ t ∷ []) ≡ t.time
      by_tests true true p more e = more n k h e
      by_tests false true p more e = more n k h e
      by_tests true false p more e =
          ap (λ (b : Bool). latest (cond b k c.time) (from c.time cs)) (le-ltb c.time k (omega (arith, ltb-false c.time n p))) ∙ more c.time c.time (omega arith) e
      by_tests false false p more e = more c.time k (omega (arith, ltb-false c.time n p)) e

  pub least_deal_lem : call_for which i t ≡ false → (cs : List Call) → t.time ≡ latest 0 cs → Dealt which i 0 cs (least_deal which i cs t) × (latest 0 (least_deal which i cs t) ≡ latest 0 cs)
  least_deal_lem o cs e = (least_is o cs 0 e, least_clock cs 0 0 (omega arith) e ∙ e)
