-- A capture in two parts, of which the first has whole blocks: one part after the other is the whole. The blocks of the whole are those of the first and then those of the second.
-- Assumes nothing.
use Rattle.std.specs.Prelude.{Ok}
use Prim.Native.Nat.{ℕ, zero, suc, ◌+◌, ◌*◌, ◌<◌, ◌≤◌}
use mathlib.Core.Path.{◌≡◌, refl, sym, ap, ap₂, ◌∙◌}
use mathlib.Core.Bool.{cond}
use mathlib.Core.List.{List, ◌++◌}
use native.Mathlib.Nat.{add-zero, add-suc, add_assoc}
use native.Mathlib.Omega.{arith}
use lib.ListN.{length, take, drop, length-append, length-drop}
use lib.Seq.{take-append-le, drop-append-le, drop-append-add}
use Rattle.capture.specs.Block.{good}
use Rattle.table.specs.Table.{after}
use Rattle.feed.specs.Feed.{blocks_in, block_at, block_into, blocks_into, bad_in, fed}
use Rattle.feed.proofs.Answers.{fed_bad}
use Rattle.feed.proofs.Ways.{feed_on}

module _ (c d : List ℕ) (a : ℕ) (e : length c ≡ 512 * a) where
  at_first : (k : ℕ) → k < a → block_at (c ++ d) k ≡ block_at c k
  unfolding block_at
  at_first k h =
      ap (take 512) (drop-append-le (512 * k) c d (omega arith))
      ∙ take-append-le 512 (drop (512 * k) c) d (omega (arith, length-drop (512 * k) c))

  at_second : (k : ℕ) → block_at (c ++ d) (a + k) ≡ block_at d k
  unfolding block_at
  at_second k =
      ap (λ (n : ℕ). take 512 (drop n (c ++ d))) (let q : 512 * (a + k) ≡ length c + 512 * k = omega arith in q)
      ∙ ap (take 512) (drop-append-add c d (512 * k))

  blocks_first : blocks_in c ≡ a
  blocks_first = omega arith

  blocks_both : blocks_in (c ++ d) ≡ a + blocks_in d
  blocks_both = omega (arith, length-append c d)

  module _ (s : List ℕ) where
    into_first : (k : ℕ) → k ≤ a → blocks_into s (c ++ d) k ≡ blocks_into s c k
    into_first zero h = refl
    into_first (suc k) h = ap₂ block_into (into_first k (omega arith)) (at_first k h)

    into_second : (k : ℕ) → blocks_into s (c ++ d) (a + k) ≡ blocks_into (blocks_into s c a) d k
    into_second zero = ap (blocks_into s (c ++ d)) (add-zero a) ∙ into_first a (omega arith)
    into_second (suc k) = ap (blocks_into s (c ++ d)) (add-suc a k) ∙ ap₂ block_into (into_second k) (at_second k)

    -- the table that both leave
    pub into_both : blocks_into s (c ++ d) (blocks_in (c ++ d)) ≡ blocks_into (blocks_into s c (blocks_in c)) d (blocks_in d)
    into_both =
        ap (blocks_into s (c ++ d)) blocks_both
        ∙ into_second (blocks_in d)
        ∙ ap (λ (n : ℕ). blocks_into (blocks_into s c n) d (blocks_in d)) (sym blocks_first)

  abbrev more : ℕ → List ℕ → ℕ
  more n b = n + cond (good b) 0 1

  bad_first : (k : ℕ) → k ≤ a → bad_in (c ++ d) k ≡ bad_in c k
  bad_first zero h = refl
  bad_first (suc k) h = ap₂ more (bad_first k (omega arith)) (at_first k h)

  bad_second : (k : ℕ) → bad_in (c ++ d) (a + k) ≡ bad_in c a + bad_in d k
  bad_second zero = ap (bad_in (c ++ d)) (add-zero a) ∙ bad_first a (omega arith) ∙ sym (add-zero (bad_in c a))
  bad_second (suc k) =
      ap (bad_in (c ++ d)) (add-suc a k)
      ∙ ap₂ more (bad_second k) (at_second k)
      ∙ add_assoc (bad_in c a) (bad_in d k) (cond (good (block_at d k)) 0 1)

  -- the bad blocks of both
  pub bad_both : bad_in (c ++ d) (blocks_in (c ++ d)) ≡ bad_in c (blocks_in c) + bad_in d (blocks_in d)
  bad_both =
      ap (bad_in (c ++ d)) blocks_both
      ∙ bad_second (blocks_in d)
      ∙ ap (λ (n : ℕ). bad_in c n + bad_in d (blocks_in d)) (sym blocks_first)

  -- to feed the first and then the second is to feed the whole
  pub fed_then : (s : List ℕ) {m n : ℕ} {l k : List ℕ} → after (Ok m) l ≡ fed s c → after (Ok n) k ≡ fed l d → after (Ok (m + n)) k ≡ fed s (c ++ d)
  fed_then s {m} {n} {l} p q =
      let f = fed_bad s c m p in
      let g = fed_bad l d n q in
      feed_on s (c ++ d) f.0
      (ap₂ (λ (x y : ℕ). x + y) f.1 g.1 ∙ sym bad_both)
      (g.2 ∙ ap (λ (x : List ℕ). blocks_into x d (blocks_in d)) f.2 ∙ sym (into_both s))
