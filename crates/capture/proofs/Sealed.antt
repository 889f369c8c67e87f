-- Which blocks there are: 509 bytes that keep the other rules, with the three bytes behind them that make the remainder 0, are a good block; and no other three bytes do.
-- Assumes nothing.
use Prim.Native.Nat.{ℕ, ◌-◌, ◌≤◌}
use mathlib.Core.Path.{◌≡◌, refl, ap, ◌∙◌}
use mathlib.Core.Bool.{true}
use mathlib.Core.List.{List, [], ◌∷◌, ◌++◌}
use native.Mathlib.Omega.{arith}
use lib.ListN.{length, take, drop, length-append, length-drop}
use lib.Seq.{take_at, drop-append-le}
use Rattle.fields.specs.Bytes.{Bytes, bytes_of}
use Rattle.fields.proofs.Bytes.{length_bytes}
use Rattle.parity.specs.Parity.{seal}
use Rattle.parity.proofs.Seal.{sealed, only_sealed}
use Rattle.capture.specs.Block.{zeros, part, count_of, start_of, good}
use Rattle.capture.proofs.Rules.{kept_good, good_keeps}

count_before : (s t : List ℕ) → 1 ≤ length s → count_of (s ++ t) ≡ count_of s
count_before [] t h = absurd (omega (arith, h))
count_before (x ∷ xs) t h = refl

part_before : (s t : List ℕ) (a e : ℕ) → length s ≡ e → a ≤ e → part a e (s ++ t) ≡ drop a s
part_before s t a e h l = ap (take (e - a)) (drop-append-le a s t (omega arith)) ∙ take_at (drop a s) t (e - a) (omega (arith, length-drop a s))

module _ (s : List ℕ) (e : length s ≡ 509) where
  pub sealed_good : 1 ≤ count_of s → count_of s ≤ 23 → zeros (drop (start_of (count_of s)) s) ≡ true → good (s ++ bytes_of 3 (seal s)) ≡ true
  sealed_good l h z =
      let t : List ℕ = bytes_of 3 (seal s) in
      let c : count_of (s ++ t) ≡ count_of s = count_before s t (omega arith) in
      kept_good (s ++ t) (record {
        size = omega (arith, length-append s t, length_bytes 3 (seal s));
        some = omega (arith, c);
        most = omega (arith, c);
        unused = rw c (rw (part_before s t (start_of (count_of s)) 509 e (omega arith)) z);
        parity = sealed s;
      })

  pub good_sealed : (t : List ℕ) → length t ≡ 3 → Bytes t → good (s ++ t) ≡ true → t ≡ bytes_of 3 (seal s)
  good_sealed t n y g = only_sealed s t n y (good_keeps (s ++ t) g).parity
