-- Laws of `put`, a run of stores: one after another is one of both, also where the second writes the last byte of the first again.
-- Assumes nothing.
use Prim.Native.Nat.{ℕ, suc, ◌+◌, ◌/◌, ◌%◌, ◌≤◌}
use native.Mathlib.Omega.{arith}
use native.Mathlib.Nat.{add-zero, add_assoc}
use mathlib.Core.Path.{◌≡◌, refl, ap, sym, ◌∙◌}
use mathlib.Core.List.{List, [], ◌∷◌, ◌++◌}
use lib.ListN.{length, set}
use lib.Seq.{length-sets, set-set}
use Rattle.memory.specs.Bytes.{low_bytes, put}
use Rattle.memory.proofs.Numbers.{low_length, low_4, low_cut, low_7, low_last, low_more}

pub put_length : (s : List ℕ) (at : ℕ) (vs : List ℕ) → length (put s at vs) ≡ length s
unfolding put
put_length s at vs = length-sets s at vs

pub put_append : (s : List ℕ) (at : ℕ) (vs ws : List ℕ) → put (put s at vs) (at + length vs) ws ≡ put s at (vs ++ ws)
unfolding put
put_append s at [] ws = rw add-zero
put_append s at (v ∷ vs) ws =
    let e : at + suc (length vs) ≡ suc at + length vs = omega arith in
    rw e (put_append (set s at v) (suc at) vs ws)

-- one store after another, at an offset and k bytes after it
pub put_then : (s : List ℕ) (at k : ℕ) (vs ws : List ℕ) {l m : List ℕ} → length vs ≡ k → l ≡ put s at vs → m ≡ put l (at + k) ws → m ≡ put s at (vs ++ ws)
put_then s at k vs ws e p q =
    q ∙ ap (λ (x : List ℕ). put x (at + k) ws) p ∙ ap (λ (j : ℕ). put (put s at vs) (at + j) ws) (sym e) ∙ put_append s at vs ws

-- the same where the first is itself j bytes after an offset
pub put_after : (s : List ℕ) (at j k : ℕ) (vs ws : List ℕ) {l m : List ℕ}
    → length vs ≡ k → l ≡ put s (at + j) vs → m ≡ put l (at + (j + k)) ws → m ≡ put s (at + j) (vs ++ ws)
put_after s at j k vs ws {l} e p q = put_then s (at + j) k vs ws e p (q ∙ ap (λ (i : ℕ). put l i ws) (sym (add_assoc at j k)))

pub put_same : (s : List ℕ) (at : ℕ) {vs ws l : List ℕ} → vs ≡ ws → l ≡ put s at vs → l ≡ put s at ws
put_same s at e p = p ∙ ap (put s at) e

-- a store whose last byte the next one writes again
put_over : (s : List ℕ) (at : ℕ) (vs ws : List ℕ) (b w : ℕ) → put (put s at (vs ++ (b ∷ []))) (at + length vs) (w ∷ ws) ≡ put s at (vs ++ (w ∷ ws))
unfolding put
put_over s at vs ws b w =
    ap (λ (x : List ℕ). put x (at + length vs) (w ∷ ws)) (sym (put_append s at vs (b ∷ [])))
    ∙ ap (λ (x : List ℕ). put x (suc (at + length vs)) ws) (set-set (put s at vs) (at + length vs) b w)
    ∙ put_append s at vs (w ∷ ws)

-- .. at an offset and k bytes after it
put_then_over : (s : List ℕ) (at k : ℕ) (vs bs : List ℕ) (b : ℕ) {l m : List ℕ}
    → length vs ≡ k → 1 ≤ length bs → l ≡ put s at (vs ++ (b ∷ [])) → m ≡ put l (at + k) bs → m ≡ put s at (vs ++ bs)
put_then_over s at k vs [] b e h p q = let z : ⊥ = omega arith in absurd z
put_then_over s at k vs (w ∷ ws) b e h p q =
    q ∙ ap (λ (x : List ℕ). put x (at + k) (w ∷ ws)) p
    ∙ ap (λ (j : ℕ). put (put s at (vs ++ (b ∷ []))) (at + j) (w ∷ ws)) (sym e)
    ∙ put_over s at vs ws b w

-- .. of eight bytes, the last of which is written again
pub put_8_then : (s : List ℕ) (at x : ℕ) (bs : List ℕ) {l m : List ℕ} → 1 ≤ length bs → l ≡ put s at (low_bytes 8 x) → m ≡ put l (at + 7) bs → m ≡ put s at (low_bytes 7 x ++ bs)
put_8_then s at x bs h p q = put_then_over s at 7 (low_bytes 7 x) bs _ (low_length 7 x) h (put_same s at (sym (low_last x)) p) q

pub put_8_after : (s : List ℕ) (at j x : ℕ) (bs : List ℕ) {l m : List ℕ}
    → 1 ≤ length bs → l ≡ put s (at + j) (low_bytes 8 x) → m ≡ put l (at + (j + 7)) bs → m ≡ put s (at + j) (low_bytes 7 x ++ bs)
put_8_after s at j x bs {l} h p q = put_8_then s (at + j) x bs h p (q ∙ ap (λ (i : ℕ). put l i bs) (sym (add_assoc at j 7)))

-- seven bytes, the fourth of which is written twice
pub put_7 : (s : List ℕ) (at x : ℕ) {l m : List ℕ}
    → l ≡ put s at (low_bytes 4 (x % 4294967296)) → m ≡ put l (at + 3) (low_bytes 4 (x / 16777216 % 4294967296)) → m ≡ put s at (low_bytes 7 x)
put_7 s at x {l} p q =
    let three : List ℕ = x % 256 ∷ x / 256 % 256 ∷ x / 65536 % 256 ∷ [] in
    let four : List ℕ = low_bytes 4 (x / 16777216) in
    put_same s at (low_7 x)
    (put_then_over s at 3 three four (x / 16777216 % 256) refl (omega (arith, low_length 4 (x / 16777216))) (put_same s at (low_cut x ∙ low_4 x) p) (put_same l (at + 3) (low_cut (x / 16777216)) q))

-- four bytes, and k more
pub put_more : (s : List ℕ) (at k x : ℕ) {l m : List ℕ}
    → l ≡ put s at (low_bytes 4 (x % 4294967296)) → m ≡ put l (at + 4) (low_bytes k (x / 4294967296)) → m ≡ put s at (low_bytes (suc (suc (suc (suc k)))) x)
put_more s at k x p q =
    put_same s at (low_more k x) (put_then s at 4 (low_bytes 4 (x % 4294967296)) (low_bytes k (x / 4294967296)) (low_length 4 (x % 4294967296)) p q)

-- single stores
pub put_1 : (s : List ℕ) (at x : ℕ) → set s at (x % 256) ≡ put s at (low_bytes 1 x)
unfolding put low_bytes
put_1 s at x = refl

pub put_4 : (s : List ℕ) (at a b c d : ℕ) → set (set (set (set s at a) (at + 1) b) (at + 2) c) (at + 3) d ≡ put s at (a ∷ b ∷ c ∷ d ∷ [])
unfolding put
put_4 s at a b c d =
    let e₁ : at + 1 ≡ suc at = omega arith in
    let e₂ : at + 2 ≡ suc (suc at) = omega arith in
    let e₃ : at + 3 ≡ suc (suc (suc at)) = omega arith in
    rw (e₁, e₂, e₃)
