-- Laws of text in a buffer: nothing, one byte, and one text after the other, by the laws of storing a list in a list.
-- Assumes nothing.
use Prim.Native.Nat.{ℕ, suc, ◌+◌, ◌≤◌}
use mathlib.Core.Path.{◌≡◌, refl, sym, ap, ap₂, ◌∙◌}
use mathlib.Core.List.{List, [], ◌∷◌, ◌++◌}
use native.Mathlib.Nat.{add-zero}
use native.Mathlib.Omega.{arith}
use lib.ListN.{length, drop, set, length-append}
use lib.Seq.{sets, sets-eq}
use Rattle.text.specs.Code.{written, Wrote}

sets_then : (vs l : List ℕ) (i : ℕ) (ws : List ℕ) → sets (sets l i vs) (i + length vs) ws ≡ sets l i (vs ++ ws)
sets_then [] l i ws = ap (λ (k : ℕ). sets l k ws) (add-zero i)
sets_then (v ∷ vs) l i ws =
    let e : i + suc (length vs) ≡ suc i + length vs = omega arith in
    ap (λ (k : ℕ). sets (sets (set l i v) (suc i) vs) k ws) e ∙ sets_then vs (set l i v) (suc i) ws

pub wrote_none : (s : List ℕ) (at : ℕ) → Wrote s at [] at s
unfolding written
wrote_none s at = record { next = sym (add-zero at); text = refl }

pub wrote_byte : (s : List ℕ) (at b : ℕ) → Wrote s at (b ∷ []) (at + 1) (set s at b)
unfolding written
wrote_byte s at b = record { next = refl; text = refl }

pub wrote_then : {s : List ℕ} {at : ℕ} {vs : List ℕ} {a : ℕ} {l ws : List ℕ} {b : ℕ} {m : List ℕ} → Wrote s at vs a l → Wrote l a ws b m → Wrote s at (vs ++ ws) b m
unfolding written
wrote_then {s} {at} {vs} {a} {l} {ws} p q = record {
  next = omega (arith, p.next, q.next, length-append vs ws);
  text = q.text ∙ ap₂ (λ (x : List ℕ) (k : ℕ). sets x k ws) p.text p.next ∙ sets_then vs s at ws;
}

-- the same text
pub wrote_as : {s : List ℕ} {at : ℕ} {vs ws : List ℕ} {a : ℕ} {l : List ℕ} → Wrote s at vs a l → vs ≡ ws → Wrote s at ws a l
wrote_as {s} {at} {vs} {ws} {a} {l} p e = rw e at p

-- a text that fits is at the buffer's start, and the rest stays
pub text_first : (s vs : List ℕ) → length vs ≤ length s → written s 0 vs ≡ vs ++ drop (length vs) s
unfolding written
text_first s vs h = sets-eq vs s 0 (omega arith) ∙ ap (λ (k : ℕ). vs ++ drop k s) (let e : 0 + length vs ≡ length vs = omega arith in e)
