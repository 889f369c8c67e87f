-- A table's bodies, as the code finds them: arithmetic over the definitions.
-- Assumes nothing.
use Prim.Native.Nat.{ℕ, ◌+◌, ◌-◌, ◌<◌}
use native.Mathlib.Omega.{arith}
use native.Mathlib.Numerals.{add-one}
use mathlib.Core.Bool.{Bool, true, false, not}
use mathlib.Core.Path.{◌≡◌, ap, sym, ◌∙◌}
use mathlib.Core.List.{List, [], ◌∷◌, ◌++◌}
use lib.ListN.{length, take, drop, set, replicate, replicate-append-replicate}
use lib.Seq.{take-suc-set, take-length}
use borrow.Author.Tests.{not-false}
use Rattle.memory.specs.Offsets.{body_size, body_start, whole_places}
use Rattle.table_bytes.specs.Layout.{body_at}

-- a table's length that has passed the test
pub whole : (l : ℕ) {t : Bool} → t ≡ whole_places l → not t ≡ false → whole_places l ≡ true
whole l {t} e f = sym e ∙ not-false t f

-- a body, from its start to its end
pub body_part : (s : List ℕ) (n i : ℕ) → take (body_start n i + body_size - body_start n i) (drop (body_start n i) s) ≡ body_at s n i
unfolding body_at
body_part s n i =
    let e : body_start n i + body_size - body_start n i ≡ body_size = omega arith in
    rw e

-- ---- emptied from the front on

pub clear_more : (s : List ℕ) (i : ℕ) → i < length s → take i s ≡ replicate i 0 → take (i + 1) (set s i 0) ≡ replicate (i + 1) 0
clear_more s i h e =
    ap (λ (n : ℕ). take n (set s i 0)) (add-one i)
    ∙ take-suc-set s i 0 h
    ∙ ap (λ (l : List ℕ). l ++ (0 ∷ [])) e
    ∙ replicate-append-replicate i 1 0

pub cleared : (s : List ℕ) (i n : ℕ) → i ≡ length s → n ≡ length s → take i s ≡ replicate i 0 → s ≡ replicate n 0
cleared s i n p q e = sym (take-length s) ∙ rw (← p) e ∙ ap (λ (m : ℕ). replicate m 0) (p ∙ sym q)
