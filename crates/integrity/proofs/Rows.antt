-- The code's tables say what the published rows say: at all TYPEs, in the three tables and with all supplements by one computed test, in which the answer is one more than the number, and 0 for none.
-- Assumes nothing.
use Prim.Native.Nat.{ℕ, suc, ◌<◌}
use mathlib.Core.Path.{◌≡◌, refl}
use mathlib.Core.Bool.{Bool, true, false, cond, ◌&&◌}
use mathlib.Core.List.{List, [], ◌∷◌}
use native.Mathlib.Omega.{arith}
use lib.Dec.{T, eqb, eqb→eq}
use lib.ListN.{get_or}
use Rattle.fields.proofs.Tables.{at}
use Rattle.layouts.specs.Layouts.{is_position}
use Rattle.integrity.specs.declared.standard.Bits.{Bits}
use Rattle.integrity.specs.declared.Integrity.TheVariants.{Unknown, Nuc, Nic}
use Rattle.integrity.specs.Integrity.{integrity_by}
use Rattle.integrity.specs.Tables.{Row, nuc_rows, nic_rows1, nic_rows2, lowest, with_these, of_type, in_table}
use Rattle.integrity.specs.Code.{nucs, nic1, nic2}

-- ---- whatever a number and none are answered by

found : {X : Type 0} (number : ℕ → X) (none : X) (l m : List ℕ) (n : ℕ) → lowest suc l (lowest suc m 0) ≡ suc n → lowest number l (lowest number m none) ≡ number n
found number none [] [] n e = absurd (let z : ⊥ = omega arith in z)
found number none [] (x ∷ xs) n e = cc
found number none (x ∷ xs) m n e = cc

absent : {X : Type 0} (number : ℕ → X) (none : X) (l m : List ℕ) → lowest suc l (lowest suc m 0) ≡ 0 → lowest number l (lowest number m none) ≡ none
absent number none [] [] e = refl
absent number none [] (x ∷ xs) e = absurd (let z : ⊥ = omega arith in z)
absent number none (x ∷ xs) m e = absurd (let z : ⊥ = omega arith in z)

-- a table gives the number n of a TYPE that is a position message's, and else none
pub any_answer : {X : Type 0} (number : ℕ → X) (none : X) (rows : List Row) (k : ℕ) (s : Bits) (n : ℕ)
    → in_table suc rows k s 0 ≡ cond (is_position k) (suc n) 0 → in_table number rows k s none ≡ cond (is_position k) (number n) none
unfolding in_table
any_answer number none rows k s n = by_position (is_position k)
  where
    by_position : (t : Bool) → lowest suc (with_these k s rows) (lowest suc (of_type k rows) 0) ≡ cond t (suc n) 0
        → lowest number (with_these k s rows) (lowest number (of_type k rows) none) ≡ cond t (number n) none
    by_position true e = found number none (with_these k s rows) (of_type k rows) n e
    by_position false e = absent number none (with_these k s rows) (of_type k rows) e

-- ---- the test

agrees : List Row → ℕ → Bits → ℕ → Bool
agrees rows k s n = eqb (in_table suc rows k s 0) (cond (is_position k) (suc n) 0)

right : ℕ → Bits → Bool
right k s = agrees nuc_rows k s (get_or nucs k 0) && (agrees nic_rows1 k s (nic1 k s) && agrees nic_rows2 k s (nic2 k s))

pub left : (a b : Bool) → T (a && b) → T a
left true b t = tt
left false b t = absurd t

pub rest : (a b : Bool) → T (a && b) → T b
rest true b t = t
rest false b t = absurd t

-- a test at 0 and at 1
unfoldable pub twice : (Bool → Bool) → Bool
twice f = f true && f false

at_either : (f : Bool → Bool) → T (twice f) → (a : Bool) → T (f a)
unfolding twice
at_either f t true = left (f true) (f false) t
at_either f t false = rest (f true) (f false) t

abbrev pub bits : Bool → Bool → Bool → Bits
bits a b c = record { a = a; b = b; c = c }

-- .. and with all supplements
unfoldable pub with_all : (Bits → Bool) → Bool
with_all f = twice (λ a. twice (λ b. twice (λ c. f (bits a b c))))

pub at_all : (f : Bits → Bool) → T (with_all f) → (s : Bits) → T (f s)
unfolding with_all
at_all f t s =
    at_either (λ c. f (bits s.a s.b c))
    (at_either (λ b. twice (λ c. f (bits s.a b c)))
    (at_either (λ a. twice (λ b. twice (λ c. f (bits a b c)))) t s.a) s.b) s.c

test : ℕ → ℕ → Bool
test k x = with_all (right k)

passed : (k : ℕ) → k < 32 → T (with_all (right k))
unfolding test with_all twice right agrees in_table nic1 nic2
passed k h = at test nucs tt k h

all_right : (k : ℕ) → k < 32 → (s : Bits) → T (right k s)
all_right k h s = at_all (right k) (passed k h) s

-- ---- what it shows

agreed : (rows : List Row) (k : ℕ) (s : Bits) (n : ℕ) → T (agrees rows k s n) → in_table suc rows k s 0 ≡ cond (is_position k) (suc n) 0
unfolding agrees
agreed rows k s n t = eqb→eq (in_table suc rows k s 0) (cond (is_position k) (suc n) 0) t

pub each_row : (k : ℕ) → k < 32 → (s : Bits)
    → (in_table suc nuc_rows k s 0 ≡ cond (is_position k) (suc (get_or nucs k 0)) 0)
    × (in_table suc nic_rows1 k s 0 ≡ cond (is_position k) (suc (nic1 k s)) 0)
    × (in_table suc nic_rows2 k s 0 ≡ cond (is_position k) (suc (nic2 k s)) 0)
unfolding right
each_row k h s =
    let nuc : Bool = agrees nuc_rows k s (get_or nucs k 0) in
    let one : Bool = agrees nic_rows1 k s (nic1 k s) in
    let two : Bool = agrees nic_rows2 k s (nic2 k s) in
    let nics : T (one && two) = rest nuc (one && two) (all_right k h s) in (
      agreed nuc_rows k s (get_or nucs k 0) (left nuc (one && two) (all_right k h s)),
      agreed nic_rows1 k s (nic1 k s) (left one two nics),
      agreed nic_rows2 k s (nic2 k s) (rest one two nics),
    )

-- ---- and so the integrity is what the code answers: unknown of a TYPE that is no position message's, and else by the version

nothing : {X : Type 0} (u : X) (a b c : Bool) → cond a u (cond b u (cond c u u)) ≡ u
nothing u true b c = refl
nothing u false true c = refl
nothing u false false true = refl
nothing u false false false = refl

-- of any four answers by the version
position_first : {X : Type 0} (u x y z : X) (p a b c : Bool) → cond a (cond p x u) (cond b (cond p y u) (cond c (cond p z u) u)) ≡ cond p (cond a x (cond b y (cond c z u))) u
position_first u x y z true a b c = refl
position_first u x y z false a b c = nothing u a b c

module _ (v k : ℕ) (h : k < 32) (s : Bits) where
  pub by_version : integrity_by Unknown Nuc Nic v k s
      ≡ cond (is_position k) (cond (eqb v 0) (Nuc (get_or nucs k 0)) (cond (eqb v 1) (Nic (nic1 k s)) (cond (eqb v 2) (Nic (nic2 k s)) Unknown))) Unknown
  by_version =
      let r = each_row k h s in
      rw (
        any_answer Nuc Unknown nuc_rows k s (get_or nucs k 0) r.0,
        any_answer Nic Unknown nic_rows1 k s (nic1 k s) r.1,
        any_answer Nic Unknown nic_rows2 k s (nic2 k s) r.2,
      ) (position_first Unknown (Nuc (get_or nucs k 0)) (Nic (nic1 k s)) (Nic (nic2 k s)) (is_position k) (eqb v 0) (eqb v 1) (eqb v 2))
