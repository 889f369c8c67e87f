-- What a reader gives turn by turn: after k turns from the first record it stands at the lesser of k and 23, and from 23 on every block has ended.
-- Assumes nothing.
use Rattle.std.specs.Prelude.{Some, None}
use Prim.Native.Nat.{ℕ, zero, suc, ◌+◌, ◌*◌, ◌<◌, ◌≤◌, min}
use mathlib.Core.Path.{◌≡◌, refl, sym, ap, ◌∙◌}
use mathlib.Core.Bool.{Bool, true, false}
use mathlib.Core.List.{List}
use native.Mathlib.Omega.{arith}
use borrow.Author.Tests.{ltb-true, ltb-false}
use lib.Dec.{ltb}
use denote.Ref.{Bor}
use Rattle.fields.proofs.Bools.{by_test}
use Rattle.capture.specs.Block.{count_of, time_of, good, at, record_of}
use Rattle.capture.specs.Reader.{begun, gives, after_of, turned, turns}
use Rattle.capture.specs.declared.Reader.{Reader}
use Rattle.capture.proofs.Records.{good_at, count_ended, past_ended, ended_on}

-- the block stays
pub same_block : (k : ℕ) (r : Reader) → (turns k r).block ≡ r.block
same_block zero r = refl
same_block (suc k) r = same_block k r

after_min : (k at : ℕ) → at ≡ min k 23 → after_of at ≡ min (suc k) 23
after_min k at e =
    by_test (λ (n : ℕ). n ≡ min (suc k) 23) (ltb at 23) (at + 1) at
    (λ t. omega (arith, e, ltb-true at 23 t))
    (λ t. omega (arith, e, ltb-false at 23 t))

-- where the reader stands after k turns
pub stands : (b : Bor (List ℕ)) (k : ℕ) → (turns k (begun b)).at ≡ min k 23
stands b zero = omega arith
stands b (suc k) = after_min k (turns k (begun b)).at (stands b k)

same_record : (b : List ℕ) (k at : ℕ) → at ≡ min k 23 → (t : Bool) → ltb k 23 ≡ t → record_of b at ≡ record_of b k
same_record b k at e true t = ap (record_of b) (omega (arith, e, ltb-true k 23 t))
same_record b k at e false t = past_ended b at (omega (arith, e, ltb-false k 23 t)) ∙ sym (past_ended b k (ltb-false k 23 t))

-- after k turns a reader gives the record k
pub after_turns : (b : Bor (List ℕ)) (k : ℕ) → gives (turns k (begun b)) ≡ record_of b.now k
after_turns b k =
    ap (λ (x : Bor (List ℕ)). record_of x.now (turns k (begun b)).at) (same_block k (begun b))
    ∙ same_record b.now k (turns k (begun b)).at (stands b k) _ refl

-- so of a good block it gives as many records as the count says, and then says that it has ended
pub reader_gives : (b : Bor (List ℕ)) (k : ℕ) → good b.now ≡ true → k < count_of b.now → gives (turns k (begun b)) ≡ Some (at (time_of b.now k) (3 + 22 * k + 8))
reader_gives b k e h = after_turns b k ∙ good_at b.now k e h

pub reader_ends : (b : Bor (List ℕ)) (k : ℕ) → count_of b.now ≤ k → gives (turns k (begun b)) ≡ None
reader_ends b k h = after_turns b k ∙ count_ended b.now k h

after_on : (i : ℕ) → i ≤ after_of i
after_on i = by_test (λ (n : ℕ). i ≤ n) (ltb i 23) (i + 1) i (λ t. omega arith) (λ t. omega arith)

-- a reader that has ended, wherever it stands, stays so
pub ended_stays : (r : Reader) → gives r ≡ None → gives (turned r) ≡ None
ended_stays r e = ended_on r.block.now r.at (after_of r.at) (after_on r.at) e
