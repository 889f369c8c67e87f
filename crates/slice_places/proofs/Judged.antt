-- The last way through a judgement: no test passes, and the decoder says.
-- Assumes nothing.
use Rattle.std.specs.Prelude.{Result}
use Prim.Native.Nat.{ℕ, ◌≤◌}
use mathlib.Core.Bool.{Bool, true, false, cond, not}
use mathlib.Core.Path.{◌≡◌, ap, ◌∙◌}
use mathlib.Core.List.{List}
use lib.ListN.{length}
use borrow.Author.Tests.{le-ltb, eq-eqb}
use Rattle.messages.specs.Message.{decoded}
use Rattle.slice_places.specs.declared.Head.{Head}
use Rattle.slice_places.specs.declared.arrivals.Received.{Received}
use Rattle.slice_places.specs.Head.{places_fit, moved}
use Rattle.slice_places.specs.Arrivals.{judged}
use Rattle.messages.specs.declared.Message.{Message}
use Rattle.refusals.specs.declared.Refusal.{Refusal}

-- no test of three passes
last_of : {A : Type 0} {a b c : Bool} (w x y z : A) → a ≡ false → b ≡ false → c ≡ false → z ≡ cond a w (cond b x (cond c y z))
last_of w x y z p q r = rw (p, q, r)

pub judged_on : (n : ℕ) (head : Head) (message : List ℕ) (time : ℕ) {r : Result Message Refusal} → length message ≡ 14 → places_fit n ≡ true → head.clock ≤ time → r ≡ decoded message
    → ◌≡◌ {A = Received} (record { answer = r; head = moved head time }) (judged n head message time)
unfolding judged
judged_on n head message time l f h e =
    ap (λ (x : Result Message Refusal). record { answer = x; head = moved head time }) e
    ∙ last_of _ _ _ _ (ap not (eq-eqb (length message) 14 l)) (ap not f) (le-ltb time head.clock h)
