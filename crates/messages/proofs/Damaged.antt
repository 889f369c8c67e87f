-- A damaged message is refused with 3: it has 14 bytes still, and one wrong bit leaves no remainder 0.
-- Assumes nothing.
use Rattle.std.specs.Prelude.{Err}
use Prim.Native.Nat.{ℕ}
use mathlib.Core.Path.{◌≡◌, ap, ◌∙◌}
use mathlib.Core.Bool.{true, false, not}
use mathlib.Core.List.{List}
use lib.Dec.{eqb}
use lib.ListN.{length}
use borrow.Author.Tests.{eqb-true, eq-eqb, ne_eqb, not-false}
use Rattle.refusals.specs.declared.Refusal.TheVariants.{Parity}
use Rattle.parity.specs.Parity.{remainder}
use Rattle.parity.proofs.Flipped.{flipped_length, one_wrong_bit}
use Rattle.messages.specs.Accepted.{Acceptable}
use Rattle.messages.specs.Damaged.{Damaged}
use Rattle.messages.specs.Message.{decoded}
use Rattle.messages.specs.Said.{earns1, earns3}
use Rattle.messages.proofs.Exactly.{accepted_exactly}

module _ (s : List ℕ) (a : Acceptable s) where
  long : length s ≡ 14
  long = eqb-true (length s) 14 (not-false (eqb (length s) 14) ((accepted_exactly s).0 a).0)

  divided : remainder s ≡ 0
  divided = eqb-true (remainder s) 0 (not-false (eqb (remainder s) 0) ((accepted_exactly s).0 a).1)

module _ (message : List ℕ) (d : Damaged message) where
  pub damaged_long : earns1 message ≡ false
  damaged_long = ap not (eq-eqb (length message) 14 (ap length d.heard ∙ flipped_length d.bit d.sent ∙ long d.sent d.acceptable))

  pub damaged_earns_3 : earns3 message ≡ true
  damaged_earns_3 =
      ap not (ap (λ (s : List ℕ). eqb (remainder s) 0) d.heard
      ∙ ne_eqb _ 0 (one_wrong_bit d.bit d.sent (long d.sent d.acceptable) (divided d.sent d.acceptable) d.from d.to))

  pub damaged_is_3 : decoded message ≡ Err Parity
  damaged_is_3 = rw (damaged_long, damaged_earns_3)
