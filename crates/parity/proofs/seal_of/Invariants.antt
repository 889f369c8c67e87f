-- `parity::seal_of` meets its contract: `r` is the seal of the bytes passed.
use mathlib.Core.Path.{◌≡◌}
use lib.ListN.{take}
use Rattle.parity.specs.Parity.{seal}
use Rattle.parity.proofs.seal_of.Given as goal

abbrev pub invariant-loop-byte : goal.invariant-loop-byte
invariant-loop-byte l = l.r ≡ seal (take l.byte-index l.s)
