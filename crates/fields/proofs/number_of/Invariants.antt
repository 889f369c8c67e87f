-- `fields::number_of` meets its contract: the number so far is that of the bytes passed, modulo 2^64.
use Prim.Native.Nat.{◌%◌, ◌^◌}
use mathlib.Core.Path.{◌≡◌}
use lib.ListN.{take}
use Rattle.fields.specs.Bytes.{number}
use Rattle.fields.proofs.number_of.Given as goal

abbrev pub invariant-loop-x : goal.invariant-loop-x
invariant-loop-x l = l.n ≡ number (take l.x-index l.s) % 2 ^ 64
