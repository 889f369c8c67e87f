-- `parity_words::remainder_of` meets its contract: the bytes passed have the remainder of the four bytes of x.
use Prim.Native.Nat.{◌+◌, ◌*◌, ◌%◌}
use mathlib.Core.Path.{◌≡◌}
use lib.ListN.{length, take}
use Rattle.fields.specs.Bytes.{bytes_of}
use Rattle.parity.specs.Parity.{remainder}
use Rattle.parity_words.proofs.remainder_of.Given as goal

abbrev pub invariant-loop-word : goal.invariant-loop-word
invariant-loop-word l = remainder (take (length l.s % 4 + 4 * l.word-index) l.s) ≡ remainder (bytes_of 4 l.x)
