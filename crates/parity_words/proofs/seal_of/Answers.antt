-- `parity_words::seal_of` meets its contract: the seal is that of the remainder's three bytes.
use Prim.Native.Nat.{ℕ}
use mathlib.Core.Path.{ap, ◌∙◌}
use Rattle.fields.specs.Bytes.{bytes_of}
use Rattle.parity.specs.Parity.{seal}
use Rattle.parity_words.proofs.Words.{seal_left}
use Rattle.parity_words.proofs.seal_of.Goals as goal

pub returns : goal.returns
unfolding seal
returns c =
    c.seal_by.ensures ∙ ap (λ (q : ℕ). seal (bytes_of 3 q)) c.remainder_of.ensures ∙ seal_left c.args.s.now
