-- What the contracts of `decode` and `accept` promise in the rules' terms: whatever meets one says the table's number or values. The definitions of specs/Said
-- carry each case of the answer over.
-- Assumes nothing.
use mathlib.Core.Path.{◌≡◌, ap, ◌∙◌}
use contract.Lifetimes.{Lfts}
use denote.Triple.Clauses.{AtExit}
use borrow.Fn.Kinds.{Dens, res_t, ended_of}
use Rattle.messages.specs.Said.{said, accepted_said, table, accept_table}
use Rattle.messages.proofs.Acceptance.{accept_says_the_table}
use Rattle.messages.proofs.Exactly.{says_the_table}
use Rattle.messages.proofs.accept.Kinds as accept-kinds
use Rattle.messages.proofs.accept.Reads as accept
use Rattle.messages.proofs.decode.Kinds as decode-kinds
use Rattle.messages.proofs.decode.Reads as decode

pub decode_promised : (κs : Lfts 1) (args : Dens κs decode-kinds.ps) (x : (res_t decode-kinds.r κs).Denot)
    (left : AtExit (ended_of 1 decode-kinds.ps decode-kinds.r) κs) → decode.Post κs args x left → said x ≡ table args.0.now
decode_promised κs args x left p = ap said p ∙ says_the_table args.0.now

pub accept_promised : (κs : Lfts 1) (args : Dens κs accept-kinds.ps) (x : (res_t accept-kinds.r κs).Denot)
    (left : AtExit (ended_of 1 accept-kinds.ps accept-kinds.r) κs) → accept.Post κs args x left → accepted_said x ≡ accept_table args.0.now
accept_promised κs args x left p = ap accepted_said p ∙ accept_says_the_table args.0.now
