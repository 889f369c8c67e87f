-- What the contract of `encode` promises in the rules' terms: whatever meets it says 1, then 8, or the message's bytes.
-- Assumes nothing.
use mathlib.Core.Path.{◌≡◌, ap₂, ◌∙◌}
use mathlib.Core.Bool.{cond, not}
use contract.Lifetimes.{Lfts}
use denote.Triple.Clauses.{AtExit}
use borrow.Fn.Kinds.{Dens, res_t, ended_of}
use lib.Dec.{eqb}
use lib.ListN.{length}
use Rattle.refusals.specs.Said.{number, gives}
use Rattle.messages.specs.Message.{message_fits, message_bytes}
use Rattle.encoder.specs.Encoded.{wrote}
use Rattle.encoder.proofs.Exactly.{encoder_says}
use Rattle.encoder.proofs.encode.Kinds as encode-kinds
use Rattle.encoder.proofs.encode.Reads as encode

pub encode_promised : (κs : Lfts 1) (args : Dens κs encode-kinds.ps) (x : (res_t encode-kinds.r κs).Denot)
    (left : AtExit (ended_of 1 encode-kinds.ps encode-kinds.r) κs) → encode.Post κs args x left
    → wrote x left.1.0.now ≡ cond (not (eqb (length args.1.0.now) 14)) (number 1) (cond (not (message_fits args.0)) (number 8) (gives (message_bytes args.0)))
encode_promised κs args x left p = ap₂ wrote p.0 p.1 ∙ encoder_says args.0 args.1.0.now
