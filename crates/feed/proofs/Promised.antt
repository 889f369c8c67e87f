-- What the contracts promise in the rules' terms: whatever meets the contract of `feed` or of `feed_block` says how many blocks are bad, or 7. The definition of specs/Said
-- carries each case of the answer over.
-- Assumes nothing.
use Rattle.std.specs.Prelude.{Result, Ok, Err}
use Prim.Native.Nat.{ℕ}
use mathlib.Core.Path.{◌≡◌, refl, ap, ◌∙◌}
use mathlib.Core.Bool.{Bool, true, false, cond, not}
use mathlib.Core.List.{List}
use contract.Lifetimes.{Lfts}
use denote.Triple.Clauses.{AtExit}
use borrow.Fn.Kinds.{Dens, res_t, ended_of}
use lib.ListN.{length}
use Rattle.refusals.specs.declared.Refusal.TheVariants.{Places}
use Rattle.refusals.specs.Said.{Said, number, gives}
use Rattle.capture.specs.Block.{good}
use Rattle.memory.specs.Offsets.{whole_places}
use Rattle.table.specs.Table.{After, after}
use Rattle.feed.specs.Feed.{blocks_in, bad_in, counted, fed, fed_block}
use Rattle.feed.specs.Said.{fed_said}
use Rattle.feed.proofs.feed.Kinds as feed-kinds
use Rattle.feed.proofs.feed.Reads as feed
use Rattle.feed.proofs.feed_block.Kinds as feed-block-kinds
use Rattle.feed.proofs.feed_block.Reads as feed-block
use Rattle.refusals.specs.declared.Refusal.{Refusal}

abbrev said_after : After (Result ℕ Refusal) → Said ℕ
said_after x = fed_said x.answer

says : (t : Bool) (s l : List ℕ) (n : ℕ) → said_after (cond t (after (Err Places) s) (after (Ok n) l)) ≡ cond t (number 7) (gives n)
says true s l n = refl
says false s l n = refl

fed_says : (s c : List ℕ) → said_after (fed s c) ≡ cond (not (whole_places (length s))) (number 7) (gives (bad_in c (blocks_in c)))
unfolding fed
fed_says s c = says (not (whole_places (length s))) s _ (bad_in c (blocks_in c))

block_says : (s b : List ℕ) (n : ℕ) → said_after (fed_block s b n) ≡ cond (not (whole_places (length s))) (number 7) (gives (counted n (good b)))
unfolding fed_block
block_says s b n = says (not (whole_places (length s))) s _ (counted n (good b))

pub feed_promised : (κs : Lfts 2) (args : Dens κs feed-kinds.ps) (x : (res_t feed-kinds.r κs).Denot)
    (left : AtExit (ended_of 2 feed-kinds.ps feed-kinds.r) κs) → feed.Post κs args x left
    → fed_said x ≡ cond (not (whole_places (length args.0.now))) (number 7) (gives (bad_in args.1.0.now (blocks_in args.1.0.now)))
feed_promised κs args x left p = ap said_after p ∙ fed_says args.0.now args.1.0.now

pub feed_block_promised : (κs : Lfts 2) (args : Dens κs feed-block-kinds.ps) (x : (res_t feed-block-kinds.r κs).Denot)
    (left : AtExit (ended_of 2 feed-block-kinds.ps feed-block-kinds.r) κs) → feed-block.Post κs args x left
    → fed_said x ≡ cond (not (whole_places (length args.0.now))) (number 7) (gives (counted args.1.1.0 (good args.1.0.now)))
feed_block_promised κs args x left p = ap said_after p ∙ block_says args.0.now args.1.0.now args.1.1.0
