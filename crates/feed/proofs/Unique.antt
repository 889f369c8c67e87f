-- Each public function has one answer: two that satisfy its contract both equal its definition. The answer is with what the table holds afterwards.
-- Assumes nothing.
use Rattle.std.specs.Prelude.{Result, ℕ}
use mathlib.Core.Path.{sym, ◌∙◌}
use Rattle.refusals.specs.Answers.{OneAnswer, OneOutcome}
use Rattle.table.specs.Table.{After, after}
use Rattle.feed.proofs.feed.Kinds as feed-kinds
use Rattle.feed.proofs.feed.Reads as feed
use Rattle.feed.proofs.feed_block.Kinds as feed-block-kinds
use Rattle.feed.proofs.feed_block.Reads as feed-block
use Rattle.feed.proofs.records_in.Kinds as records-in-kinds
use Rattle.feed.proofs.records_in.Reads as records-in
use Rattle.refusals.specs.declared.Refusal.{Refusal}

pub feed_once : OneOutcome 2 feed-kinds.ps feed-kinds.r (After (Result ℕ Refusal)) (λ κs x left. after x left.0.now) feed.Post
feed_once κs args x y left left' p q = p ∙ sym q

pub feed_block_once : OneOutcome 2 feed-block-kinds.ps feed-block-kinds.r (After (Result ℕ Refusal)) (λ κs x left. after x left.0.now) feed-block.Post
feed_block_once κs args x y left left' p q = p ∙ sym q

pub records_in_once : OneAnswer 1 records-in-kinds.ps records-in-kinds.r records-in.Post
records_in_once κs args x y left left' p q = p ∙ sym q
