-- What can be said of a program's input: there is one capture that did all of this. Which one is not said, so neither is the number of bad blocks: a block of zeros more leaves the same table. What the program prints is
-- tested; that a block is counted as it must be is the contract of `feed::feed_block`.
use Rattle.std.specs.Prelude.{ℕ, ◌*◌, ◌≡◌, List, length, Ok}
use Rattle.table.specs.Table.{after}
use Rattle.feed.specs.Feed.{fed}

-- a capture that, fed to the table s, leaves the table l and has so many bad blocks
pub record SomeFed (s : List ℕ) (bad : ℕ) (l : List ℕ) : Type 0 where
  pub capture : List ℕ
  pub leaves : after (Ok bad) l ≡ fed s capture

-- the same, of whole blocks: more of it may follow
pub record WholeFed (s : List ℕ) (bad : ℕ) (l : List ℕ) : Type 0 where
  pub capture : List ℕ
  pub blocks : ℕ
  pub size : length capture ≡ 512 * blocks
  pub leaves : after (Ok bad) l ≡ fed s capture
