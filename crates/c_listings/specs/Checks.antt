-- RULES 14: a check as C sees it. It says yes or names the first line at fault. Ours is what the program "listing" prints with all tracks asked for. Our own listing always gets yes.
use Rattle.std.specs.Prelude.{ℕ, suc, ◌^◌, ◌≤◌, ◌<◌, true, false, ◌≡◌, ◌↔◌, List, [], ◌∷◌, length}
use Rattle.refusals.specs.Numbers.{most_records}
use Rattle.memory.specs.Offsets.{table_size}
use Rattle.entries.specs.Sent.{Sent, sent}
use Rattle.addercoil.specs.Blocks.{Both}
use Rattle.feed.specs.Feed.{blocks_in, block_at}
use Rattle.form.specs.Form.{in_form}
use Rattle.compare.specs.Compared.{records_of}
use Rattle.compare.specs.Right as compare
use Rattle.c_promises.specs.Calls.{SetUp}
use Rattle.c_listings.specs.Calls.{FeedBlock, Check}
use Rattle.c_listings.specs.Prints.{Prints}

-- the first so many blocks of a capture were fed in turn, from a table and the count 0: the table and the count that they left
pub data Fed (table capture : List ℕ) : ℕ → List ℕ → ℕ → Type 0 where
  none_fed : Fed table capture 0 table 0
  one_fed : {blocks bad bad' : ℕ} {before out : List ℕ} {back : Both} → Fed table capture blocks before bad → FeedBlock before (block_at capture blocks) bad out back → back.sent ≡ sent 0 (bad' ∷ [])
      → Fed table capture (suc blocks) back.table bad'

-- our own listing of a capture: a table of 256 places, set up without a site and fed with its blocks, printed with all tracks asked for
pub record OurListing (capture text : List ℕ) : Type 0 where
  pub lent : List ℕ
  pub long : length lent ≡ table_size 256
  pub back : Sent
  pub begun : SetUp lent back
  pub done : back.number ≡ 0
  pub table : List ℕ
  pub bad : ℕ
  pub fed : Fed back.array capture (blocks_in capture) table bad
  pub printed : Prints table bad 1 text

-- it gets yes, which is 0, of every capture within the bound; as any array it has fewer than 2^64 bytes
abbrev pub OwnYes : Type 0
OwnYes =
    (capture text : List ℕ) → length capture < 2 ^ 64 → records_of capture ≤ most_records → OurListing capture text
    → (out : List ℕ) (back : Sent) → length out ≡ 1 → Check capture text out back → back ≡ sent 0 (0 ∷ [])

-- yes exactly when RULES 14.4 says so
abbrev pub YesExactly : Type 0
YesExactly = (capture text out : List ℕ) (back : Sent) → length out ≡ 1 → Check capture text out back → back ≡ sent 0 (0 ∷ []) ↔ compare.Right capture text

-- another number that is written is that of the first line at fault, and no other line is
abbrev pub FaultFirst : Type 0
FaultFirst =
    (capture text out : List ℕ) (line : ℕ) → (line ≡ 0 → ⊥) → Check capture text out (sent 0 (line ∷ []))
    → compare.Faulty capture text line × ((other : ℕ) → compare.Faulty capture text other → other ≡ line)

-- 14 exactly for too many records, then 16 exactly for a text that is not in the form; nothing is written then
abbrev pub FourteenThenSixteen : Type 0
FourteenThenSixteen =
    (capture text out : List ℕ) (back : Sent) → length out ≡ 1 → Check capture text out back
    → (back ≡ sent 14 out ↔ most_records < records_of capture) × (back ≡ sent 16 out ↔ (records_of capture ≤ most_records) × (in_form text ≡ false))

-- within the bound and in the form it says yes or names a line: it returns 0, and writes one number
abbrev pub YesOrALine : Type 0
YesOrALine =
    (capture text out : List ℕ) (back : Sent) → length out ≡ 1 → Check capture text out back → records_of capture ≤ most_records → in_form text ≡ true
    → (line : ℕ) × (back ≡ sent 0 (line ∷ []))
