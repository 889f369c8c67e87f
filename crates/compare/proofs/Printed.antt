-- Ours is what is printed of a table of 256 places that was set up, without a site, and fed with the capture: the header's line, then the lines of a walk with all tracks asked for, as the program `listing` does. By the
-- laws of a walk.
-- Assumes nothing.
use Rattle.std.specs.Prelude.{Result, Ok, ⊤}
use Prim.Native.Nat.{ℕ}
use mathlib.Core.Path.{◌≡◌, sym, ap, ◌∙◌}
use mathlib.Core.Bool.{true}
use mathlib.Core.List.{List, ◌++◌}
use lib.ListN.{length}
use Rattle.memory.specs.Offsets.{whole_places}
use Rattle.table.specs.Table.{after, set_up}
use Rattle.feed.specs.Feed.{blocks_in, blocks_into, bad_in, fed}
use Rattle.feed.proofs.Lengths.{blocks_length}
use Rattle.text.specs.Lines.{text_in}
use Rattle.report.specs.Listing.{header_in}
use Rattle.report.specs.Walked.{Walked, header_printed}
use Rattle.report.proofs.Walking.{walk_prints}
use Rattle.compare.specs.Compared.{table_of, bad_of, ours, zeros}
use Rattle.compare.proofs.Ways.{emptied_is, whole_emptied}
use Rattle.refusals.specs.declared.Refusal.{Refusal}

module _ (c : List ℕ) {x : Result ⊤ Refusal} {l : List ℕ} (set : after x l ≡ set_up zeros) where
  -- the table, and the number of bad blocks
  pub ours_fed : fed l c ≡ after (Ok (bad_of c)) (table_of c)
  unfolding fed table_of
  ours_fed = rw (whole_emptied c set) (ap (λ (s : List ℕ). after (Ok (bad_in c (blocks_in c))) (blocks_into s c (blocks_in c))) (emptied_is c set))

  whole_ours : whole_places (length (table_of c)) ≡ true
  unfolding table_of
  whole_ours =
      ap (λ (s : List ℕ). whole_places (length (blocks_into s c (blocks_in c)))) (sym (emptied_is c set)) ∙ ap whole_places (blocks_length l c (blocks_in c)) ∙ whole_emptied c set

  -- the text
  pub ours_printed : {n : ℕ} {text : List ℕ} → Walked true (table_of c) 0 n text → header_printed (header_in true (table_of c) (bad_of c)) ++ text ≡ ours c
  ours_printed w = walk_prints true (table_of c) whole_ours (bad_of c) w
