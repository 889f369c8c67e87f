-- Two antennas, one instant, of both forms of the table. The listing of the lent bytes is a function of the clock and of each key's track, and in any bytes what is held fits.
-- Assumes nothing.
use Rattle.std.specs.Prelude.{Option}
use Prim.Native.Nat.{ℕ, zero, suc}
use mathlib.Core.Bool.{Bool}
use mathlib.Core.Path.{◌≡◌, refl, sym, ap, ap₂, ◌∙◌}
use mathlib.Core.List.{List, ◌++◌}
use lib.ListN.{length}
use Rattle.keys.specs.Keys.{end_of_keys}
use Rattle.track.specs.declared.Track.{Track}
use Rattle.text.specs.declared.Row.{Row}
use Rattle.text.specs.Lines.{header_text}
use Rattle.rules.specs.Rules.{received}
use Rattle.table_bytes.specs.Layout.{clock_of}
use Rattle.table.specs.Bytes.{bytes}
use Rattle.table.specs.View.{view}
use Rattle.table.proofs.Lawful.{bytes_lawful, all_fit}
use Rattle.report.specs.Listing.{row_for, as_list, rows_in, texts, header_for, listing}
use Rattle.report.specs.Walked.{rows_below}
use Rattle.report.proofs.Gathered.{rows_walked}
use Rattle.slice_table.specs.Slice.{slice}
use Rattle.slice_table.proofs.Lawful.{slice_lawful}
use Rattle.merging.specs.Orders.{SameListing, Merges, TwoAntennas}
use Rattle.merging.proofs.Instant.{merges}

module _ (x y : List ℕ) (tracks : (key : ℕ) → view x key ≡ view y key) where
  rows_same : (all : Bool) (k : ℕ) → rows_below all x k ≡ rows_below all y k
  unfolding rows_below
  rows_same all zero = refl
  rows_same all (suc k) = ap₂ (λ (l r : List Row). l ++ r) (rows_same all k) (ap (λ (v : Option Track). as_list (row_for all k v)) (tracks k))

  all_same : (all : Bool) → rows_in all x ≡ rows_in all y
  all_same all = rows_walked x all ∙ rows_same all end_of_keys ∙ sym (rows_walked y all)

  listing_same : clock_of x ≡ clock_of y → SameListing x y
  unfolding listing header_for
  listing_same e all bad = ap₂ (λ (c : ℕ) (rows : List Row). header_text c (length rows) bad ++ texts rows) e (all_same all)

pub two_antennas : TwoAntennas (received bytes)
two_antennas s b a c g =
    let e = merges bytes bytes_lawful s (all_fit s b) a c g in
    (e, listing_same _ _ e.tracks e.clock)

pub slice_antennas : Merges slice (received slice)
slice_antennas = merges slice slice_lawful
