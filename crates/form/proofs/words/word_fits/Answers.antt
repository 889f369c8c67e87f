-- `form::words::word_fits` meets its contract: by the sort.
use mathlib.Core.Path.{◌≡◌, sym, ap, ◌∙◌}
use mathlib.Core.Bool.{Bool}
use mathlib.Core.List.{List}
use Prim.Native.Nat.{ℕ}
use Rattle.form.specs.Form.{fits}
use Rattle.form.specs.Code.{sort_of}
use Rattle.form.specs.declared.words.Sort as code
use Rattle.form.proofs.words.word_fits.Goals as goal

by_sort : (w : List ℕ) {sort : code.Sort} (k : code.Sort) {r : Bool} → sort ≡ k → r ≡ fits (sort_of k) w → r ≡ fits (sort_of sort) w
by_sort w k e p = p ∙ sym (ap (λ (x : code.Sort). fits (sort_of x) w) e)

pub returns-in-Kind : goal.returns-in-Kind
unfolding fits
returns-in-Kind c = by_sort _ _ c.in-Kind.is c.is_kind.ensures

pub returns-in-Coarse : goal.returns-in-Coarse
unfolding fits
returns-in-Coarse c = by_sort _ _ c.in-Coarse.is c.is_coarse.ensures

pub returns-in-Address : goal.returns-in-Address
unfolding fits
returns-in-Address c = by_sort _ _ c.in-Address.is c.is_address.ensures

pub returns-in-Figure : goal.returns-in-Figure
unfolding fits
returns-in-Figure c = by_sort _ _ c.in-Figure.is c.is_figure.ensures

pub returns-in-Clock : goal.returns-in-Clock
unfolding fits
returns-in-Clock c = by_sort _ _ c.in-Clock.is c.same.ensures

pub returns-in-Tracks : goal.returns-in-Tracks
unfolding fits
returns-in-Tracks c = by_sort _ _ c.in-Tracks.is c.same-in-Tracks.ensures

pub returns-in-BadBlocks : goal.returns-in-BadBlocks
unfolding fits
returns-in-BadBlocks c = by_sort _ _ c.in-BadBlocks.is c.same-in-BadBlocks.ensures
