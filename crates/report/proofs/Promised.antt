-- What the contracts promise in the rules' terms: whatever meets the contract of `header_of` says the header's text, or 7, and whatever meets that of `line_of` the text of the key's row, nothing where it has none,
-- or 7. The definitions of specs/Said carry each case of the answer over, and no text is cut off by its line.
-- Assumes nothing.
use Rattle.std.specs.Prelude.{Option, Some, None, Ok, Err}
use Prim.Native.Nat.{ℕ}
use mathlib.Core.Path.{◌≡◌, refl, ap, ◌∙◌}
use mathlib.Core.Bool.{Bool, true, false, cond}
use mathlib.Core.List.{List}
use contract.Lifetimes.{Lfts}
use denote.Triple.Clauses.{AtExit}
use borrow.Fn.Kinds.{Dens, res_t, ended_of}
use Rattle.refusals.specs.declared.Refusal.TheVariants.{Places}
use Rattle.refusals.specs.Said.{number, gives}
use Rattle.text.specs.declared.Row.{Row}
use Rattle.text.specs.Lines.{row_text, line_of}
use Rattle.text.proofs.Fits.{line_text_lem}
use Rattle.rules.specs.Said.{earns7}
use Rattle.table.specs.Bytes.{bytes}
use Rattle.table.specs.View.{view}
use Rattle.report.specs.Listing.{row_for, header_for, header_in, reported, line_in}
use Rattle.report.specs.Said.{header_said, report_said, line_due}
use Rattle.report.proofs.header_of.Kinds as header-of-kinds
use Rattle.report.proofs.header_of.Reads as header_of
use Rattle.report.proofs.line_of.Kinds as line-of-kinds
use Rattle.report.proofs.line_of.Reads as Line-of

module _ (all : Bool) (s : List ℕ) where
  header_says : (bad : ℕ) → header_said (header_in all s bad) ≡ cond (earns7 bytes s) (number 7) (gives (header_for all s bad))
  unfolding header_in
  header_says bad = by_test (earns7 bytes s) (header_for all s bad)
    where
      by_test : (t : Bool) (l : List ℕ) → header_said (cond t (Err Places) (Ok (line_of l))) ≡ cond t (number 7) (gives l)
      by_test true l = refl
      by_test false l = ap gives (line_text_lem l)

  line_says : (key : ℕ) → report_said (line_in all s key) ≡ cond (earns7 bytes s) (number 7) (gives (line_due (row_for all key (view s key))))
  unfolding line_in
  line_says key = by_test (earns7 bytes s) (row_for all key (view s key))
    where
      by_test : (t : Bool) (v : Option Row) → report_said (cond t (Err Places) (Ok (reported v))) ≡ cond t (number 7) (gives (line_due v))
      by_test true v = refl
      by_test false None = refl
      by_test false (Some r) = ap (λ (y : List ℕ). gives (Some y)) (line_text_lem (row_text r))

pub header_of_promised : (κs : Lfts 1) (args : Dens κs header-of-kinds.ps) (x : (res_t header-of-kinds.r κs).Denot)
    (left : AtExit (ended_of 1 header-of-kinds.ps header-of-kinds.r) κs) → header_of.Post κs args x left
    → header_said x ≡ cond (earns7 bytes args.0.now) (number 7) (gives (header_for args.1.1.0 args.0.now args.1.0))
header_of_promised κs args x left p = ap header_said p ∙ header_says args.1.1.0 args.0.now args.1.0

pub line_of_promised : (κs : Lfts 1) (args : Dens κs line-of-kinds.ps) (x : (res_t line-of-kinds.r κs).Denot)
    (left : AtExit (ended_of 1 line-of-kinds.ps line-of-kinds.r) κs) → Line-of.Post κs args x left
    → report_said x ≡ cond (earns7 bytes args.0.now) (number 7) (gives (line_due (row_for args.1.1.0 args.1.0 (view args.0.now args.1.0))))
line_of_promised κs args x left p = ap report_said p ∙ line_says args.1.1.0 args.0.now args.1.0
