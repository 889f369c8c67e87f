-- What the contracts of `body_by` and `me_of` promise in the rules' terms: whatever meets the one says 5, or the layout and the values of all fields, and whatever meets the other 8, or the 56 bits.
-- By the layouts, and by the test.
-- Assumes nothing.
use Rattle.std.specs.Prelude.{Ok, Err}
use Prim.Native.Nat.{ℕ}
use mathlib.Core.Path.{◌≡◌, refl, ap, ◌∙◌}
use mathlib.Core.Bool.{Bool, true, false, cond, not}
use contract.Lifetimes.{Lfts}
use denote.Triple.Clauses.{AtExit}
use borrow.Fn.Kinds.{Dens, res_t, ended_of}
use Rattle.refusals.specs.declared.Refusal.TheVariants.{Field}
use Rattle.refusals.specs.Said.{number, gives}
use Rattle.fields.specs.Packing.{unpack}
use Rattle.layouts.specs.Bodies.{layout_by, is_taken, layout_widths, taken_as, body_me, body_fits}
use Rattle.layouts.specs.Said.{values, taken_said, written_said, me_table, body_table}
use Rattle.layouts.specs.declared.bodies.Layout.{Layout}
use Rattle.layouts.specs.declared.bodies.Layout.TheVariants as layout
use Rattle.layouts.proofs.bodies.body_by.Kinds as body-by-kinds
use Rattle.layouts.proofs.bodies.body_by.Reads as body-by
use Rattle.layouts.proofs.bodies.me_of.Kinds as me-of-kinds
use Rattle.layouts.proofs.bodies.me_of.Reads as me-of

-- the bits read in a layout are its fields by its widths
layout_says : (l : Layout) (n : ℕ) → taken_said (taken_as l n) ≡ cond (not (is_taken l)) (number 5) (gives (values l (unpack (layout_widths l) n)))
layout_says layout.Identification n = refl
layout_says layout.Surface n = refl
layout_says layout.Airborne n = refl
layout_says layout.Ground n = refl
layout_says layout.Air n = refl
layout_says layout.Status n = refl
layout_says layout.Coarse n = refl
layout_says layout.NotTaken n = refl

pub body_by_promised : (κs : Lfts 0) (args : Dens κs body-by-kinds.ps) (x : (res_t body-by-kinds.r κs).Denot)
    (left : AtExit (ended_of 0 body-by-kinds.ps body-by-kinds.r) κs) → body-by.Post κs args x left → taken_said x ≡ me_table args.0 args.1.0
body_by_promised κs args x left p = ap taken_said p ∙ layout_says (layout_by args.0 args.1.0) args.1.0

bits_said : (t : Bool) (n : ℕ) → written_said (cond t (Ok n) (Err Field)) ≡ cond (not t) (number 8) (gives n)
bits_said true n = refl
bits_said false n = refl

pub me_of_promised : (κs : Lfts 0) (args : Dens κs me-of-kinds.ps) (x : (res_t me-of-kinds.r κs).Denot)
    (left : AtExit (ended_of 0 me-of-kinds.ps me-of-kinds.r) κs) → me-of.Post κs args x left → written_said x ≡ body_table args.0
me_of_promised κs args x left p = ap written_said p ∙ bits_said (body_fits args.0) (body_me args.0)
