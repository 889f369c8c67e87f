-- A message that fits: its fields before ME fit, DF and CF are taken with the flag and the body, and its body fits. The one place that takes the conjunction apart.
-- Assumes nothing.
use mathlib.Core.Path.{◌≡◌}
use mathlib.Core.Bool.{true, ◌&&◌}
use Rattle.fields.specs.Packing.{fits}
use Rattle.fields.proofs.Bools.{and_left, and_right}
use Rattle.layouts.specs.Bodies.{body_fits}
use Rattle.messages.specs.Message.{head_widths, head_fields, head_taken, message_fits}
use Rattle.messages.specs.declared.Message.{Message}

module _ (m : Message) (e : message_fits m ≡ true) where
  before : fits head_widths (head_fields m) && head_taken m ≡ true
  before = and_left (fits head_widths (head_fields m) && head_taken m) (body_fits m.body) e

  pub fits_head : fits head_widths (head_fields m) ≡ true
  fits_head = and_left (fits head_widths (head_fields m)) (head_taken m) before

  pub fits_taken : head_taken m ≡ true
  fits_taken = and_right (fits head_widths (head_fields m)) (head_taken m) before

  pub fits_body : body_fits m.body ≡ true
  fits_body = and_right (fits head_widths (head_fields m) && head_taken m) (body_fits m.body) e
