-- Both ways between a message and its row: fields that fit are packed to the ME that they were cut from, which has their layout.
-- Assumes nothing.
use Rattle.std.specs.Prelude.{Ok}
use Prim.Native.Nat.{ℕ}
use mathlib.Core.Path.{◌≡◌, refl, sym, ap, ◌∙◌}
use mathlib.Core.Bool.{Bool, true}
use mathlib.Core.List.{[], ◌∷◌}
use borrow.Author.Tests.{eq-eqb}
use Rattle.fields.specs.Packing.{fits}
use Rattle.fields.proofs.Bools.{and_left}
use Rattle.layouts.specs.declared.bodies.Body.{Body}
use Rattle.layouts.specs.declared.bodies.Body.TheVariants as body
use Rattle.layouts.specs.declared.bodies.Layout.{Layout}
use Rattle.layouts.specs.declared.bodies.Layout.TheVariants as layout
use Rattle.layouts.specs.Bodies.{taken_by, body_layout, body_fields, body_widths, type_agrees, body_me, body_fits}
use Rattle.layouts.proofs.BothWays.{read_back, fields_read}
use Rattle.messages.specs.declared.Message.{Message}
use Rattle.messages.specs.Message.{coarse_by, key_of, message_fits, message_bytes}
use Rattle.messages.proofs.BothWays.{encoded_decoded}
use Rattle.messages.proofs.Keys.{coarse_by_its_own}
use Rattle.messages.proofs.Fitting.{fits_head, fits_body}
use Rattle.rows.specs.From.{layout_numbered, packed_by, packed_as, message_with, layout_with, head_with, message_by, message_from}
use Rattle.rows.specs.Rows.{layout_number, row_of, message_four, message_row}
use Rattle.rows.specs.declared.message.Four.{Four}
use Rattle.rows.proofs.Cutting.{chosen}

-- a layout is that of its number
pub numbered : (l : Layout) → layout_numbered (layout_number l) ≡ l
unfolding layout_numbered
numbered layout.Identification = refl
numbered layout.Surface = refl
numbered layout.Airborne = refl
numbered layout.Ground = refl
numbered layout.Air = refl
numbered layout.Status = refl
numbered layout.Coarse = refl
numbered layout.NotTaken = refl

fields_fit : (b : Body) → body_fits b ≡ true → fits (body_widths b) (body_fields b) ≡ true
fields_fit b e = and_left (fits (body_widths b) (body_fields b)) (type_agrees b) e

-- the fields in a row are packed to the ME of the body
packs : (b : Body) (format control address key : ℕ) (four : Four) → body_fits b ≡ true
    → packed_as (body_layout b) (row_of (body_layout b) (format ∷ control ∷ address ∷ key ∷ []) (body_fields b) four) ≡ Ok (body_me b)
unfolding packed_as packed_by row_of
packs (body.Identification b) format control address key four e = chosen _ _ _ (fields_fit (body.Identification b) e)
packs (body.Surface b) format control address key four e = chosen _ _ _ (fields_fit (body.Surface b) e)
packs (body.Airborne b) format control address key four e = chosen _ _ _ (fields_fit (body.Airborne b) e)
packs (body.Ground b) format control address key four e = chosen _ _ _ (fields_fit (body.Ground b) e)
packs (body.Air b) format control address key four e = chosen _ _ _ (fields_fit (body.Air b) e)
packs (body.Status b) format control address key four e = chosen _ _ _ (fields_fit (body.Status b) e)
packs (body.Coarse b) format control address key four e = chosen _ _ _ (fields_fit (body.Coarse b) e)

module _ (m : Message) (e : message_fits m ≡ true) where
  abbrev n : ℕ
  n = body_me m.body

  abbrev coarse : Bool
  coarse = coarse_by m.format m.control

  -- it is read as the body that it was packed of, which is coarse just where DF and CF say so
  says : taken_by coarse n ≡ Ok m.body
  says =
      ap (λ (t : Bool). taken_by t n) (sym (coarse_by_its_own (message_bytes m) m (encoded_decoded m e)).1)
      ∙ read_back m.body (fits_body m e)

  -- so a row is the message that it was made of
  pub from_row : message_from (message_row m) ≡ Ok m
  unfolding message_from message_by head_with layout_with row_of
  from_row =
      ap (λ (l : Layout). message_by (message_row m) (packed_as l (message_row m))) (numbered (body_layout m.body))
      ∙ ap (message_by (message_row m)) (packs m.body m.format m.control m.address (key_of m) (message_four m) (fits_body m e))
      ∙ chosen _ _ _ (fits_head m e)
      ∙ chosen _ _ _ (eq-eqb _ _ (ap layout_number (sym (fields_read coarse n m.body says).0)))
      ∙ ap (message_with m.format m.control m.address) says
