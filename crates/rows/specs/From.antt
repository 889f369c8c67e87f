-- RULES 20.4: a message back from its 28 numbers; the key and the readings are not read. A number that is wider than its bits, and a layout that is not the one of DF, CF, TYPE and subtype, are refused with 8.
use Rattle.std.specs.Prelude.{ℕ, Bool, cond, List, [], ◌∷◌, eqb, length, get_or, Result, Ok, Err}
use Rattle.refusals.specs.declared.Refusal.TheVariants.{Field}
use Rattle.fields.specs.Packing.{pack, fits}
use Rattle.layouts.specs.declared.bodies.Layout.{Layout}
use Rattle.layouts.specs.declared.bodies.Layout.TheVariants as layout
use Rattle.layouts.specs.Bodies.{layout_by, is_taken, layout_widths, taken_by}
use Rattle.messages.specs.Message.{coarse_by, head_widths}
use Rattle.rows.specs.Rows.{layout_number, fields_at}
use Rattle.rows.specs.Same.{entries}
use Rattle.layouts.specs.declared.bodies.Body.{Body}
use Rattle.messages.specs.declared.Message.{Message}
use Rattle.refusals.specs.declared.Refusal.{Refusal}

-- the layout of a number, 1 to 7
unfoldable pub layout_numbered : ℕ → Layout
layout_numbered n =
    cond (eqb n 1) layout.Identification
    (cond (eqb n 2) layout.Surface
    (cond (eqb n 3) layout.Airborne
    (cond (eqb n 4) layout.Ground
    (cond (eqb n 5) layout.Air
    (cond (eqb n 6) layout.Status
    (cond (eqb n 7) layout.Coarse
    layout.NotTaken))))))

-- ---- ME

-- the fields of so many widths
abbrev pub fields_from : List ℕ → List ℕ → List ℕ
fields_from ws l = entries fields_at (length ws) l

-- the number whose fields they are
unfoldable pub packed_by : List ℕ → List ℕ → Result ℕ Refusal
packed_by ws l = cond (fits ws (fields_from ws l)) (Ok (pack ws (fields_from ws l))) (Err Field)

unfoldable pub packed_as : Layout → List ℕ → Result ℕ Refusal
packed_as a l = cond (is_taken a) (packed_by (layout_widths a) l) (Err Field)

-- ---- the whole message

abbrev pub message_with : ℕ → ℕ → ℕ → Result Body Refusal → Result Message Refusal
message_with format control address (Ok b) = Ok (record { format = format; control = control; address = address; body = b })
message_with format control address (Err r) = Err Field

-- ME has the layout that a number says: the coarse one where DF and CF say so, and else that of TYPE and subtype
unfoldable pub layout_with : ℕ → ℕ → ℕ → ℕ → ℕ → Result Message Refusal
layout_with number format control address n =
    let coarse : Bool = coarse_by format control in
    cond (eqb (layout_number (layout_by coarse n)) number) (message_with format control address (taken_by coarse n)) (Err Field)

-- DF, CA or CF and AA within their bits
unfoldable pub head_with : ℕ → ℕ → ℕ → ℕ → ℕ → Result Message Refusal
head_with number format control address n =
    cond (fits head_widths (format ∷ control ∷ address ∷ [])) (layout_with number format control address n) (Err Field)

unfoldable pub message_by : List ℕ → Result ℕ Refusal → Result Message Refusal
message_by l (Ok n) = head_with (get_or l 0 0) (get_or l 1 0) (get_or l 2 0) (get_or l 3 0) n
message_by l (Err r) = Err r

unfoldable pub message_from : List ℕ → Result Message Refusal
message_from l = message_by l (packed_as (layout_numbered (get_or l 0 0)) l)
