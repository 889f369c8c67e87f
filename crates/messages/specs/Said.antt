-- RULES 2.3 to 2.5, 3.2 and 19.3: what an answer says in the rules' terms: a number, or the layout of ME with the values of all fields in the order of their bits.
use Rattle.std.specs.Prelude.{ℕ, List, [], ◌∷◌, ◌++◌, Bool, cond, not, ◌||◌, eqb, length, Result, Ok, Err}
use Rattle.refusals.specs.Numbers.{number_of}
use Rattle.refusals.specs.Said.{Said, number, gives}
use Rattle.fields.specs.Packing.{unpack}
use Rattle.keys.specs.Keys.{key_for, is_traffic}
use Rattle.keys.specs.declared.Kind.{Kind}
use Rattle.parity.specs.Parity.{remainder}
use Rattle.layouts.specs.Bodies.{layout_at, is_taken, flag_by, layout_widths, body_layout, body_fields}
use Rattle.layouts.specs.Said.{Values, values}
use Rattle.layouts.specs.declared.bodies.Layout.{Layout}
use Rattle.layouts.specs.declared.bodies.Layout.TheVariants as layout
use Rattle.messages.specs.Message.{bits, format_taken, coarse_by, is_reserved, kind_of, starts_by, head_widths, head_fields}
use Rattle.messages.specs.declared.Frame.{Frame}
use Rattle.messages.specs.declared.Message.{Message}
use Rattle.refusals.specs.declared.Refusal.{Refusal}

-- the decoder's answer
abbrev pub said : Result Message Refusal → Said Values
said (Ok m) = gives (values (body_layout m.body) (head_fields m ++ body_fields m.body))
said (Err r) = number (number_of r)

-- the answer of `accept`: DF, CA or CF, AA and ME
abbrev pub accepted_said : Result Frame Refusal → Said (List ℕ)
accepted_said (Ok f) = gives (f.format ∷ f.control ∷ f.address ∷ f.me ∷ [])
accepted_said (Err r) = number (number_of r)

-- ---- the table's "When, exactly", for the bytes of a message

-- RULES 3.2: 1: message not of 14 bytes
abbrev pub earns1 : List ℕ → Bool
earns1 s = not (eqb (length s) 14)

-- RULES 4.2: 3: parity remainder not 0
abbrev pub earns3 : List ℕ → Bool
earns3 s = not (eqb (remainder s) 0)

-- RULES 2.3: 4: DF or CF not taken
abbrev pub earns4 : List ℕ → Bool
earns4 s = not (format_taken (bits 1 5 s) (bits 6 8 s))

-- a coarse message, by DF and CF
abbrev pub coarse_at : List ℕ → Bool
coarse_at s = coarse_by (bits 1 5 s) (bits 6 8 s)

-- RULES 2.4: the layout of ME: that of a coarse message; of others TYPE is bits 33-37 of the message, the subtype bits 38-40
abbrev pub layout_in : List ℕ → Layout
layout_in s = cond (coarse_at s) layout.Coarse (layout_at (bits 33 37 s) (bits 38 40 s))

-- TYPE; a coarse message has none, which counts as 0
abbrev pub type_at : List ℕ → ℕ
type_at s = cond (coarse_at s) 0 (bits 33 37 s)

-- RULES 2.12: the flag: bit 33 of a coarse message, 53 on the surface, 40 in the air, 41 of a velocity
abbrev pub flag_at : List ℕ → ℕ
flag_at s = flag_by (layout_in s) (bits 33 33 s) (bits 53 53 s) (bits 40 40 s) (bits 41 41 s)

-- RULES 2.14: the station: bits 36-39 of a coarse message
abbrev pub station_at : List ℕ → ℕ
station_at s = cond (coarse_at s) (bits 36 39 s) 0

-- RULES 2.5 and 17.2: 5: TYPE or subtype not taken, or CF 5 with the flag set, or TYPE 31 under CF 2 or 5; never CF 3
abbrev pub earns5 : List ℕ → Bool
earns5 s = not (is_taken (layout_in s)) || is_reserved (bits 1 5 s) (bits 6 8 s) (type_at s) (flag_at s)

-- the kind of the message's track, and the key
abbrev pub kind_at : List ℕ → Kind
kind_at s = kind_of (bits 1 5 s) (bits 6 8 s) (flag_at s) (station_at s)

abbrev pub key_in : List ℕ → ℕ
key_in s = key_for (kind_at s) (bits 9 32 s)

-- whether the message may start a track
abbrev pub starts_in : List ℕ → Bool
starts_in s = starts_by (coarse_at s) (is_traffic (kind_at s)) (type_at s)

-- the layout, and all fields of the bits before PI by its widths
abbrev pub values_in : List ℕ → Values
values_in s = values (layout_in s) (unpack (head_widths ++ layout_widths (layout_in s)) (bits 1 88 s))

-- RULES 3.2: the table as a whole, in its order: a number, or the values
abbrev pub table : List ℕ → Said Values
table s =
    cond (earns1 s) (number 1)
    (cond (earns3 s) (number 3)
    (cond (earns4 s) (number 4)
    (cond (earns5 s) (number 5)
    (gives (values_in s)))))

-- the same for a message whose ME is not unpacked
abbrev pub accept_table : List ℕ → Said (List ℕ)
accept_table s =
    cond (earns1 s) (number 1)
    (cond (earns3 s) (number 3)
    (cond (earns4 s) (number 4)
    (cond (earns5 s) (number 5)
    (gives (bits 1 5 s ∷ bits 6 8 s ∷ bits 9 32 s ∷ bits 33 88 s ∷ [])))))
