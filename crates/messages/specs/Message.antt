-- RULES 2, 8.4 and 17: a message of 112 bits: what its bytes say, and the bytes that say it. Bit 1 is the top bit of byte 0.
use Rattle.std.specs.Prelude.{ℕ, List, [], ◌∷◌, ◌++◌, Bool, cond, not, ◌&&◌, ◌||◌, leb, eqb, length, Result, Ok, Err}
use Rattle.refusals.specs.declared.Refusal.TheVariants.{Length, Parity, Format, TypeCode}
use Rattle.fields.specs.Packing.{field, pack, fits}
use Rattle.fields.specs.Bytes.{number, bytes_of}
use Rattle.keys.specs.Keys.{key_for, is_traffic}
use Rattle.keys.specs.declared.Kind.{Kind}
use Rattle.keys.specs.declared.Kind.TheVariants.{I, O, T, M, N, C}
use Rattle.parity.specs.Parity.{remainder, seal}
use Rattle.layouts.specs.Layouts.{is_position}
use Rattle.layouts.specs.Status.{is_status_type}
use Rattle.layouts.specs.Bodies.{type_by, taken_by, flag_in, body_coarse, body_type, flag_of, station_of, body_me, body_fits}
use Rattle.messages.specs.declared.Message.{Message}
use Rattle.layouts.specs.declared.bodies.Body.{Body}
use Rattle.refusals.specs.declared.Refusal.{Refusal}

-- RULES 2.1: bits from .. to of the message
abbrev pub bits : ℕ → ℕ → List ℕ → ℕ
bits from to s = field 112 from to (number s)

-- RULES 2.3: taken: DF 17 with any CA, and DF 18 with CF 0, 1, 2, 3 or 5
abbrev pub format_taken : ℕ → ℕ → Bool
format_taken format control = eqb format 17 || (eqb format 18 && (leb control 3 || eqb control 5))

-- RULES 17.6: a coarse message: DF 18 with CF 3
abbrev pub coarse_by : ℕ → ℕ → Bool
coarse_by format control = eqb format 18 && eqb control 3

-- RULES 17.1: sent by a ground station's traffic service: DF 18 with CF 2, 3 or 5
abbrev pub traffic_by : ℕ → ℕ → Bool
traffic_by format control = eqb format 18 && (eqb control 2 || eqb control 3 || eqb control 5)

-- RULES 2.5: reserved: CF 5 with the flag set; and status, TYPE 31, of the traffic service, whatever its subtype. Of a coarse message, which has no TYPE, nothing is
abbrev pub is_reserved : ℕ → ℕ → ℕ → ℕ → Bool
is_reserved format control type flag = (eqb format 18 && eqb control 5 && eqb flag 1) || (traffic_by format control && is_status_type type)

-- .. by ME
abbrev pub reserved_in : ℕ → ℕ → ℕ → Bool
reserved_in format control me = is_reserved format control (type_by (coarse_by format control) me) (flag_in (coarse_by format control) me)

-- ---- decoding

-- with what ME says
abbrev pub with_body : ℕ → ℕ → ℕ → Result Body Refusal → Result Message Refusal
with_body format control address (Ok b) = Ok (record { format = format; control = control; address = address; body = b })
with_body format control address (Err r) = Err r

-- by DF, CA or CF, AA and ME: 4, then 5, for a flag or a TYPE that is reserved or a TYPE or subtype that is not taken
unfoldable pub opened : ℕ → ℕ → ℕ → ℕ → Result Message Refusal
opened format control address me =
    cond (not (format_taken format control)) (Err Format)
    (cond (reserved_in format control me) (Err TypeCode)
    (with_body format control address (taken_by (coarse_by format control) me)))

-- RULES 2.2 and 3.6: 1, then 3, then 4 and 5. DF is bits 1-5, CA or CF 6-8, AA 9-32, ME 33-88
abbrev pub decoded : List ℕ → Result Message Refusal
decoded s =
    cond (not (eqb (length s) 14)) (Err Length)
    (cond (not (eqb (remainder s) 0)) (Err Parity)
    (opened (bits 1 5 s) (bits 6 8 s) (bits 9 32 s) (bits 33 88 s)))

-- ---- the key of a track

-- RULES 2.13 and 17.4: DF 18. O: CF 1. T: CF 2 without the flag, and M with it. C: CF 3, with the flag and the station. N: CF 5. I: CF 0
abbrev pub kind_by : ℕ → ℕ → ℕ → Kind
kind_by control flag station =
    cond (eqb control 1) O
    (cond (eqb control 2) (cond (eqb flag 0) T M)
    (cond (eqb control 3) (C flag station)
    (cond (eqb control 5) N I)))

-- RULES 2.13: I: DF 17 too, whatever its CA and the bit that would be the flag
unfoldable pub kind_of : ℕ → ℕ → ℕ → ℕ → Kind
kind_of format control flag station = cond (eqb format 18) (kind_by control flag station) I

-- AA with its kind
abbrev pub key_by : ℕ → ℕ → ℕ → ℕ → ℕ → ℕ
key_by format control flag station address = key_for (kind_of format control flag station) address

-- the kind of a message, by the flag and the station of its body
abbrev pub message_kind : Message → Kind
message_kind m = kind_of m.format m.control (flag_of m.body) (station_of m.body)

abbrev pub key_of : Message → ℕ
key_of m = key_for (message_kind m) m.address

-- RULES 17.1: whether the traffic service sent it: by its kind, T, M, N or C, which is by DF and CF alone
abbrev pub traffic : Message → Bool
traffic m = is_traffic (message_kind m)

-- ---- what may start a track

-- a coarse message does, for it has a position; of the traffic service's other messages those whose TYPE is a position's; of all others, kinds I and O, every one but TYPE 0, which only ever adds to a track that is held
abbrev pub starts_by : Bool → Bool → ℕ → Bool
starts_by coarse served type = coarse || cond served (is_position type) (not (eqb type 0))

abbrev pub starts : Message → Bool
starts m = starts_by (coarse_by m.format m.control) (traffic m) (body_type m.body)

-- ---- the bytes that say a message

-- RULES 2.2: what stands before ME: DF, CA or CF, AA
abbrev pub head_widths : List ℕ
head_widths = 5 ∷ 3 ∷ 24 ∷ []

abbrev pub head_fields : Message → List ℕ
head_fields m = m.format ∷ m.control ∷ m.address ∷ []

-- both or neither
abbrev pub agree : Bool → Bool → Bool
agree a b = cond a b (not b)

-- RULES 2.16: whether DF and CF are taken, neither the flag nor TYPE is reserved, and the body is a coarse one just where DF and CF say so
abbrev pub head_taken : Message → Bool
head_taken m =
    format_taken m.format m.control
    && not (is_reserved m.format m.control (body_type m.body) (flag_of m.body))
    && agree (coarse_by m.format m.control) (body_coarse m.body)

-- RULES 2.16: whether each field fits its bits, in a message that would earn neither 4 nor 5
abbrev pub message_fits : Message → Bool
message_fits m = fits head_widths (head_fields m) && head_taken m && body_fits m.body

-- RULES 2.2: bytes with the three behind them that make the remainder 0: PI is bits 89-112
abbrev pub sealed_by : List ℕ → List ℕ
sealed_by s = s ++ bytes_of 3 (seal s)

abbrev pub message_bytes : Message → List ℕ
message_bytes m = sealed_by (bytes_of 4 (pack head_widths (head_fields m)) ++ bytes_of 7 (body_me m.body))
