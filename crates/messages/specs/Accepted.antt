-- RULES 2.17: acceptable messages: those that earn none of 1, 3, 4 and 5, which doesn't depend on the table. Nothing is unpacked of ME.
use Rattle.std.specs.Prelude.{ℕ, List, ◌≡◌, Bool, cond, not, ◌||◌, true, eqb, length, Result, Ok, Err}
use Rattle.refusals.specs.declared.Refusal.TheVariants.{Length, Parity, Format, TypeCode}
use Rattle.keys.specs.Keys.{key_for, is_traffic}
use Rattle.keys.specs.declared.Kind.{Kind}
use Rattle.parity.specs.Parity.{remainder}
use Rattle.layouts.specs.Bodies.{layout_by, type_by, is_taken, flag_in, station_in, taken_by, body_me, body_fits}
use Rattle.messages.specs.declared.Frame.{Frame}
use Rattle.messages.specs.declared.Message.{Message}
use Rattle.messages.specs.Message.{bits, format_taken, coarse_by, reserved_in, with_body, opened, decoded, kind_of, starts_by}
use Rattle.layouts.specs.declared.bodies.Body.{Body}
use Rattle.refusals.specs.declared.Refusal.{Refusal}

-- DF, CA or CF, AA and ME
abbrev pub frame_of : List ℕ → Frame
frame_of s = record { format = bits 1 5 s; control = bits 6 8 s; address = bits 9 32 s; me = bits 33 88 s }

-- 1, then 3, then 4: what is asked before the rest
unfoldable pub formed : List ℕ → Result Frame Refusal
formed s =
    cond (not (eqb (length s) 14)) (Err Length)
    (cond (not (eqb (remainder s) 0)) (Err Parity)
    (cond (not (format_taken (bits 1 5 s) (bits 6 8 s))) (Err Format)
    (Ok (frame_of s))))

-- .. and then 5, by a test of the frame
abbrev pub unless : (Frame → Bool) → Result Frame Refusal → Result Frame Refusal
unless test (Ok f) = cond (test f) (Err TypeCode) (Ok f)
unless test (Err r) = Err r

-- whether it is a coarse message
abbrev pub frame_coarse : Frame → Bool
frame_coarse f = coarse_by f.format f.control

-- CF 5 with the flag set, or status of the traffic service
abbrev pub frame_reserved : Frame → Bool
frame_reserved f = reserved_in f.format f.control f.me

-- 5 for either reason
abbrev pub frame_refused : Frame → Bool
frame_refused f = not (is_taken (layout_by (frame_coarse f) f.me)) || frame_reserved f

-- 4, then 5
unfoldable pub framed : Frame → Result Frame Refusal
framed f =
    cond (not (format_taken f.format f.control)) (Err Format)
    (cond (frame_refused f) (Err TypeCode)
    (Ok f))

-- 1, then 3, then 4 and 5
abbrev pub accepted : List ℕ → Result Frame Refusal
accepted s =
    cond (not (eqb (length s) 14)) (Err Length)
    (cond (not (eqb (remainder s) 0)) (Err Parity)
    (framed (frame_of s)))

-- what is refused before its layout is asked for: 4, then 5 for a flag or a TYPE that is reserved
unfoldable pub headed : Frame → Result Frame Refusal
headed f =
    cond (not (format_taken f.format f.control)) (Err Format)
    (cond (frame_reserved f) (Err TypeCode)
    (Ok f))

-- 1, then 3, then those
abbrev pub frame_in : List ℕ → Result Frame Refusal
frame_in s =
    cond (not (eqb (length s) 14)) (Err Length)
    (cond (not (eqb (remainder s) 0)) (Err Parity)
    (headed (frame_of s)))

-- what a frame says by its layout: its fields, or 5
abbrev pub frame_says : Frame → Result Message Refusal
frame_says f = with_body f.format f.control f.address (taken_by (frame_coarse f) f.me)

abbrev pub decoded_by : Result Frame Refusal → Result Message Refusal
decoded_by (Ok f) = frame_says f
decoded_by (Err r) = Err r

-- what an accepted message says
abbrev pub opened_as : Result Frame Refusal → Result Message Refusal
opened_as (Ok f) = opened f.format f.control f.address f.me
opened_as (Err r) = Err r

-- the kind of its track, and the key
abbrev pub frame_kind : Frame → Kind
frame_kind f = kind_of f.format f.control (flag_in (frame_coarse f) f.me) (station_in (frame_coarse f) f.me)

abbrev pub frame_key : Frame → ℕ
frame_key f = key_for (frame_kind f) f.address

-- whether it may start a track
abbrev pub frame_starts : Frame → Bool
frame_starts f = starts_by (frame_coarse f) (is_traffic (frame_kind f)) (type_by (frame_coarse f) f.me)

-- the decoder takes it
abbrev pub Acceptable : List ℕ → Type 0
Acceptable s = (m : Message) × (decoded s ≡ Ok m)

-- the frame of some acceptable message
abbrev pub IsAccepted : Frame → Type 0
IsAccepted f = (s : List ℕ) × (accepted s ≡ Ok f)

abbrev pub message_of : Frame → Body → Message
message_of f b = record { format = f.format; control = f.control; address = f.address; body = b }

-- a frame that was accepted opens to a body that fits, whose bits are its ME
pub record Opens (f : Frame) : Type 0 where
  pub body : Body
  pub reads : taken_by (frame_coarse f) f.me ≡ Ok body
  pub message : opened_as (Ok f) ≡ Ok (message_of f body)
  pub fits : body_fits body ≡ true
  pub same : body_me body ≡ f.me
