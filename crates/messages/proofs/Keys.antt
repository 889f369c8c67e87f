-- The key of a decoded message is its kind and AA by their bits, and so is that of its frame; keys are equal just where both are: by the laws of keys. A message is of kind C just where CF is 3.
-- Assumes nothing.
use Rattle.std.specs.Prelude.{Result, Ok, Err}
use Prim.Native.Nat.{ℕ}
use mathlib.Core.Path.{◌≡◌, refl, sym, ap, ap₂, subst, ◌∙◌}
use mathlib.Core.Bool.{true, not}
use mathlib.Core.List.{List}
use lib.Dec.{eqb}
use lib.ListN.{length}
use Rattle.fields.proofs.Bools.{by_test}
use Rattle.keys.specs.Keys.{key_for, low_kind, low24, is_key, is_coarse}
use Rattle.keys.specs.declared.Kind.{Kind}
use Rattle.keys.proofs.Laws as keys
use Rattle.parity.specs.Parity.{remainder}
use Rattle.layouts.specs.Bodies.{taken_by, body_coarse, flag_of, station_of}
use Rattle.layouts.proofs.BothWays.{coarse_read, flag_read, station_read}
use Rattle.messages.specs.Message.{bits, format_taken, coarse_by, reserved_in, with_body, opened, decoded, kind_of, message_kind, key_of}
use Rattle.messages.specs.Accepted.{frame_of, frame_coarse, frame_kind, frame_key, message_of, Opens}
use Rattle.messages.specs.Said.{coarse_at, kind_at, key_in}
use Rattle.messages.specs.declared.Frame.{Frame}
use Rattle.messages.specs.declared.Message.{Message}
use Rattle.messages.proofs.Flags.{flag_in_lem, station_in_lem, coarse_is}
use Rattle.layouts.specs.declared.bodies.Body.{Body}
use Rattle.refusals.specs.declared.Refusal.{Refusal}

-- a message's key is one
pub key_range : (m : Message) → is_key (key_of m) ≡ true
key_range m = keys.key_range (message_kind m) m.address

-- equal keys have equal kinds, and so of C equal flags and stations, and equal addresses
pub keys_apart : (m n : Message) → key_of m ≡ key_of n → (low_kind (message_kind m) ≡ low_kind (message_kind n)) × (low24 m.address ≡ low24 n.address)
keys_apart m n = keys.keys_apart (message_kind m) (message_kind n) m.address n.address

-- ---- a decoded message is its bits before ME with what ME was read as

abbrev From : List ℕ → Result Message Refusal → Type 0
From s (Ok m) = (taken_by (coarse_at s) (bits 33 88 s) ≡ Ok m.body) × (message_of (frame_of s) m.body ≡ m)
From s (Err r) = Unit

with_body_from : (s : List ℕ) (b : Result Body Refusal) → taken_by (coarse_at s) (bits 33 88 s) ≡ b → From s (with_body (bits 1 5 s) (bits 6 8 s) (bits 9 32 s) b)
with_body_from s (Ok b) e = (e, refl)
with_body_from s (Err r) e = tt

opened_from : (s : List ℕ) → From s (opened (bits 1 5 s) (bits 6 8 s) (bits 9 32 s) (bits 33 88 s))
unfolding opened
opened_from s =
    by_test (From s) (not (format_taken (bits 1 5 s) (bits 6 8 s))) _ _ (λ _. tt)
    (λ _. by_test (From s) (reserved_in (bits 1 5 s) (bits 6 8 s) (bits 33 88 s)) _ _ (λ _. tt)
    (λ _. with_body_from s (taken_by (coarse_at s) (bits 33 88 s)) refl))

pub decoded_from : (s : List ℕ) (m : Message) → decoded s ≡ Ok m → (taken_by (coarse_at s) (bits 33 88 s) ≡ Ok m.body) × (message_of (frame_of s) m.body ≡ m)
decoded_from s m d =
    subst (From s) d
    (by_test (From s) (not (eqb (length s) 14)) _ _ (λ _. tt)
    (λ _. by_test (From s) (not (eqb (remainder s) 0)) _ _ (λ _. tt)
    (λ _. opened_from s)))

-- ---- and so its kind and its key

-- a kind goes by the flag and the station
kinds : (format control : ℕ) {flag flag' station station' : ℕ} → flag ≡ flag' → station ≡ station' → kind_of format control flag station ≡ kind_of format control flag' station'
kinds format control = ap₂ (kind_of format control)

-- by DF, CF, the flag, which is bit 33, 53, 40 or 41, and the station, which is bits 36-39
pub decoded_kind : (s : List ℕ) (m : Message) → decoded s ≡ Ok m → message_kind m ≡ kind_at s
decoded_kind s m d =
    let f = decoded_from s m d in
    let n : ℕ = bits 33 88 s in
    ap message_kind (sym f.1)
    ∙ kinds (bits 1 5 s) (bits 6 8 s) (flag_read (coarse_at s) n m.body f.0 ∙ flag_in_lem s) (station_read (coarse_at s) n m.body f.0 ∙ station_in_lem s)

-- AA with its kind
pub decoded_key : (s : List ℕ) (m : Message) → decoded s ≡ Ok m → key_of m ≡ key_in s
decoded_key s m d = ap₂ key_for (decoded_kind s m d) (ap (λ (k : Message). k.address) (sym (decoded_from s m d).1))

-- those of a frame are those of the message to which it opens
pub frame_kind_lem : (f : Frame) (o : Opens f) → frame_kind f ≡ message_kind (message_of f o.body)
frame_kind_lem f o = sym (kinds f.format f.control (flag_read (frame_coarse f) f.me o.body o.reads) (station_read (frame_coarse f) f.me o.body o.reads))

pub frame_key_lem : (f : Frame) (o : Opens f) → frame_key f ≡ key_of (message_of f o.body)
frame_key_lem f o = ap (λ (k : Kind). key_for k f.address) (frame_kind_lem f o)

-- ---- coarse messages

-- a message has kind C exactly if its DF is 18 and its CF 3, and its body is coarse just then
pub coarse_by_its_own : (s : List ℕ) (m : Message) → decoded s ≡ Ok m
    → (is_coarse (message_kind m) ≡ coarse_by m.format m.control) × (body_coarse m.body ≡ coarse_by m.format m.control)
coarse_by_its_own s m d =
    let f = decoded_from s m d in (
      coarse_is m.format m.control (flag_of m.body) (station_of m.body),
      coarse_read (coarse_at s) (bits 33 88 s) m.body f.0 ∙ ap (λ (k : Message). coarse_by k.format k.control) f.1,
    )
