-- Laws of the interface: decoding then encoding gives the same 14 bytes, and encoding then decoding the same fields. Each follows from the law of the crate below.
-- Assumes nothing.
use Rattle.std.specs.Prelude.{Result, Ok, Err}
use Prim.Native.Nat.{ℕ}
use mathlib.Core.Path.{◌≡◌, refl, sym, ap, ap₂, ◌∙◌}
use mathlib.Core.Bool.{Bool, true, false, cond, not, ◌||◌}
use mathlib.Core.List.{List}
use native.Mathlib.Omega.{arith}
use borrow.Author.Tests.{eq-eqb}
use lib.Dec.{eqb}
use lib.ListN.{length}
use Rattle.refusals.specs.declared.Refusal.{Refusal}
use Rattle.refusals.specs.declared.Refusal.TheVariants.{Length, Late, Parity, Format, TypeCode, Full, Places, Field, Latitude, Zones, Block, NoTrack, Overrun, Log, Degrees, Form}
use Rattle.refusals.specs.Numbers.{number_of}
use Rattle.refusals.specs.Said.{gives}
use Rattle.entries.specs.Arrays.{filled}
use Rattle.fields.specs.Bytes.{Bytes}
use Rattle.fields.proofs.Bools.{by_test}
use Rattle.layouts.specs.Bodies.{body_layout, body_fields}
use Rattle.messages.specs.declared.Message.{Message}
use Rattle.messages.specs.Message.{decoded, key_of, message_fits}
use Rattle.encoder.specs.Encoded.{encoded_bytes}
use Rattle.messages.proofs.BothWays as messages
use Rattle.encoder.proofs.BothWays as encoder
use Rattle.rows.specs.From.{message_from}
use Rattle.rows.specs.Rows.{message_four, message_row}
use Rattle.rows.specs.Same.{Same}
use Rattle.rows.proofs.BothWays.{from_row}
use Rattle.rows.proofs.Cutting.{filled_all}
use Rattle.rows.proofs.Laid.{row_length}
use Rattle.rows.proofs.ReadBack.{from_same}
use Rattle.entries.specs.Sent.{Sent, sent, into}
use Rattle.addercoil.specs.Done.{done_number}
use Rattle.addercoil.specs.Messages.{message_said, encoded_as, encoded_from}
use Rattle.addercoil.proofs.Encoding.{encode_right}

-- ---- a row fills its array

message_length : (m : Message) → length (message_row m) ≡ 28
message_length m = row_length (body_layout m.body) m.format m.control m.address (key_of m) (body_fields m.body) (message_four m)

row_into_lem : (out : List ℕ) (m : Message) → length out ≡ 28 → into 28 out (gives (message_row m)) ≡ sent 0 (message_row m)
unfolding into
row_into_lem out m h = rw (eq-eqb _ _ h) (ap (sent 0) (ap (λ (n : ℕ). filled n (message_row m)) (h ∙ sym (message_length m)) ∙ filled_all (message_row m)))

decoded_into : (s out : List ℕ) (m : Message) → length out ≡ 28 → decoded s ≡ Ok m → into 28 out (message_said (decoded s)) ≡ sent 0 (message_row m)
decoded_into s out m h d = ap (λ (x : Result Message Refusal). into 28 out (message_said x)) d ∙ row_into_lem out m h

-- ---- an accepted message, decoded into fields and encoded from them, is the same 14 bytes

pub decoded_encoded : (s fields out : List ℕ) (m : Message) → Bytes s → length fields ≡ 28 → length out ≡ 14 → decoded s ≡ Ok m
    → encoded_from (into 28 fields (message_said (decoded s))).array out ≡ sent 0 s
decoded_encoded s fields out m h f l d =
    let g = encoder.decoded_encoded s out m h l d in
    let fit = (messages.decoded_good s m h d).0 in
    ap (λ (x : Sent). encoded_from x.array out) (decoded_into s fields m f d)
    ∙ sym (encode_right out (message_row m) (rw (eq-eqb _ _ (message_length m), eq-eqb _ _ l)) (sym (from_row m fit)) (sym (ap₂ sent (ap done_number g.0) g.1)))

-- ---- fields that are accepted, encoded and decoded, come back equal

pub some_number : (r : Refusal) → number_of r ≡ 0 → ⊥
some_number Length e = omega arith
some_number Late e = omega arith
some_number Parity e = omega arith
some_number Format e = omega arith
some_number TypeCode e = omega arith
some_number Full e = omega arith
some_number Places e = omega arith
some_number Field e = omega arith
some_number Latitude e = omega arith
some_number Zones e = omega arith
some_number Block e = omega arith
some_number NoTrack e = omega arith
some_number Overrun e = omega arith
some_number Log e = omega arith
some_number Degrees e = omega arith
some_number Form e = omega arith

if_written : (a b : Bool) → done_number (cond (not a) (Err Length) (cond (not b) (Err Field) (Ok tt))) ≡ 0 → (a ≡ true) × (b ≡ true)
if_written true true e = (refl, refl)
if_written true false e = absurd (some_number Field e)
if_written false b e = absurd (some_number Length e)

module _ (fields out other : List ℕ) (h : length other ≡ 28) where
  abbrev Back : Sent → Type 0
  Back x = x.number ≡ 0 → (m : Message) × (into 28 other (message_said (decoded x.array)) ≡ sent 0 (message_row m)) × Same fields m

  back : (d : Result Message Refusal) → message_from fields ≡ d → Back (encoded_as out d)
  back (Ok m) e n =
      let g = if_written (eqb (length out) 14) (message_fits m) n in
      let d : decoded (encoded_bytes m out) ≡ Ok m = rw (g.0, g.1) (messages.encoded_decoded m g.1) in
      (m, decoded_into (encoded_bytes m out) other m h d, from_same fields m e)
  back (Err r) e n = absurd (some_number r n)

  pub encoded_decoded : Back (encoded_from fields out)
  unfolding encoded_from
  encoded_decoded =
      by_test Back (not (eqb (length fields) 28) || not (eqb (length out) 14)) (sent 1 out) (encoded_as out (message_from fields))
      (λ e n. absurd (some_number Length n))
      (λ e. back (message_from fields) refl)
