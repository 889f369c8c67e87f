-- Whose message some bytes are, by `addercoil_decode`: its fifth entry is the key of what it accepts.
-- Assumes nothing.
use Rattle.std.specs.Prelude.{Result, Ok, Err}
use Prim.Native.Nat.{ℕ}
use mathlib.Core.Bool.{true, false≢true}
use mathlib.Core.Path.{◌≡◌, refl, sym, ◌∙◌, subst}
use mathlib.Core.Logic.{◌↔◌}
use mathlib.Core.List.{List}
use native.Mathlib.Omega.{arith}
use borrow.Author.Tests.{eq-eqb, eqb-true}
use lib.ListN.{length, get_or}
use Rattle.entries.specs.Sent.{Sent, into}
use Rattle.entries.specs.Arrays.{filled}
use Rattle.entries.proofs.Filling.{filled_at}
use Rattle.messages.specs.declared.Message.{Message}
use Rattle.messages.specs.Message.{decoded, key_of}
use Rattle.rows.specs.Rows.{row_of, message_row}
use Rattle.addercoil.specs.Messages.{message_said}
use Rattle.addercoil.proofs.Laws.{some_number}
use Rattle.isolation.specs.Runs.{is_of, own}
use Rattle.c_promises.specs.Runs.{SaysKey, KeyByDecode, OwnByDecode}
use Rattle.c_promises.proofs.Flipped.{decode_is}
use Rattle.refusals.specs.declared.Refusal.{Refusal}

key_in_row : (m : Message) → get_or (message_row m) 4 0 ≡ key_of m
unfolding row_of
key_in_row m = refl

module _ (key : ℕ) (fields : List ℕ) (h : length fields ≡ 28) where
  key_at_lem : (m : Message) → get_or (filled (length fields) (message_row m)) 4 0 ≡ key_of m
  key_at_lem m = filled_at (length fields) (message_row m) 4 (omega arith) ∙ key_in_row m

  by_decoded : (d : Result Message Refusal) → is_of key d ≡ true ↔ SaysKey key (into 28 fields (message_said d))
  unfolding into
  by_decoded (Ok m) = rw (eq-eqb _ _ h) (λ o. (refl, key_at_lem m ∙ eqb-true (key_of m) key o), λ s. eq-eqb (key_of m) key (sym (key_at_lem m) ∙ s.1))
  by_decoded (Err r) = rw (eq-eqb _ _ h) (λ o. absurd (false≢true o), λ s. absurd (some_number r s.0))

pub key_by_decode : KeyByDecode
key_by_decode key message fields back h b = subst (λ (x : Sent). is_of key (decoded message) ≡ true ↔ SaysKey key x) (sym (decode_is b)) (by_decoded key fields h (decoded message))

pub own_by_decode : OwnByDecode
unfolding own
own_by_decode key c = key_by_decode key c.message
