-- One wrong bit, of the calls from C: the number that comes back is what RULES 3.2 says, and for a damaged message that is 7, then 2, then 3.
-- Assumes nothing.
use Rattle.std.specs.Prelude.{Result, Ok, Err}
use Prim.Native.Nat.{ℕ}
use mathlib.Core.Bool.{Bool, true, false, cond, not}
use mathlib.Core.Path.{◌≡◌, refl, ap, ap₂, sym, ◌∙◌}
use mathlib.Core.List.{List}
use native.Mathlib.Omega.{arith}
use borrow.Author.Tests.{eq-eqb}
use lib.Dec.{eqb}
use lib.ListN.{length}
use Rattle.refusals.specs.Said.{Said, number, gives}
use Rattle.fields.proofs.Bools.{by_test}
use Rattle.parity.specs.Parity.{flipped}
use Rattle.layouts.specs.Said.{Values}
use Rattle.entries.specs.Sent.{Sent, sent, given, into}
use Rattle.messages.specs.declared.Message.{Message}
use Rattle.messages.specs.Accepted.{Acceptable}
use Rattle.messages.specs.Damaged.{Damaged}
use Rattle.messages.specs.Message as messages
use Rattle.messages.specs.Said.{said}
use Rattle.messages.proofs.Damaged.{damaged_is_3}
use Rattle.rules.specs.Said.{earns2, earns7}
use Rattle.rules.proofs.Damaged.{damaged_table, taken_acceptable}
use Rattle.rules.proofs.Exactly.{says_the_table}
use Rattle.table.specs.Bytes.{bytes}
use Rattle.table.specs.Heard.{heard_as}
use Rattle.table.specs.Table.{received}
use Rattle.table.proofs.Lawful.{bytes_lawful}
use Rattle.addercoil.specs.Messages.{message_said}
use Rattle.addercoil.specs.Done.{done_number}
use Rattle.addercoil.proofs.Laws.{some_number}
use Rattle.c_promises.specs.Calls.{Decode}
use Rattle.c_promises.specs.Flips.{Accepted, Accepted.by_receive, Accepted.by_decode, IsBit, OneBitWrong, OneBitWrongDecoded}
use Rattle.c_promises.proofs.Isolated.{number_is}
use Rattle.refusals.specs.declared.Refusal.{Refusal}

pub decode_is : {message fields : List ℕ} {back : Sent} → Decode message fields back → back ≡ into 28 fields (message_said (messages.decoded message))
decode_is {message} {fields} {back} b =
    ap (sent back.number) (sym b.leaves) ∙ b.meets ∙ ap₂ (λ (m : List ℕ) (l : List ℕ). into 28 l (message_said (messages.decoded m))) b.brings b.into

-- ---- what was accepted is acceptable

module _ (table message : List ℕ) (time : ℕ) where
  by_answer : (d : Result Message Refusal) → (received table message time).answer ≡ d → done_number (heard_as d) ≡ 0 → Acceptable message
  by_answer (Ok m) e z = taken_acceptable bytes table message time _ (sym (says_the_table bytes bytes_lawful table message time) ∙ ap said e)
  by_answer (Err r) e z = absurd (some_number r z)

if_given : (message fields : List ℕ) (d : Result Message Refusal) → messages.decoded message ≡ d → (given fields (message_said d)).number ≡ 0 → Acceptable message
if_given message fields (Ok m) e z = (m, e)
if_given message fields (Err r) e z = absurd (some_number r z)

if_decoded : (message fields : List ℕ) → (into 28 fields (message_said (messages.decoded message))).number ≡ 0 → Acceptable message
unfolding into
if_decoded message fields =
    by_test (λ (x : Sent). x.number ≡ 0 → Acceptable message) (not (eqb (length fields) 28)) _ _
    (λ _ z. let w : ⊥ = omega arith in absurd w)
    (λ _. if_given message fields (messages.decoded message) refl)

pub acceptable : {message : List ℕ} → Accepted message → Acceptable message
acceptable {message} (by_receive {table = table} {time = time} b z) = by_answer table message time _ refl (sym (number_is b) ∙ z)
acceptable {message} (by_decode {fields = fields} b z) = if_decoded message fields (sym (ap (λ (x : Sent). x.number) (decode_is b)) ∙ z)

-- ---- a damaged one

damaged : (message : List ℕ) (bit : ℕ) → Accepted message → IsBit bit → Damaged (flipped bit message)
damaged message bit a b = record { sent = message; acceptable = acceptable a; bit = bit; from = b.0; to = b.1; heard = refl }

-- the number of an answer, by what it says
number_in : Said Values → ℕ
number_in (number n) = n
number_in (gives v) = 0

says_number : (d : Result Message Refusal) → done_number (heard_as d) ≡ number_in (said d)
unfolding number_in
says_number (Ok m) = refl
says_number (Err r) = refl

else_3 : (b c : Bool) {n : ℕ} → n ≡ number_in (cond b (number 7) (cond c (number 2) (number 3))) → (n ≡ 7 → ⊥) → (n ≡ 2 → ⊥) → n ≡ 3
unfolding number_in
else_3 true c e p q = absurd (p e)
else_3 false true e p q = absurd (q e)
else_3 false false e p q = e

pub one_bit_wrong : OneBitWrong
one_bit_wrong message bit a i table time back b =
    let m : List ℕ = flipped bit message in
    else_3 (earns7 bytes table) (earns2 bytes table time)
    (number_is b
    ∙ says_number (received table m time).answer
    ∙ ap number_in (says_the_table bytes bytes_lawful table m time ∙ damaged_table bytes table m time (damaged message bit a i)))

pub one_bit_wrong_decoded : OneBitWrongDecoded
unfolding into
one_bit_wrong_decoded message bit a i fields back h b =
    decode_is b
    ∙ ap (λ (d : Result Message Refusal). into 28 fields (message_said d)) (damaged_is_3 (flipped bit message) (damaged message bit a i))
    ∙ rw (eq-eqb _ _ h)
