-- RULES 10.1 to 10.6: stamps of 32 bits, extended to 64-bit times, and a message received with one; over any form of the table.
use Rattle.std.specs.Prelude.{ℕ, ◌+◌, ◌-◌, ◌%◌, ◌^◌, true, false, cond, not, List, length, ◌==◌, nat_le, nat_lt, Result, Ok, Err}
use Rattle.refusals.specs.declared.Refusal.TheVariants.{Length, Late, Places, Overrun}
use Rattle.rules.specs.Form.{Form}
use Rattle.rules.specs.Rules.{After, after, received}
use Rattle.stamps.specs.declared.Stamps.{Stamps}
use Rattle.stamps.specs.declared.Stamped.{Stamped}
use Rattle.messages.specs.declared.Message.{Message}
use Rattle.refusals.specs.declared.Refusal.{Refusal}

-- no stamp accepted yet
abbrev pub fresh : Stamps
fresh = record { started = false; last = 0 }

-- the state that an accepted stamp leaves
abbrev pub last_is : ℕ → Stamps
last_is stamp = record { started = true; last = stamp }

-- from the last accepted stamp to another, counted around the 32-bit circle
unfoldable pub distance : ℕ → ℕ → ℕ
distance last stamp = (stamp + 2 ^ 32 - last) % 2 ^ 32

-- until a stamp is accepted, as it is, unless that is below the clock; then its distance from the last accepted one, if below 2^31, is added to the clock, unless that passes 2^64 - 1
unfoldable pub extended : Stamps → ℕ → ℕ → Result ℕ Refusal
extended state clock stamp =
    cond (not state.started) (cond (nat_lt stamp clock) (Err Late) (Ok stamp))
    (cond (nat_le (2 ^ 31) (distance state.last stamp)) (Err Late)
    (cond (nat_le (2 ^ 64) (clock + distance state.last stamp)) (Err Overrun)
    (Ok (clock + distance state.last stamp))))

-- the time of a message with a stamp; 1, 7, then 2 or 13 keep the stamp from being accepted
unfoldable pub time_of : {S : Type 0} → Form S → S → Stamps → List ℕ → ℕ → Result ℕ Refusal
time_of F s state message stamp =
    cond (not (length message == 14)) (Err Length)
    (cond (not (F.whole s)) (Err Places)
    (extended state (F.clock s) stamp))

abbrev pub answered : Result Message Refusal → Stamps → Stamped
answered a state = record { answer = a; state = state }

-- a message whose stamp is accepted is received at its time, and leaves its stamp as the last, whatever it earns there
abbrev pub with_stamp : {S : Type 0} → ℕ → After S (Result Message Refusal) → After S Stamped
with_stamp stamp a = after (answered a.answer (last_is stamp)) a.table

-- one whose stamp is not leaves the table and the state as they were
abbrev pub stamped_by : {S : Type 0} → Form S → S → Stamps → List ℕ → ℕ → Result ℕ Refusal → After S Stamped
stamped_by F s state message stamp (Ok time) = with_stamp stamp (received F s message time)
stamped_by F s state message stamp (Err r) = after (answered (Err r) state) s

unfoldable pub stamped : {S : Type 0} → Form S → S → Stamps → List ℕ → ℕ → After S Stamped
stamped F s state message stamp = stamped_by F s state message stamp (time_of F s state message stamp)
