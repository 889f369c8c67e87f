-- RULES 1.4: three wrong rules for a call, in any form. Each lets a stranger's message touch an aircraft's track.
use Rattle.std.specs.Prelude.{ℕ, zero, suc, ◌-◌, cond, eqb, Result, Ok, Err}
use Rattle.refusals.specs.Numbers.{number_of}
use Rattle.messages.specs.Message.{decoded, key_of}
use Rattle.track.specs.Track.{new_track, group_track, stepped}
use Rattle.rules.specs.Form.{Cell, Form}
use Rattle.rules.specs.Rules.{After, after, placed, delivered, received}
use Rattle.isolation.specs.Runs.{Rule}
use Rattle.messages.specs.declared.Message.{Message}
use Rattle.refusals.specs.declared.Refusal.{Refusal}

-- the number of an answer, 0 for a message
abbrev pub number_in : Result Message Refusal → ℕ
number_in (Ok m) = 0
number_in (Err r) = number_of r

-- where the library answers a number, do something else
abbrev pub instead_of : {S : Type 0} → Form S → ℕ → Rule S → Rule S
instead_of F n other s message time =
    cond (eqb (number_in (received F s message time).answer) n)
    (other (received F s message time).table message time)
    (received F s message time)

-- ---- a newcomer to a full table is written over the last place

abbrev pub over_last : {S : Type 0} → Form S → S → Result Message Refusal → ℕ → After S (Result Message Refusal)
over_last F s (Err r) time = after (Err r) s
over_last F s (Ok m) time = placed F s (F.count s - 1) (key_of m) (stepped new_track (Ok m) (F.site s) time)

abbrev pub overwriting : {S : Type 0} → Form S → Rule S
overwriting F = instead_of F 6 (λ s message time. over_last F s (decoded message) time)

-- ---- an accepted message refreshes every track

-- the same track, heard at a time
abbrev pub heard_at : {S : Type 0} → Form S → S → ℕ → Cell → ℕ → S
heard_at F s i c time = F.stored s i c.key (group_track c.track c.track.groups time)

abbrev pub refreshed : {S : Type 0} → Form S → S → ℕ → ℕ → S
refreshed F s zero time = s
refreshed F s (suc i) time = heard_at F (refreshed F s i time) i (F.cell s i) time

abbrev pub refreshing : {S : Type 0} → Form S → Rule S
refreshing F = instead_of F 0 (λ s message time. after (decoded message) (refreshed F s (F.count s) time))

-- ---- a key without its kind: every other is taken for I

abbrev pub as_i : Result Message Refusal → Result Message Refusal
as_i (Err r) = Err r
as_i (Ok m) = Ok (record { format = 17; control = 0; address = m.address; body = m.body })

abbrev pub kindless : {S : Type 0} → Form S → Rule S
kindless F s message time =
    cond (eqb (number_in (received F s message time).answer) 0)
    (delivered F (F.moved s time) (as_i (decoded message)) time)
    (received F s message time)
