-- RULES 10.4, 10.5 and 19.3: what the answers say in the rules' terms: the numbers that a stamp earns, in their order, or its time; and then what a message received at that time earns.
use Rattle.std.specs.Prelude.{ℕ, ◌+◌, ◌^◌, Bool, cond, ◌&&◌, List, nat_le, nat_lt, Result, Ok, Err}
use Rattle.refusals.specs.Numbers.{number_of}
use Rattle.refusals.specs.Said.{Said, number, gives}
use Rattle.layouts.specs.Said.{Values}
use Rattle.messages.specs.Said.{earns1}
use Rattle.rules.specs.Form.{Form}
use Rattle.rules.specs.Said.{earns7, receive_table}
use Rattle.stamps.specs.declared.Stamps.{Stamps}
use Rattle.stamps.specs.Stamps.{distance}
use Rattle.refusals.specs.declared.Refusal.{Refusal}

-- a number, or what comes of the time
abbrev pub told : {A : Type 0} → (ℕ → Said A) → Result ℕ Refusal → Said A
told f (Ok time) = f time
told f (Err r) = number (number_of r)

-- the answer of `extend`
abbrev pub extended_said : Result ℕ Refusal → Said ℕ
extended_said = told gives

-- 2: a distance of 2^31 or more; of a stamp that is taken as it is, a time below the clock
abbrev pub earns2 : Stamps → ℕ → ℕ → Bool
earns2 state clock stamp = cond state.started (nat_le (2 ^ 31) (distance state.last stamp)) (nat_lt stamp clock)

-- 13: the extended time would pass 2^64 - 1
abbrev pub earns13 : Stamps → ℕ → ℕ → Bool
earns13 state clock stamp = state.started && nat_le (2 ^ 64) (clock + distance state.last stamp)

-- else the time
abbrev pub time_for : Stamps → ℕ → ℕ → ℕ
time_for state clock stamp = cond state.started (clock + distance state.last stamp) stamp

abbrev pub extend_table : Stamps → ℕ → ℕ → Said ℕ
extend_table state clock stamp =
    cond (earns2 state clock stamp) (number 2)
    (cond (earns13 state clock stamp) (number 13)
    (gives (time_for state clock stamp)))

-- for a message received with a stamp the order is 1, 7, 2, 13; then it is one received at the time
abbrev pub stamp_table : {S : Type 0} → Form S → S → Stamps → List ℕ → ℕ → Said Values
stamp_table F s state m stamp =
    cond (earns1 m) (number 1)
    (cond (earns7 F s) (number 7)
    (cond (earns2 state (F.clock s) stamp) (number 2)
    (cond (earns13 state (F.clock s) stamp) (number 13)
    (receive_table F s m (time_for state (F.clock s) stamp)))))
