-- RULES 2.16: what the encoder answers, and what the buffer holds afterwards.
use Rattle.std.specs.Prelude.{⊤, ℕ, List, cond, not, ◌&&◌, eqb, length, Result, Ok, Err}
use Rattle.refusals.specs.declared.Refusal.TheVariants.{Length, Field}
use Rattle.refusals.specs.Numbers.{number_of}
use Rattle.refusals.specs.Said.{Said, number, gives}
use Rattle.messages.specs.declared.Message.{Message}
use Rattle.messages.specs.Message.{message_fits, message_bytes}
use Rattle.refusals.specs.declared.Refusal.{Refusal}

-- 1, then 8
abbrev pub encoded : Message → List ℕ → Result ⊤ Refusal
encoded m out =
    cond (not (eqb (length out) 14)) (Err Length)
    (cond (not (message_fits m)) (Err Field)
    (Ok tt))

-- what the buffer holds afterwards: after a refusal what it held
abbrev pub encoded_bytes : Message → List ℕ → List ℕ
encoded_bytes m out = cond (eqb (length out) 14 && message_fits m) (message_bytes m) out

-- what that says in the rules' terms
abbrev pub wrote : Result ⊤ Refusal → List ℕ → Said (List ℕ)
wrote (Ok tt) out = gives out
wrote (Err r) out = number (number_of r)
