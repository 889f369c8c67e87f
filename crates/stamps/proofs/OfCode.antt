-- The times are right of the code: whatever meets the contract of `receive`, call by call, is a run that was played by the rule.
-- Assumes nothing.
use Rattle.std.specs.Prelude.{Result, Ok, None, ⊤}
use Rattle.std.proofs.Common.{◌≡◌, ℕ, List, [], ◌∷◌, sym, ap, ◌∙◌, subst, ap₂}
use contract.Lifetimes.{Lfts}
use denote.Triple.Clauses.{AtExit}
use borrow.Fn.Kinds.{Dens, ended_of}
use Rattle.whereabouts.specs.declared.Site.{Site}
use Rattle.rules.specs.Form.{East}
use Rattle.rules.specs.Rules.{set_up}
use Rattle.table.specs.Bytes.{bytes}
use Rattle.table.specs.Table.{After, after}
use Rattle.table.proofs.Lawful.{bytes_lawful}
use Rattle.stamps.specs.declared.Stamps.{Stamps}
use Rattle.stamps.specs.declared.Stamped.{Stamped}
use Rattle.stamps.specs.Stamps.{fresh, stamped}
use Rattle.stamps.specs.Times.{Call, stamp_of, Played, FirstTrue, NeverBack, NoneFar, Right}
use Rattle.stamps.proofs.Extension.{times_right}
use Rattle.stamps.proofs.receive.Kinds as receive-kinds
use Rattle.stamps.proofs.receive.Reads as receive
use Rattle.refusals.specs.declared.Refusal.{Refusal}

-- `receive` was lent the table s and some bytes, was given a state and a stamp, and left a table
pub record Received (s : List ℕ) (state : Stamps) (message : List ℕ) (stamp : ℕ) (r : After Stamped) : Type 0 where
  pub κs : Lfts 2
  pub args : Dens κs receive-kinds.ps
  pub left : AtExit (ended_of 2 receive-kinds.ps receive-kinds.r) κs
  pub lent : args.0.now ≡ s
  pub given : args.1.0 ≡ state
  pub brings : args.1.1.0.now ≡ message
  pub stamps : args.1.1.1.0 ≡ stamp
  pub table : left.0.now ≡ r.table
  pub meets : receive.Post κs args r.answer left

pub received_is : {s : List ℕ} {state : Stamps} {message : List ℕ} {stamp : ℕ} {r : After Stamped} → Received s state message stamp r → r ≡ stamped bytes s state message stamp
received_is {s} {state} {message} {stamp} {r} b =
    ap (after r.answer) (sym b.table)
    ∙ b.meets
    ∙ ap₂ (λ (x : List ℕ) (o : Stamps). stamped bytes x o b.args.1.1.0.now b.args.1.1.1.0) b.lent b.given
    ∙ ap₂ (stamped bytes s state) b.brings b.stamps

-- one after another, each lent the table and given the state that the one before left
pub data Ran : List ℕ → Stamps → List Call → List (After Stamped) → Type 0 where
  stopped : (s : List ℕ) (state : Stamps) → Ran s state [] []
  then : {s : List ℕ} {state : Stamps} {c : Call} {r : After Stamped} {cs : List Call} {rs : List (After Stamped)}
      → Received s state c.message (stamp_of c.time) r → Ran r.table r.answer.state cs rs → Ran s state (c ∷ cs) (r ∷ rs)

ran_played : {s : List ℕ} {state : Stamps} {cs : List Call} {rs : List (After Stamped)} → Ran s state cs rs → Played bytes s state cs rs
ran_played (stopped s state) = tt
ran_played (then b more) = (received_is b, ran_played more)

-- a is what `set_up` or `set_up_at` promises: the equation is their contract
pub code_times_right : (s : List ℕ) (site : Site) → East site → (a : After (Result ⊤ Refusal)) → a ≡ set_up bytes s site → a.answer ≡ Ok tt
    → {cs : List Call} {rs : List (After Stamped)} → Ran a.table fresh cs rs
    → FirstTrue cs rs → NeverBack 0 cs → NoneFar None cs rs → Right bytes cs rs
code_times_right s site east a e d {cs} {rs} ran =
    times_right bytes bytes_lawful s site east (sym (ap (λ (x : After (Result ⊤ Refusal)). x.answer) e) ∙ d) cs rs
    (subst (λ (x : After (Result ⊤ Refusal)). Played bytes x.table fresh cs rs) e (ran_played ran))
