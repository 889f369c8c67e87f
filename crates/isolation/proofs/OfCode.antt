-- Demand 3 of the code of `table`: whatever meets the contracts of `set_up`, `set_up_at` and `receive`, call by call, shows an aircraft the same in two alike runs.
-- A call that meets its contract does what the rule says, so a run is one that was played by the rules.
-- Assumes nothing.
use Rattle.std.specs.Prelude.{Result, Ok, Option, Some, None, ⊤}
use Prim.Native.Nat.{ℕ}
use mathlib.Core.Path.{◌≡◌, ap, ap₂, sym, ◌∙◌}
use mathlib.Core.List.{List, [], ◌∷◌}
use contract.Lifetimes.{Lfts}
use denote.Triple.Clauses.{AtExit}
use borrow.Fn.Kinds.{Dens, ended_of}
use Rattle.positions.specs.declared.Spot.{Spot}
use Rattle.whereabouts.specs.declared.Site.{Site}
use Rattle.whereabouts.specs.Located.{no_site, site_at}
use Rattle.rules.specs.Form.{East}
use Rattle.rules.specs.Rules as rules
use Rattle.table.specs.Bytes.{bytes}
use Rattle.table.specs.Table.{After, after, set_up, set_up_at, received}
use Rattle.table.proofs.set_up.Kinds as set-up-kinds
use Rattle.table.proofs.set_up.Reads as set-up
use Rattle.table.proofs.set_up_at.Kinds as set-up-at-kinds
use Rattle.table.proofs.set_up_at.Reads as set-up-at
use Rattle.table.proofs.receive.Kinds as receive-kinds
use Rattle.table.proofs.receive.Reads as receive
use Rattle.isolation.specs.Runs.{Call, Alike}
use Rattle.isolation.specs.Played.{shown, NotFull}
use Rattle.isolation.specs.Code.{Played}
use Rattle.isolation.proofs.Both.{bytes_isolated}
use Rattle.isolation.proofs.Played.{played_isolated}
use Rattle.messages.specs.declared.Message.{Message}
use Rattle.refusals.specs.declared.Refusal.{Refusal}

-- ---- calls that met their contracts

-- `set_up` was lent the table s, answered, and left a table
pub record SetUpMet (s : List ℕ) (r : After (Result ⊤ Refusal)) : Type 0 where
  pub κs : Lfts 1
  pub args : Dens κs set-up-kinds.ps
  pub left : AtExit (ended_of 1 set-up-kinds.ps set-up-kinds.r) κs
  pub lent : args.0.now ≡ s
  pub table : left.0.now ≡ r.table
  pub meets : set-up.Post κs args r.answer left

-- `set_up_at` was given the site too
pub record SetUpAtMet (site : Spot) (s : List ℕ) (r : After (Result ⊤ Refusal)) : Type 0 where
  pub κs : Lfts 1
  pub args : Dens κs set-up-at-kinds.ps
  pub left : AtExit (ended_of 1 set-up-at-kinds.ps set-up-at-kinds.r) κs
  pub lent : args.0.now ≡ s
  pub given : args.1.0 ≡ site
  pub table : left.0.now ≡ r.table
  pub meets : set-up-at.Post κs args r.answer left

abbrev pub Begun : Option Spot → List ℕ → After (Result ⊤ Refusal) → Type 0
Begun None s r = SetUpMet s r
Begun (Some site) s r = SetUpAtMet site s r

-- `receive` was lent the table s and a message, and was given its time
pub record Received (s message : List ℕ) (time : ℕ) (r : After (Result Message Refusal)) : Type 0 where
  pub κs : Lfts 2
  pub args : Dens κs receive-kinds.ps
  pub left : AtExit (ended_of 2 receive-kinds.ps receive-kinds.r) κs
  pub lent : args.0.now ≡ s
  pub brings : args.1.0.now ≡ message
  pub times : args.1.1.0 ≡ time
  pub table : left.0.now ≡ r.table
  pub meets : receive.Post κs args r.answer left

-- one after another, each lent the table that the one before left
pub data Ran : List ℕ → List Call → List (After (Result Message Refusal)) → Type 0 where
  stopped : (s : List ℕ) → Ran s [] []
  then : {s : List ℕ} {c : Call} {r : After (Result Message Refusal)} {cs : List Call} {rs : List (After (Result Message Refusal))}
      → Received s c.message c.time r → Ran r.table cs rs → Ran s (c ∷ cs) (r ∷ rs)

-- ---- they did what the rules say

-- the site of a run: none after `set_up`
abbrev pub given : Option Spot → Site
given None = no_site
given (Some site) = site_at site

pub begun_is : (site : Option Spot) (s : List ℕ) (r : After (Result ⊤ Refusal)) → Begun site s r → r ≡ rules.set_up bytes s (given site)
begun_is None s r b = ap (after r.answer) (sym b.table) ∙ b.meets ∙ ap set_up b.lent
begun_is (Some site) s r b = ap (after r.answer) (sym b.table) ∙ b.meets ∙ ap₂ set_up_at b.lent b.given

pub received_is : {s message : List ℕ} {time : ℕ} {r : After (Result Message Refusal)} → Received s message time r → r ≡ received s message time
received_is {s} {message} {time} {r} b =
    ap (after r.answer) (sym b.table)
    ∙ b.meets
    ∙ ap₂ (λ (x : List ℕ) (m : List ℕ). received x m b.args.1.1.0) b.lent b.brings
    ∙ ap (received s message) b.times

pub ran_played : {s : List ℕ} {cs : List Call} {rs : List (After (Result Message Refusal))} → Ran s cs rs → Played received s cs rs
ran_played (stopped s) = tt
ran_played (then b more) = (received_is b, ran_played more)

-- two runs of the code from a set-up each, alike for an aircraft, show it the same
pub code_isolated : (key : ℕ) (site : Option Spot) → East (given site) → (s t : List ℕ) (a b : After (Result ⊤ Refusal)) → Begun site s a → Begun site t b → a.answer ≡ Ok tt → b.answer ≡ Ok tt
    → {xs ys : List Call} → Alike key xs ys → {ps qs : List (After (Result Message Refusal))} → Ran a.table xs ps → Ran b.table ys qs
    → NotFull key xs ps → NotFull key ys qs → shown bytes key xs ps ≡ shown bytes key ys qs
code_isolated key site east s t a b u v p q {xs} {ys} alike {ps} {qs} x y =
    played_isolated bytes bytes received received bytes_isolated key (given site) east s t a b (begun_is site s a u) (begun_is site t b v) p q xs ys alike ps qs (ran_played x) (ran_played y)
