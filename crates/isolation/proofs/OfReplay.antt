-- A replay is the table, of the code: whatever meets the contracts of `set_up`, `set_up_at`, `receive` and `look_up`, call by call, and whatever meets that of `replay` on the log of these calls answer alike.
-- Assumes nothing.
use Rattle.std.specs.Prelude.{Result, Ok, Option, ⊤}
use Prim.Native.Nat.{ℕ, ◌^◌, ◌≤◌, ◌<◌}
use mathlib.Core.Bool.{false}
use mathlib.Core.Path.{◌≡◌, ap, ap₂, sym, ◌∙◌, subst}
use mathlib.Core.List.{List}
use lib.ListN.{length}
use contract.Lifetimes.{Lfts}
use denote.Triple.Clauses.{AtExit}
use borrow.Fn.Kinds.{Dens, ended_of}
use Rattle.keys.specs.Keys.{key_for}
use Rattle.keys.specs.declared.Kind.{Kind}
use Rattle.positions.specs.declared.Spot.{Spot}
use Rattle.whereabouts.specs.declared.Site.{Site}
use Rattle.replay.specs.Replay.{is_wide, replayed}
use Rattle.replay.proofs.replay.Kinds as replay-kinds
use Rattle.replay.proofs.replay.Reads as replay
use Rattle.rules.specs.Form.{East}
use Rattle.rules.specs.Rules as rules
use Rattle.table.specs.Bytes.{bytes}
use Rattle.table.specs.Table.{After, received, looked_up}
use Rattle.table.proofs.Lawful.{bytes_lawful}
use Rattle.table.proofs.look_up.Kinds as look-up-kinds
use Rattle.table.proofs.look_up.Reads as look_up
use Rattle.isolation.specs.Runs.{Call}
use Rattle.isolation.specs.Played.{left_by, NotFull}
use Rattle.isolation.specs.Code.{Played}
use Rattle.isolation.specs.Logs.{log_of}
use Rattle.isolation.proofs.OfCode.{Begun, Ran, given, begun_is, ran_played}
use Rattle.isolation.proofs.Played.{played_left, played_never}
use Rattle.isolation.proofs.Replayed.{replays}
use Rattle.messages.specs.declared.Message.{Message}
use Rattle.refusals.specs.declared.Refusal.{Refusal}
use Rattle.track.specs.declared.Track.{Track}

-- `replay` was lent a log, and given a kind, an address and a site
pub record ReplayMet (log : List ℕ) (kind : Kind) (address : ℕ) (site : Site) (x : Result (Option Track) Refusal) : Type 0 where
  pub κs : Lfts 1
  pub args : Dens κs replay-kinds.ps
  pub left : AtExit (ended_of 1 replay-kinds.ps replay-kinds.r) κs
  pub lent : args.0.now ≡ log
  pub its_kind : args.1.0 ≡ kind
  pub its_address : args.1.1.0 ≡ address
  pub its_site : args.1.1.1.0 ≡ site
  pub meets : replay.Post κs args x left

-- `look_up` was lent a table, and given a key
pub record LookUpMet (s : List ℕ) (key : ℕ) (x : Result (Option Track) Refusal) : Type 0 where
  pub κs : Lfts 1
  pub args : Dens κs look-up-kinds.ps
  pub left : AtExit (ended_of 1 look-up-kinds.ps look-up-kinds.r) κs
  pub lent : args.0.now ≡ s
  pub its_key : args.1.0 ≡ key
  pub meets : look_up.Post κs args x left

pub replay_is : {log : List ℕ} {kind : Kind} {address : ℕ} {site : Site} {x : Result (Option Track) Refusal} → ReplayMet log kind address site x → x ≡ replayed log kind address site
replay_is {log} {kind} {address} {site} b =
    b.meets
    ∙ ap₂ (λ (l : List ℕ) (k : Kind). replayed l k b.args.1.1.0 b.args.1.1.1.0) b.lent b.its_kind
    ∙ ap₂ (λ (a : ℕ) (z : Site). replayed log kind a z) b.its_address b.its_site

pub look_up_is : {s : List ℕ} {key : ℕ} {x : Result (Option Track) Refusal} → LookUpMet s key x → x ≡ looked_up s key
look_up_is b = b.meets ∙ ap₂ looked_up b.lent b.its_key

-- from a set-up on, as long as 6 was answered to none of the key's messages
pub code_replayed : (kind : Kind) (address : ℕ) (site : Option Spot) → address < 2 ^ 24 → is_wide kind ≡ false → East (given site) → (s : List ℕ) (a : After (Result ⊤ Refusal)) → Begun site s a → a.answer ≡ Ok tt
    → {cs : List Call} {rs : List (After (Result Message Refusal))} → Ran a.table cs rs → length cs ≤ 2900 → NotFull (key_for kind address) cs rs
    → {x y : Result (Option Track) Refusal} → ReplayMet (log_of cs) kind address (given site) x → LookUpMet (left_by a.table rs) (key_for kind address) y → x ≡ y
code_replayed kind address site few narrow east s a u done {cs} {rs} ran most never p q =
    let d : a ≡ rules.set_up bytes s (given site) = begun_is site s a u in
    let t : List ℕ = (rules.set_up bytes s (given site)).table in
    let played : Played received t cs rs = subst (λ (z : After (Result ⊤ Refusal)). Played received z.table cs rs) d (ran_played ran) in
    replay_is p
    ∙ replays bytes bytes_lawful kind address (given site) few narrow east s (sym (ap (λ (z : After (Result ⊤ Refusal)). z.answer) d) ∙ done) cs most (played_never bytes received (key_for kind address) t cs rs played never)
    ∙ ap (λ (z : List ℕ). looked_up z (key_for kind address)) (sym (played_left bytes received (key_for kind address) t cs rs played) ∙ sym (ap (λ (z : After (Result ⊤ Refusal)). left_by z.table rs) d))
    ∙ sym (look_up_is q)
