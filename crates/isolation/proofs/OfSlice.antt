-- Demand 3 of the code of `slice_table`: of two runs of its calls whose clauses all hold, each from a set-up and alike for an aircraft, it sees the same.
-- The contract of a walked function is a clause in the logic of each model, and so is that of a run: those of its calls together. There it follows that the run was played by the rules.
-- Assumes nothing.
use Rattle.std.specs.Prelude.{Result, Ok, ⊤}
use Prim.Native.Nat.{ℕ}
use mathlib.Core.Path.{◌≡◌, ap, ap₂, sym, ◌∙◌}
use mathlib.Core.List.{List, [], ◌∷◌}
use seplogic.Ra.Ura.{Ura}
use base.Logic.{SProp, ent, sep, emp}
use prog.Memory.{Memory}
use prog.Routine.{Routine}
use types.Logic.{Logic}
use contract.Lifetimes.{Lfts}
use contract.Monad.{Fun, fact, fact_i}
use denote.Triple.Entry.{Args, Res}
use denote.Triple.Clauses.{AtExit}
use Rattle.whereabouts.specs.declared.Site.{Site}
use Rattle.rules.specs.Form.{East}
use Rattle.rules.specs.Rules.{set_up, received}
use Rattle.slice_table.specs.Slice.{Slice, slice_of, slice}
use Rattle.slice_table.specs.Tracks.{After, after}
use Rattle.refusals.proofs.Clauses.{so_too, both_say}
use Rattle.slice_table.specs.contracts.set_up as set-up
use Rattle.slice_table.specs.contracts.receive as receive
use Rattle.isolation.specs.Runs.{Call, Alike, call}
use Rattle.isolation.specs.Played.{shown, NotFull}
use Rattle.isolation.specs.Code.{Played}
use Rattle.isolation.proofs.Both.{slice_isolated}
use Rattle.isolation.proofs.Played.{played_isolated}
use Rattle.messages.specs.declared.Message.{Message}
use Rattle.refusals.specs.declared.Refusal.{Refusal}

module _ {M : Type 1} {𝓤 : Ura M} (𝓛 : Logic 𝓤) (mem : Memory → SProp 𝓤) (run : Routine → Fun 𝓤) where
  -- ---- calls, and their clauses

  -- `set_up` was lent the places, and was given the head and the site; what it answered, with the head, and the places that it left are r
  pub record Begun (site : Site) (s : Slice) (r : After (Result ⊤ Refusal)) : Type 0 where
    pub κs : Lfts (set-up.ended).signature.lifetimes
    pub args : Args (set-up.ended).signature κs
    pub ghost : (set-up.clauses 𝓛 mem run κs args).ghost
    pub result : Res (set-up.ended).signature κs
    pub left : AtExit set-up.ended κs
    pub lent : slice_of args.1.0 args.0.now ≡ s
    pub given : args.1.1.0 ≡ site
    pub leaves : after result.answer result.head left.0.now ≡ r

  -- `receive` was lent the places and some bytes, and was given the head and the time
  pub record Received (s : Slice) (message : List ℕ) (time : ℕ) (r : After (Result Message Refusal)) : Type 0 where
    pub κs : Lfts (receive.ended).signature.lifetimes
    pub args : Args (receive.ended).signature κs
    pub ghost : (receive.clauses 𝓛 mem run κs args).ghost
    pub result : Res (receive.ended).signature κs
    pub left : AtExit receive.ended κs
    pub lent : slice_of args.1.0 args.0.now ≡ s
    pub brings : args.1.1.0.now ≡ message
    pub at : args.1.1.1.0 ≡ time
    pub leaves : after result.answer result.head left.0.now ≡ r

  -- one after another, each lent the places and given the head that the one before left
  pub data Ran : Slice → List Call → List (After (Result Message Refusal)) → Type 0 where
    stopped : (s : Slice) → Ran s [] []
    then : {s : Slice} {c : Call} {r : After (Result Message Refusal)} {cs : List Call} {rs : List (After (Result Message Refusal))} → Received s c.message c.time r → Ran r.table cs rs → Ran s (c ∷ cs) (r ∷ rs)

  -- what their contracts promise, as clauses of the logic
  abbrev pub begun : {site : Site} {s : Slice} {r : After (Result ⊤ Refusal)} → Begun site s r → SProp 𝓤
  begun b = (set-up.clauses 𝓛 mem run b.κs b.args).ensures b.ghost b.result b.left

  abbrev pub got : {s : Slice} {message : List ℕ} {time : ℕ} {r : After (Result Message Refusal)} → Received s message time r → SProp 𝓤
  got b = (receive.clauses 𝓛 mem run b.κs b.args).ensures b.ghost b.result b.left

  abbrev pub ran : {s : Slice} {cs : List Call} {rs : List (After (Result Message Refusal))} → Ran s cs rs → SProp 𝓤
  ran (stopped s) = emp 𝓤
  ran (then b more) = sep 𝓤 (got b) (ran more)

  -- ---- they did what the rules say

  pub begun_is : {site : Site} {s : Slice} {r : After (Result ⊤ Refusal)} (b : Begun site s r) → ent 𝓤 (begun b) (fact 𝓤 (r ≡ set_up slice s site))
  begun_is b = so_too 𝓤 _ _ (λ p. sym b.leaves ∙ p ∙ ap₂ (set_up slice) b.lent b.given)

  pub received_is : {s : Slice} {message : List ℕ} {time : ℕ} {r : After (Result Message Refusal)} (b : Received s message time r) → ent 𝓤 (got b) (fact 𝓤 (r ≡ received slice s message time))
  received_is {s} {message} b =
      so_too 𝓤 _ _ (λ p. sym b.leaves ∙ p ∙ ap₂ (λ (x : Slice) (m : List ℕ). received slice x m b.args.1.1.1.0) b.lent b.brings ∙ ap (received slice s message) b.at)

  pub ran_played : {s : Slice} {cs : List Call} {rs : List (After (Result Message Refusal))} (w : Ran s cs rs) → ent 𝓤 (ran w) (fact 𝓤 (Played (received slice) s cs rs))
  ran_played (stopped s) = fact_i 𝓤 _ (emp 𝓤) tt
  ran_played (then {s} {c} {r} {cs} {rs} b more) =
      both_say 𝓤 (got b) (ran more) (r ≡ call (received slice) s c) (Played (received slice) r.table cs rs) _ (received_is b) (ran_played more) (λ p q. (p, q))

  -- two runs of the code from a set-up each, alike for an aircraft, show it the same
  pub slice_code_isolated : (key : ℕ) (site : Site) → East site → (s t : Slice) (a b : After (Result ⊤ Refusal)) (u : Begun site s a) (v : Begun site t b) → a.answer ≡ Ok tt → b.answer ≡ Ok tt
      → {xs ys : List Call} → Alike key xs ys → {rs zs : List (After (Result Message Refusal))} (x : Ran a.table xs rs) (y : Ran b.table ys zs) → NotFull key xs rs → NotFull key ys zs
      → ent 𝓤 (sep 𝓤 (sep 𝓤 (begun u) (ran x)) (sep 𝓤 (begun v) (ran y))) (fact 𝓤 (shown slice key xs rs ≡ shown slice key ys zs))
  slice_code_isolated key site east s t a b u v d e {xs} {ys} alike {rs} {zs} x y f g =
      both_say 𝓤 (sep 𝓤 (begun u) (ran x)) (sep 𝓤 (begun v) (ran y)) ((a ≡ set_up slice s site) × Played (received slice) a.table xs rs) ((b ≡ set_up slice t site) × Played (received slice) b.table ys zs) _
      (both_say 𝓤 (begun u) (ran x) _ _ _ (begun_is u) (ran_played x) (λ p q. (p, q)))
      (both_say 𝓤 (begun v) (ran y) _ _ _ (begun_is v) (ran_played y) (λ p q. (p, q)))
      (λ p q. played_isolated slice slice (received slice) (received slice) slice_isolated key site east s t a b p.0 q.0 d e xs ys alike rs zs p.1 q.1 f g)
