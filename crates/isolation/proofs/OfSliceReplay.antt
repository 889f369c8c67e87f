-- A replay is the table, of the code of `slice_table`: if the clauses of its calls all hold, from a set-up on, what `look_up` then answers is what `replay` answers on the log of these calls.
-- Assumes nothing.
use Rattle.std.specs.Prelude.{Result, Ok, Option, ⊤}
use Prim.Native.Nat.{ℕ, ◌≤◌, ◌<◌}
use mathlib.Core.Bool.{false}
use mathlib.Core.Path.{◌≡◌, ap, ap₂, sym, ◌∙◌, subst}
use mathlib.Core.List.{List}
use lib.ListN.{length}
use seplogic.Ra.Ura.{Ura}
use base.Logic.{SProp, ent, sep}
use prog.Memory.{Memory}
use prog.Routine.{Routine}
use types.Logic.{Logic}
use contract.Lifetimes.{Lfts}
use contract.Monad.{Fun, fact}
use denote.Triple.Entry.{Args, Res}
use denote.Triple.Clauses.{AtExit}
use Rattle.refusals.specs.Numbers.{most_records}
use Rattle.refusals.proofs.Clauses.{so_too, both_say}
use Rattle.keys.specs.declared.Kind.{Kind}
use Rattle.keys.specs.Keys.{addresses, key_for}
use Rattle.whereabouts.specs.declared.Site.{Site}
use Rattle.replay.specs.Replay.{is_wide}
use Rattle.rules.specs.Form.{East}
use Rattle.rules.specs.Rules.{set_up, received, looked_up}
use Rattle.slice_table.specs.Slice.{Slice, slice_of, slice}
use Rattle.slice_table.specs.Tracks.{After}
use Rattle.slice_table.proofs.Lawful.{slice_lawful}
use Rattle.slice_table.specs.contracts.look_up as look_up
use Rattle.isolation.specs.Runs.{Call}
use Rattle.isolation.specs.Played.{left_by, NotFull}
use Rattle.isolation.specs.Code.{Played}
use Rattle.isolation.specs.Logs.{log_of}
use Rattle.isolation.proofs.OfReplay.{ReplayMet, replay_is}
use Rattle.isolation.proofs.OfSlice.{Begun, Ran, begun, ran, begun_is, ran_played}
use Rattle.isolation.proofs.Played.{played_left, played_never}
use Rattle.isolation.proofs.Replayed.{replays}
use Rattle.messages.specs.declared.Message.{Message}
use Rattle.refusals.specs.declared.Refusal.{Refusal}
use Rattle.track.specs.declared.Track.{Track}

module _ {M : Type 1} {𝓤 : Ura M} (𝓛 : Logic 𝓤) (mem : Memory → SProp 𝓤) (run : Routine → Fun 𝓤) where
  -- `look_up` was lent the places, and was given the head and a key
  pub record LookedUp (s : Slice) (key : ℕ) (x : Result (Option Track) Refusal) : Type 0 where
    pub κs : Lfts (look_up.ended).signature.lifetimes
    pub args : Args (look_up.ended).signature κs
    pub ghost : (look_up.clauses 𝓛 mem run κs args).ghost
    pub result : Res (look_up.ended).signature κs
    pub left : AtExit look_up.ended κs
    pub lent : slice_of args.1.0 args.0.now ≡ s
    pub asked : args.1.1.0 ≡ key
    pub answers : result ≡ x

  -- what its contract promises
  abbrev pub looked : {s : Slice} {key : ℕ} {x : Result (Option Track) Refusal} → LookedUp s key x → SProp 𝓤
  looked b = (look_up.clauses 𝓛 mem run b.κs b.args).ensures b.ghost b.result b.left

  looked_is : {s : Slice} {key : ℕ} {x : Result (Option Track) Refusal} (b : LookedUp s key x) → ent 𝓤 (looked b) (fact 𝓤 (x ≡ looked_up slice s key))
  looked_is b = so_too 𝓤 _ _ (λ p. sym b.answers ∙ p ∙ ap₂ (looked_up slice) b.lent b.asked)

  module _ (kind : Kind) (address : ℕ) (site : Site) (few : address < addresses) (narrow : is_wide kind ≡ false) (east : East site) (s : Slice) (a : After (Result ⊤ Refusal)) (done : a.answer ≡ Ok tt)
      (cs : List Call) (rs : List (After (Result Message Refusal))) (most : length cs ≤ most_records) (never : NotFull (key_for kind address) cs rs) where
    by_rules : a ≡ set_up slice s site → Played (received slice) a.table cs rs → {x y : Result (Option Track) Refusal} → ReplayMet (log_of cs) kind address site x → y ≡ looked_up slice (left_by a.table rs) (key_for kind address) → x ≡ y
    by_rules d p r q =
        let t : Slice = (set_up slice s site).table in
        let played : Played (received slice) t cs rs = subst (λ (z : After (Result ⊤ Refusal)). Played (received slice) z.table cs rs) d p in
        replay_is r
        ∙ replays slice slice_lawful kind address site few narrow east s (sym (ap (λ (z : After (Result ⊤ Refusal)). z.answer) d) ∙ done) cs most (played_never slice (received slice) (key_for kind address) t cs rs played never)
        ∙ ap (λ (z : Slice). looked_up slice z (key_for kind address)) (sym (played_left slice (received slice) (key_for kind address) t cs rs played) ∙ sym (ap (λ (z : After (Result ⊤ Refusal)). left_by z.table rs) d))
        ∙ sym q

    -- from a set-up on, as long as 6 was answered to none of the key's messages
    pub slice_code_replayed : (u : Begun 𝓛 mem run site s a) (w : Ran 𝓛 mem run a.table cs rs) {x y : Result (Option Track) Refusal} → ReplayMet (log_of cs) kind address site x
        → (q : LookedUp (left_by a.table rs) (key_for kind address) y)
        → ent 𝓤 (sep 𝓤 (sep 𝓤 (begun 𝓛 mem run u) (ran 𝓛 mem run w)) (looked q)) (fact 𝓤 (x ≡ y))
    slice_code_replayed u w {x} {y} r q =
        both_say 𝓤 (sep 𝓤 (begun 𝓛 mem run u) (ran 𝓛 mem run w)) (looked q) ((a ≡ set_up slice s site) × Played (received slice) a.table cs rs) (y ≡ looked_up slice (left_by a.table rs) (key_for kind address)) _
        (both_say 𝓤 (begun 𝓛 mem run u) (ran 𝓛 mem run w) _ _ _ (begun_is 𝓛 mem run u) (ran_played 𝓛 mem run w) (λ p z. (p, z)))
        (looked_is q) (λ p z. by_rules p.0 p.1 r z)
