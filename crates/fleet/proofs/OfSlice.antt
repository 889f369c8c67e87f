-- Tables side by side, of the code of `slice_table`: of two runs of its calls whose clauses all hold, each from a set-up and sparse for an aircraft, it is told the same, and a question for it is answered the same.
-- Assumes nothing.
use Rattle.std.specs.Prelude.{Result, Ok, ⊤}
use Prim.Native.Nat.{ℕ}
use mathlib.Core.Path.{◌≡◌}
use mathlib.Core.List.{List}
use seplogic.Ra.Ura.{Ura}
use base.Logic.{SProp, ent, sep}
use prog.Memory.{Memory}
use prog.Routine.{Routine}
use types.Logic.{Logic}
use contract.Monad.{Fun, fact}
use Rattle.whereabouts.specs.declared.Site.{Site}
use Rattle.rules.specs.Form.{East}
use Rattle.rules.specs.Rules.{set_up, received}
use Rattle.slice_table.specs.Slice.{Slice, slice}
use Rattle.slice_table.specs.Tracks.{After}
use Rattle.slice_table.proofs.Lawful.{slice_lawful}
use Rattle.refusals.proofs.Clauses.{both_say}
use Rattle.isolation.specs.Runs.{Call}
use Rattle.isolation.specs.Code.{Played}
use Rattle.isolation.specs.Played.{NotFull}
use Rattle.isolation.proofs.OfSlice.{Begun, Ran, begun, ran, begun_is, ran_played}
use Rattle.fleet.specs.Sparse.{latest, Sparse, SamePlayed, Shards}
use Rattle.fleet.specs.Fleet.{Dealt}
use Rattle.fleet.proofs.Shards.{shards}
use Rattle.fleet.proofs.Fleet.{dealt_sparse}
use Rattle.fleet.proofs.Played.{played_shards}
use Rattle.messages.specs.declared.Message.{Message}
use Rattle.refusals.specs.declared.Refusal.{Refusal}

pub slice_shards : Shards slice slice (received slice) (received slice)
slice_shards = shards slice slice slice_lawful slice_lawful

module _ {M : Type 1} {𝓤 : Ura M} (𝓛 : Logic 𝓤) (mem : Memory → SProp 𝓤) (run : Routine → Fun 𝓤) where
  pub slice_code_shards : (key : ℕ) (site : Site) → East site → (s t : Slice) (a b : After (Result ⊤ Refusal)) (u : Begun 𝓛 mem run site s a) (v : Begun 𝓛 mem run site t b) → a.answer ≡ Ok tt → b.answer ≡ Ok tt
      → {xs ys : List Call} → Sparse key xs ys → {ps qs : List (After (Result Message Refusal))} (x : Ran 𝓛 mem run a.table xs ps) (y : Ran 𝓛 mem run b.table ys qs) → NotFull key xs ps → NotFull key ys qs
      → ent 𝓤 (sep 𝓤 (sep 𝓤 (begun 𝓛 mem run u) (ran 𝓛 mem run x)) (sep 𝓤 (begun 𝓛 mem run v) (ran 𝓛 mem run y))) (fact 𝓤 (SamePlayed slice slice key a.table b.table xs ys ps qs))
  slice_code_shards key site east s t a b u v d e {xs} {ys} sparse {ps} {qs} x y f g =
      both_say 𝓤 (sep 𝓤 (begun 𝓛 mem run u) (ran 𝓛 mem run x)) (sep 𝓤 (begun 𝓛 mem run v) (ran 𝓛 mem run y))
      ((a ≡ set_up slice s site) × Played (received slice) a.table xs ps) ((b ≡ set_up slice t site) × Played (received slice) b.table ys qs) _
      (both_say 𝓤 (begun 𝓛 mem run u) (ran 𝓛 mem run x) _ _ _ (begun_is 𝓛 mem run u) (ran_played 𝓛 mem run x) (λ p q. (p, q)))
      (both_say 𝓤 (begun 𝓛 mem run v) (ran 𝓛 mem run y) _ _ _ (begun_is 𝓛 mem run v) (ran_played 𝓛 mem run y) (λ p q. (p, q)))
      (λ p q. played_shards slice slice slice_shards key site east s t a b p.0 q.0 d e xs ys sparse ps qs p.1 q.1 f g)

  -- a fleet of them beside one, at a moment at which the clock of the key's table is the stream's
  pub slice_code_fleet : (which : ℕ → ℕ) (site : Site) → East site
      → (s : Slice) (a : After (Result ⊤ Refusal)) (u : Begun 𝓛 mem run site s a) → a.answer ≡ Ok tt
      → (t : ℕ → Slice) (b : ℕ → After (Result ⊤ Refusal)) (v : (i : ℕ) → Begun 𝓛 mem run site (t i) (b i)) → ((i : ℕ) → (b i).answer ≡ Ok tt)
      → (stream : List Call) (deal : ℕ → List Call) → ((i : ℕ) → Dealt which i 0 stream (deal i))
      → (ps : List (After (Result Message Refusal))) (x : Ran 𝓛 mem run a.table stream ps) (qs : ℕ → List (After (Result Message Refusal))) (y : (i : ℕ) → Ran 𝓛 mem run (b i).table (deal i) (qs i))
      → (key : ℕ) → latest 0 (deal (which key)) ≡ latest 0 stream → NotFull key stream ps → NotFull key (deal (which key)) (qs (which key))
      → ent 𝓤 (sep 𝓤 (sep 𝓤 (begun 𝓛 mem run u) (ran 𝓛 mem run x)) (sep 𝓤 (begun 𝓛 mem run (v (which key))) (ran 𝓛 mem run (y (which key)))))
      (fact 𝓤 (SamePlayed slice slice key a.table (b (which key)).table stream (deal (which key)) ps (qs (which key))))
  slice_code_fleet which site east s a u p t b v q stream deal dealt ps x qs y key e =
      let i : ℕ = which key in
      slice_code_shards key site east s (t i) a (b i) u (v i) p (q i) (dealt_sparse which key (dealt i) e) x (y i)
