-- Demand 3 over equal stamps, of the forms and of the code of `stamps`: whatever meets the contracts of `set_up` or `set_up_at`, and of `receive` of `stamps`, call by call, shows an aircraft the same in two alike runs.
-- Assumes nothing.
use Rattle.std.specs.Prelude.{Result, Ok, Option, ⊤}
use Prim.Native.Nat.{ℕ}
use mathlib.Core.Path.{◌≡◌, ap, ap₂, sym, ◌∙◌}
use mathlib.Core.List.{List, [], ◌∷◌}
use Rattle.positions.specs.declared.Spot.{Spot}
use Rattle.rules.specs.Form.{East}
use Rattle.rules.specs.Rules as rules
use Rattle.table.specs.Bytes.{bytes}
use Rattle.table.specs.Table.{After}
use Rattle.table.proofs.Lawful.{bytes_lawful}
use Rattle.slice_table.specs.Slice.{slice}
use Rattle.slice_table.proofs.Lawful.{slice_lawful}
use Rattle.stamps.specs.declared.Stamped.{Stamped}
use Rattle.stamps.specs.Stamps.{fresh}
use Rattle.stamps.proofs.OfCode.{Received, received_is}
use Rattle.isolation.specs.Runs.{Call, Alike}
use Rattle.isolation.specs.Played.{shown, NotFull}
use Rattle.isolation.specs.Code.{Played}
use Rattle.isolation.specs.Stamped.{Kept, beside, kept, keeping, by_stamp, StampedIsolation}
use Rattle.isolation.proofs.OfCode.{Begun, given, begun_is}
use Rattle.isolation.proofs.Played.{played_isolated}
use Rattle.isolation.proofs.Stamped.{set_up_done, stamped_isolation}
use Rattle.messages.specs.declared.Message.{Message}
use Rattle.refusals.specs.declared.Refusal.{Refusal}

pub bytes_stamped : StampedIsolation bytes bytes
bytes_stamped = stamped_isolation bytes bytes bytes_lawful bytes_lawful

pub slice_stamped : StampedIsolation slice slice
slice_stamped = stamped_isolation slice slice slice_lawful slice_lawful

-- ---- calls of the code, one after another, each lent the table and given the state that the one before left

pub data Ran : Kept (List ℕ) → List Call → List (rules.After (Kept (List ℕ)) (Result Message Refusal)) → Type 0 where
  stopped : (k : Kept (List ℕ)) → Ran k [] []
  then : {k : Kept (List ℕ)} {c : Call} {r : After Stamped} {cs : List Call} {rs : List (rules.After (Kept (List ℕ)) (Result Message Refusal))}
      → Received k.table k.state c.message c.time r → Ran (beside r.table r.answer.state) cs rs → Ran k (c ∷ cs) (keeping r ∷ rs)

ran_played : {k : Kept (List ℕ)} {cs : List Call} {rs : List (rules.After (Kept (List ℕ)) (Result Message Refusal))} → Ran k cs rs → Played (by_stamp bytes) k cs rs
ran_played (stopped k) = tt
ran_played (then b more) = (ap keeping (received_is b), ran_played more)

-- the set-up of the code, with a fresh state beside the table
begun_beside : (site : Option Spot) (s : List ℕ) (a : After (Result ⊤ Refusal)) → Begun site s a → a.answer ≡ Ok tt
    → rules.after a.answer (beside a.table fresh) ≡ rules.set_up (kept bytes) (beside s fresh) (given site)
begun_beside site s a u d =
    let e = begun_is site s a u in
    ap₂ (λ (x : Result ⊤ Refusal) (l : List ℕ). rules.after x (beside l fresh)) d (ap (λ (x : After (Result ⊤ Refusal)). x.table) e)
    ∙ sym (set_up_done bytes (beside s fresh) (given site) (sym (ap (λ (x : After (Result ⊤ Refusal)). x.answer) e) ∙ d))

-- two runs of the code from a set-up each with fresh states, alike for an aircraft by equal stamps, show it the same
pub code_stamped_isolated : (key : ℕ) (site : Option Spot) → East (given site) → (s t : List ℕ) (a b : After (Result ⊤ Refusal)) → Begun site s a → Begun site t b → a.answer ≡ Ok tt → b.answer ≡ Ok tt
    → {xs ys : List Call} → Alike key xs ys → {ps qs : List (rules.After (Kept (List ℕ)) (Result Message Refusal))} → Ran (beside a.table fresh) xs ps → Ran (beside b.table fresh) ys qs
    → NotFull key xs ps → NotFull key ys qs → shown (kept bytes) key xs ps ≡ shown (kept bytes) key ys qs
code_stamped_isolated key site east s t a b u v d e {xs} {ys} alike {ps} {qs} x y =
    played_isolated (kept bytes) (kept bytes) (by_stamp bytes) (by_stamp bytes) bytes_stamped key (given site) east (beside s fresh) (beside t fresh)
    (rules.after a.answer (beside a.table fresh)) (rules.after b.answer (beside b.table fresh))
    (begun_beside site s a u d) (begun_beside site t b v e) d e xs ys alike ps qs (ran_played x) (ran_played y)
