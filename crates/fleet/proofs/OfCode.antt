-- Tables side by side, of the code of `table`: whatever meets the contracts of `set_up`, `set_up_at`, `receive` and `look_up`, call by call, tells and shows an aircraft the same in two sparse runs; and so in a fleet.
-- A call that meets its contract does what the rule says, so a run is one that was played by the rules.
-- Assumes nothing.
use Rattle.std.specs.Prelude.{Result, Ok, Option, ⊤}
use Prim.Native.Nat.{ℕ}
use mathlib.Core.Path.{◌≡◌, sym, ◌∙◌}
use mathlib.Core.List.{List}
use Rattle.positions.specs.declared.Spot.{Spot}
use Rattle.rules.specs.Form.{East}
use Rattle.table.specs.Bytes.{bytes}
use Rattle.table.specs.Table.{After, received}
use Rattle.table.proofs.Lawful.{bytes_lawful}
use Rattle.isolation.specs.Runs.{Call}
use Rattle.isolation.specs.Played.{left_by, NotFull}
use Rattle.isolation.proofs.OfCode.{Begun, Ran, given, begun_is, ran_played}
use Rattle.isolation.proofs.OfReplay.{LookUpMet, look_up_is}
use Rattle.fleet.specs.Sparse.{latest, Sparse, told_by, Shards}
use Rattle.fleet.specs.Fleet.{Dealt}
use Rattle.fleet.proofs.Shards.{shards}
use Rattle.fleet.proofs.Fleet.{dealt_sparse}
use Rattle.fleet.proofs.Played.{played_shards}
use Rattle.messages.specs.declared.Message.{Message}
use Rattle.refusals.specs.declared.Refusal.{Refusal}
use Rattle.track.specs.declared.Track.{Track}

pub bytes_shards : Shards bytes bytes received received
bytes_shards = shards bytes bytes bytes_lawful bytes_lawful

-- what two runs of the code told an aircraft is the same, and so is what `look_up` then answers
pub record SameMet (key : ℕ) (s t : List ℕ) (xs ys : List Call) (ps qs : List (After (Result Message Refusal))) : Type 0 where
  pub answers : told_by key 0 xs ps ≡ told_by key 0 ys qs
  pub asked : {x y : Result (Option Track) Refusal} → LookUpMet (left_by s ps) key x → LookUpMet (left_by t qs) key y → x ≡ y

pub code_shards : (key : ℕ) (site : Option Spot) → East (given site) → (s t : List ℕ) (a b : After (Result ⊤ Refusal)) → Begun site s a → Begun site t b → a.answer ≡ Ok tt → b.answer ≡ Ok tt
    → {xs ys : List Call} → Sparse key xs ys → {ps qs : List (After (Result Message Refusal))} → Ran a.table xs ps → Ran b.table ys qs
    → NotFull key xs ps → NotFull key ys qs → SameMet key a.table b.table xs ys ps qs
code_shards key site east s t a b u v p q {xs} {ys} sparse {ps} {qs} x y f g =
    let same = played_shards bytes bytes bytes_shards key (given site) east s t a b (begun_is site s a u) (begun_is site t b v) p q xs ys sparse ps qs (ran_played x) (ran_played y) f g in
    record { answers = same.answers; asked = λ m n. look_up_is m ∙ same.asked ∙ sym (look_up_is n) }

-- a fleet of them beside one, at a moment at which the clock of the key's table is the stream's
pub code_fleet : (which : ℕ → ℕ) (site : Option Spot) → East (given site)
    → (s : List ℕ) (a : After (Result ⊤ Refusal)) → Begun site s a → a.answer ≡ Ok tt
    → (t : ℕ → List ℕ) (b : ℕ → After (Result ⊤ Refusal)) → ((i : ℕ) → Begun site (t i) (b i)) → ((i : ℕ) → (b i).answer ≡ Ok tt)
    → (stream : List Call) (deal : ℕ → List Call) → ((i : ℕ) → Dealt which i 0 stream (deal i))
    → (ps : List (After (Result Message Refusal))) → Ran a.table stream ps → (qs : ℕ → List (After (Result Message Refusal))) → ((i : ℕ) → Ran (b i).table (deal i) (qs i))
    → (key : ℕ) → latest 0 (deal (which key)) ≡ latest 0 stream → NotFull key stream ps → NotFull key (deal (which key)) (qs (which key))
    → SameMet key a.table (b (which key)).table stream (deal (which key)) ps (qs (which key))
code_fleet which site east s a u p t b v q stream deal dealt ps x qs y key e =
    let i : ℕ = which key in
    code_shards key site east s (t i) a (b i) u (v i) p (q i) (dealt_sparse which key (dealt i) e) x (y i)
