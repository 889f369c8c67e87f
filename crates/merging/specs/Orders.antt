-- RULES 9.12 and 9.13: two antennas, one instant. Two messages are offered one after the other with the same time, not both acceptable messages of one key. They give the same clock, the same answer to each and the same listing in either order,
-- if neither order answers 6. Places in the table may differ.
use Rattle.std.specs.Prelude.{ℕ, Bool, true, ◌≡◌, List, Result, Err}
use Rattle.refusals.specs.declared.Refusal.TheVariants.{Full}
use Rattle.fields.specs.Bytes.{Bytes}
use Rattle.messages.specs.Message.{decoded}
use Rattle.rules.specs.Form.{Form}
use Rattle.rules.specs.Rules.{After}
use Rattle.rules.specs.View.{view, AllFit}
use Rattle.rules.specs.Agreement.{Call}
use Rattle.table.specs.Bytes.{bytes}
use Rattle.report.specs.Listing.{listing}
use Rattle.isolation.specs.Runs.{is_of, Rule}
use Rattle.messages.specs.declared.Message.{Message}
use Rattle.refusals.specs.declared.Refusal.{Refusal}

-- ---- two messages offered one after the other

-- what each was answered, and the table that both left
pub record Offered (S A : Type 0) : Type 0 where
  pub first : A
  pub second : A
  pub table : S

abbrev pub then : {S A : Type 0} → After S A → After S A → Offered S A
then p q = record { first = p.answer; second = q.answer; table = q.table }

-- by a rule: `received` of a form is the library's. A message is any bytes, of any length
abbrev pub offered : {S : Type 0} → Rule S → S → Call → Call → Offered S (Result Message Refusal)
offered rule s a b =
    let p = rule s a.message a.time in
    then p (rule p.table b.message b.time)

-- ---- what is granted

-- both are acceptable messages, which earn none of 1, 3, 4 and 5, of one key
abbrev pub OfOneKey : Call → Call → Type 0
OfOneKey a b = (key : ℕ) × ((is_of key (decoded a.message) ≡ true) × (is_of key (decoded b.message) ≡ true))

-- an order answers x to neither
abbrev pub Never : {S A : Type 0} → A → Offered S A → Type 0
Never x o = (o.first ≡ x → ⊥) × (o.second ≡ x → ⊥)

-- .. 6
abbrev pub NoSix : {S : Type 0} → Offered S (Result Message Refusal) → Type 0
NoSix o = Never (Err Full) o

pub record Granted {S : Type 0} (rule : Rule S) (s : S) (a b : Call) : Type 0 where
  pub time : a.time ≡ b.time
  pub keys : OfOneKey a b → ⊥
  pub one_way : NoSix (offered rule s a b)
  pub other_way : NoSix (offered rule s b a)

-- ---- what is the same

-- of a table after the one and then the other, and after them the other way round: the clock, the answer to each, and the track of every key, if there is one
pub record Same {S A : Type 0} (F : Form S) (ab ba : Offered S A) : Type 0 where
  pub clock : F.clock ab.table ≡ F.clock ba.table
  pub one : ab.first ≡ ba.second
  pub other : ab.second ≡ ba.first
  pub tracks : (key : ℕ) → view F ab.table key ≡ view F ba.table key

-- .. and the listing, of all tracks or of those with a position, for every number of bad blocks
abbrev pub SameListing : List ℕ → List ℕ → Type 0
SameListing x y = (all : Bool) (bad : ℕ) → listing all x bad ≡ listing all y bad

-- ---- the statements

-- of a form: for every table whose tracks fit, set up or not, though a key be held twice
abbrev pub Merges : {S : Type 0} → Form S → Rule S → Type 0
Merges {S} F rule = (s : S) → AllFit F s → (a b : Call) → Granted rule s a b → Same F (offered rule s a b) (offered rule s b a)

-- of the lent bytes, whatever they are, and however many
abbrev pub TwoAntennas : Rule (List ℕ) → Type 0
TwoAntennas rule =
    (s : List ℕ) → Bytes s → (a b : Call) → Granted rule s a b
    → Same bytes (offered rule s a b) (offered rule s b a) × SameListing (offered rule s a b).table (offered rule s b a).table
