-- RULES 18.1 to 18.3: a fleet of tables: keys go to tables by any function, and one stream is dealt out to them by the stream's clock, which is its latest time.
use Rattle.std.specs.Prelude.{ℕ, ◌≤◌, Bool, false, cond, not, ◌&&◌, ◌≡◌, List, [], ◌∷◌, ◌++◌, eqb, Result, Ok, Err}
use Rattle.messages.specs.Message.{decoded, key_of}
use Rattle.whereabouts.specs.declared.Site.{Site}
use Rattle.rules.specs.Form.{Form, East}
use Rattle.rules.specs.Rules.{set_up}
use Rattle.isolation.specs.Runs.{Call, Rule, NeverFull}
use Rattle.fleet.specs.Sparse.{late, ticked, latest, Same}
use Rattle.messages.specs.declared.Message.{Message}
use Rattle.refusals.specs.declared.Refusal.{Refusal}

-- whether a message is for a table: one of a key that goes there. What is not acceptable is for none
abbrev pub is_for : (ℕ → ℕ) → ℕ → Result Message Refusal → Bool
is_for which i (Ok m) = eqb (which (key_of m)) i
is_for which i (Err r) = false

abbrev pub call_for : (ℕ → ℕ) → ℕ → Call → Bool
call_for which i c = is_for which i (decoded c.message)

-- a table has its deal of a stream, from a clock of the stream on: each call for it that is not late is handed over. Any other in time may be too; what is late is not. Where one likes, a tick is
-- put in: a call that is not for the table, at a time that is not after the stream's clock
pub data Dealt (which : ℕ → ℕ) (i : ℕ) : ℕ → List Call → List Call → Type 0 where
  end : (clock : ℕ) → Dealt which i clock [] []
  hand : (c : Call) {clock : ℕ} {xs ys : List Call} → clock ≤ c.time → Dealt which i c.time xs ys → Dealt which i clock (c ∷ xs) (c ∷ ys)
  skip : (c : Call) {clock : ℕ} {xs ys : List Call} → call_for which i c && not (late clock c) ≡ false → Dealt which i (ticked clock c) xs ys → Dealt which i clock (c ∷ xs) ys
  tick : (c : Call) {clock : ℕ} {xs ys : List Call} → call_for which i c ≡ false → c.time ≤ clock → Dealt which i clock xs ys → Dealt which i clock xs (c ∷ ys)

-- whenever a table's clock is the stream's, the track of each key that goes there is the one that a single table would have, and what its messages were answered is the same, unless either answered 6 to one of them
abbrev pub Fleet : {S T : Type 0} → Form S → Form T → Rule S → Rule T → Type 0
Fleet {S} {T} F G rule rule' =
    (which : ℕ → ℕ) (site : Site) → East site
    → (s : S) → (set_up F s site).answer ≡ Ok tt → (tables : ℕ → T) → ((i : ℕ) → (set_up G (tables i) site).answer ≡ Ok tt)
    → (stream : List Call) (deal : ℕ → List Call) → ((i : ℕ) → Dealt which i 0 stream (deal i)) → (key : ℕ) → latest 0 (deal (which key)) ≡ latest 0 stream
    → NeverFull rule key (set_up F s site).table stream → NeverFull rule' key (set_up G (tables (which key)) site).table (deal (which key))
    → Same F G rule rule' key (set_up F s site).table (set_up G (tables (which key)) site).table stream (deal (which key))

-- ---- the least deal: the calls for it that are not late, and then a tick

abbrev pub handed : (ℕ → ℕ) → ℕ → ℕ → List Call → List Call
handed which i clock [] = []
handed which i clock (c ∷ cs) =
    cond (call_for which i c && not (late clock c)) (c ∷ handed which i (ticked clock c) cs) (handed which i (ticked clock c) cs)

abbrev pub least_deal : (ℕ → ℕ) → ℕ → List Call → Call → List Call
least_deal which i cs t = handed which i 0 cs ++ t ∷ []

-- a tick: 14 zero bytes, which are nobody's message, at the stream's latest time. Each table is handed one before it is read
abbrev pub zero_bytes : List ℕ
zero_bytes = 0 ∷ 0 ∷ 0 ∷ 0 ∷ 0 ∷ 0 ∷ 0 ∷ 0 ∷ 0 ∷ 0 ∷ 0 ∷ 0 ∷ 0 ∷ 0 ∷ []

pub record Tick (stream : List Call) (t : Call) : Type 0 where
  pub zeros : t.message ≡ zero_bytes
  pub at : t.time ≡ latest 0 stream
