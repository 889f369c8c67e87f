-- Demand 3 over equal stamps, of the calls from C: from a state of two zeros each call does what the rule says, and leaves the entries of its state.
-- Assumes nothing.
use Rattle.std.specs.Prelude.{Result, Ok, Err, Option}
use Prim.Native.Nat.{ℕ, ◌^◌, ◌<◌}
use mathlib.Core.Bool.{Bool, true, false}
use mathlib.Core.Path.{◌≡◌, refl, ap, ap₂, sym, ◌∙◌, subst}
use mathlib.Core.List.{List}
use native.Mathlib.Omega.{arith}
use borrow.Author.Tests.{eqb-false, lt-leb}
use lib.Dec.{eqb, ltb}
use lib.ListN.{length}
use Rattle.entries.specs.Means.{bit}
use Rattle.entries.specs.Sent.{sent}
use Rattle.rules.specs.Rules as rules
use Rattle.rules.specs.View as rules-view
use Rattle.rules.proofs.Laws.{whole_after}
use Rattle.table.specs.Bytes.{bytes}
use Rattle.table.specs.View.{view}
use Rattle.table.proofs.Lawful.{bytes_lawful}
use Rattle.stamps.specs.declared.Stamps.{Stamps}
use Rattle.stamps.specs.declared.Stamped.{Stamped}
use Rattle.stamps.specs.Heard.{heard}
use Rattle.stamps.specs.Stamps.{fresh, time_of, stamped_by, stamped}
use Rattle.stamps.proofs.Ways.{no_length, stamped_by_lem}
use Rattle.isolation.specs.Runs.{Call, call, NeverFull}
use Rattle.isolation.specs.Stamped.{Kept, beside, kept, by_stamp}
use Rattle.isolation.proofs.Stamped.{set_up_done}
use Rattle.isolation.proofs.OfStamped.{bytes_stamped}
use Rattle.addercoil.specs.Blocks.{Both, both}
use Rattle.addercoil.specs.Stamps.{state_in, state_row, no_state, noted_after, received_stamp}
use Rattle.c_promises.specs.Calls.{ReceiveStamp}
use Rattle.c_promises.specs.Runs.{Site, site_of, Never6}
use Rattle.c_promises.specs.Stamps.{RanStamps, RanStamps.stopped, RanStamps.then, RunStamps, RunEqual, tables_of, StampedIsolation}
use Rattle.c_promises.proofs.Followed.{Followed, Followed.no_more, Followed.one_more, never_full, side_by_side}
use Rattle.c_promises.proofs.Isolated.{east, begun, begun_table, begun_whole}
use Rattle.refusals.specs.declared.Refusal.{Refusal}

receive_stamp_is : {table message : List ℕ} {stamp : ℕ} {state : List ℕ} {back : Both} → ReceiveStamp table message stamp state back → back ≡ received_stamp table message stamp state
receive_stamp_is {table} {message} {stamp} {state} {back} b =
    ap₂ (λ (l : List ℕ) (t : List ℕ). both (sent back.sent.number l) t) (sym b.leaves_state) (sym b.leaves_table)
    ∙ b.meets
    ∙ ap₂ (λ (s : List ℕ) (m : List ℕ). received_stamp s m b.args.1.1.0 b.args.1.1.1.0.now) b.lent b.brings
    ∙ ap₂ (λ (t : ℕ) (l : List ℕ). received_stamp table message t l) b.at b.from

-- ---- the entries of a state are that state's

bit_back : (b : Bool) → eqb (bit b) 1 ≡ b
bit_back true = refl
bit_back false = refl

row_back : (state : Stamps) → state_in (state_row state) ≡ state
row_back state = ap (λ (b : Bool). record { started = b; last = state.last }) (bit_back state.started)

small : (b : Bool) → ltb 1 (bit b) ≡ false
small true = refl
small false = refl

is_state : (state : Stamps) → state.last < 2 ^ 32 → no_state (state_row state) ≡ false
is_state state h = rw (small state.started, lt-leb (2 ^ 32) state.last h)

-- of any bytes: a wrong length gets 1 by the rule too
by_length : (s m : List ℕ) (stamp : ℕ) (state : Stamps) → bytes.whole s ≡ true → state.last < 2 ^ 32 → (t : Bool) → eqb (length m) 14 ≡ t
    → received_stamp s m stamp (state_row state) ≡ noted_after (heard (stamped bytes s state m stamp))
unfolding received_stamp
by_length s m stamp state w f true e = rw (e, w, is_state state f) (ap (λ (x : Stamps). noted_after (heard (stamped bytes s x m stamp))) (row_back state))
by_length s m stamp state w f false e =
    rw e (sym (ap (λ (x : rules.After (List ℕ) Stamped). noted_after (heard x)) (stamped_by_lem bytes s state m stamp (no_length bytes s state m stamp (eqb-false (length m) 14 e)))))

-- ---- a table with its state, and one call

-- a whole table, and a state whose stamp has 32 bits
pub record Good (k : Kept (List ℕ)) : Type 0 where
  pub whole : bytes.whole k.table ≡ true
  pub narrow : k.state.last < 2 ^ 32

module _ (s m : List ℕ) (stamp : ℕ) (state : Stamps) where
  whole_by : (x : Result ℕ Refusal) → bytes.whole (stamped_by bytes s state m stamp x).table ≡ bytes.whole s
  whole_by (Ok time) = whole_after bytes bytes_lawful s m time
  whole_by (Err r) = refl

  narrow_by : (x : Result ℕ Refusal) → stamp < 2 ^ 32 → state.last < 2 ^ 32 → (stamped_by bytes s state m stamp x).answer.state.last < 2 ^ 32
  narrow_by (Ok time) h f = h
  narrow_by (Err r) h f = f

pub next_good : (k : Kept (List ℕ)) (m : List ℕ) (stamp : ℕ) → stamp < 2 ^ 32 → Good k → Good (by_stamp bytes k m stamp).table
unfolding stamped
next_good k m stamp h g =
    let x : Result ℕ Refusal = time_of bytes k.table k.state m stamp in
    record { whole = whole_by k.table m stamp k.state x ∙ g.whole; narrow = narrow_by k.table m stamp k.state x h g.narrow }

view_kept : (k : Kept (List ℕ)) (key : ℕ) → rules-view.view (kept bytes) k key ≡ view k.table key
unfolding rules-view.view_at
view_kept k key = refl

-- from a table and a row of entries, which are k
module _ {s l : List ℕ} (k : Kept (List ℕ)) (s-is : s ≡ k.table) (l-is : l ≡ state_row k.state) (g : Good k) {m : List ℕ} {stamp : ℕ} {x : Both} (b : ReceiveStamp s m stamp l x) where
  pub noted : x ≡ noted_after (heard (stamped bytes k.table k.state m stamp))
  noted =
      receive_stamp_is b
      ∙ ap₂ (λ (y : List ℕ) (z : List ℕ). received_stamp y m stamp z) s-is l-is
      ∙ by_length k.table m stamp k.state g.whole g.narrow (eqb (length m) 14) refl

  pub table_noted : x.table ≡ (by_stamp bytes k m stamp).table.table
  table_noted = ap (λ (y : Both). y.table) noted

  pub state_noted : x.sent.array ≡ state_row (by_stamp bytes k m stamp).table.state
  state_noted = ap (λ (y : Both). y.sent.array) noted

-- ---- a run by the rules

abbrev table_in : Kept (List ℕ) → List ℕ
table_in k = k.table

followed : {s l : List ℕ} {cs : List Call} {xs : List Both} (k : Kept (List ℕ)) → s ≡ k.table → l ≡ state_row k.state → Good k → RanStamps (λ (c : Call). c.message) (λ (c : Call). c.time) s l cs xs
    → Followed (by_stamp bytes) table_in k cs (tables_of xs)
followed k s-is l-is g stopped = no_more
followed k s-is l-is g (then {c = c} h b more) =
    let next = next_good k c.message c.time h g in
    let left = table_noted k s-is l-is g b in
    one_more (ap (λ (y : Both). y.sent.number) (noted k s-is l-is g b)) left (ap bytes.whole left ∙ next.whole)
    (followed (call (by_stamp bytes) k c).table left (state_noted k s-is l-is g b) next more)

-- ---- from a set-up on

module _ (site : Option Site) {C : Type 0} {message : C → List ℕ} {stamp : C → ℕ} {cs : List C} {xs : List Both} (p : RunStamps message stamp site cs xs) where
  pub ready_good : Good (beside p.back.array fresh)
  ready_good = record { whole = begun_whole site p.table p.back p.begun p.done; narrow = omega arith }

  pub ready_done : (rules.set_up bytes p.table (site_of site)).answer ≡ Ok tt
  ready_done = begun site p.table p.back p.begun p.done

  pub ready_table : p.back.array ≡ (rules.set_up bytes p.table (site_of site)).table
  ready_table = begun_table site p.table p.back p.begun p.done

module _ (site : Option Site) {cs : List Call} {xs : List Both} (p : RunEqual site cs xs) where
  abbrev first : Kept (List ℕ)
  first = (rules.set_up (kept bytes) (beside p.table fresh) (site_of site)).table

  first_is : beside p.back.array fresh ≡ first
  first_is =
      ap (λ (z : List ℕ). beside z fresh) (ready_table site p)
      ∙ sym (ap (λ x. x.table) (set_up_done bytes (beside p.table fresh) (site_of site) (ready_done site p)))

  first_done : (rules.set_up (kept bytes) (beside p.table fresh) (site_of site)).answer ≡ Ok tt
  first_done = ap (λ x. x.answer) (set_up_done bytes (beside p.table fresh) (site_of site) (ready_done site p))

  by_rule : Followed (by_stamp bytes) table_in first cs (tables_of xs)
  by_rule =
      subst (λ (k : Kept (List ℕ)). Followed (by_stamp bytes) table_in k cs (tables_of xs)) first_is (followed (beside p.back.array fresh) refl refl (ready_good site p) p.ran)

  never : (key : ℕ) → Never6 key cs (tables_of xs) → NeverFull (by_stamp bytes) key first cs
  never key n = never_full (kept bytes) (by_stamp bytes) table_in view_kept key by_rule n

pub stamped_isolated : StampedIsolation
stamped_isolated key site cs ds xs ys p q alike n o =
    side_by_side (kept bytes) (by_stamp bytes) table_in view_kept key alike (by_rule site p) (by_rule site q)
    (bytes_stamped key (site_of site) (east site) (beside p.table fresh) (beside q.table fresh) (first_done site p) (first_done site q) cs ds alike (never site p key n) (never site q key o))
