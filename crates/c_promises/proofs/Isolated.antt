-- Demand 3 of the calls from C: a call that meets its contract does what the rule says, so the theorem over the rules carries over.
-- Assumes nothing.
use Rattle.refusals.specs.declared.Refusal.{Refusal}
use Rattle.std.specs.Prelude.{Ok, Err, Option, Some, None, Result, ⊤}
use Prim.Native.Nat.{ℕ}
use mathlib.Core.Bool.{true, false≢true}
use mathlib.Core.Path.{◌≡◌, refl, ap, ap₂, sym, ◌∙◌, subst}
use mathlib.Core.List.{List}
use lib.IntN.{ℤ}
use Rattle.entries.specs.Sent.{Sent, sent}
use Rattle.rules.specs.Form.{East}
use Rattle.rules.specs.Rules as rules
use Rattle.rules.proofs.Laws.{whole_after, set_up_table_lem}
use Rattle.table.specs.Bytes.{bytes}
use Rattle.table.specs.Heard.{heard_as}
use Rattle.table.specs.Table.{set_up, set_up_at, received}
use Rattle.table.proofs.Lawful.{bytes_lawful}
use Rattle.isolation.specs.Runs.{Call, NeverFull}
use Rattle.isolation.proofs.Both.{bytes_isolated}
use Rattle.addercoil.specs.Done.{done_number}
use Rattle.addercoil.specs.Tables.{set_up_sent, received_sent}
use Rattle.addercoil.proofs.Laws.{some_number}
use Rattle.c_promises.specs.Calls.{Receive}
use Rattle.c_promises.specs.Runs.{Site, site_of, Begin, Ran, Ran.stopped, Ran.then, Run, Never6, Isolation}
use Rattle.c_promises.proofs.Followed.{Followed, Followed.no_more, Followed.one_more, never_full, side_by_side}

-- ---- each call did what the rule says

begin_is : (site : Option Site) (table : List ℕ) (back : Sent) → Begin site table back → back ≡ set_up_sent (rules.set_up bytes table (site_of site))
begin_is None table back b = ap (sent back.number) (sym b.leaves) ∙ b.meets ∙ ap (λ (s : List ℕ). set_up_sent (set_up s)) b.lent
begin_is (Some site) table back b =
    ap (sent back.number) (sym b.leaves)
    ∙ b.meets
    ∙ ap₂ (λ (s : List ℕ) (n : ℤ). set_up_sent (set_up_at s (record { latitude = n; longitude = b.args.1.1.0 }))) b.lent b.north
    ∙ ap (λ (n : ℕ). set_up_sent (set_up_at table (record { latitude = site.latitude; longitude = n }))) b.east

pub receive_is : {table message : List ℕ} {time : ℕ} {back : Sent} → Receive table message time back → back ≡ received_sent (received table message time)
receive_is {table} {message} {time} {back} b =
    ap (sent back.number) (sym b.leaves)
    ∙ b.meets
    ∙ ap₂ (λ (s : List ℕ) (m : List ℕ). received_sent (received s m b.args.1.1.0)) b.lent b.brings
    ∙ ap (λ (t : ℕ). received_sent (received table message t)) b.at

module _ {table message : List ℕ} {time : ℕ} {back : Sent} (b : Receive table message time back) where
  pub number_is : back.number ≡ done_number (heard_as (received table message time).answer)
  unfolding received_sent
  number_is = ap (λ (x : Sent). x.number) (receive_is b)

  pub table_is : back.array ≡ (received table message time).table
  unfolding received_sent
  table_is = ap (λ (x : Sent). x.array) (receive_is b)

  pub whole_left : bytes.whole table ≡ true → bytes.whole back.array ≡ true
  whole_left w = ap bytes.whole table_is ∙ whole_after bytes bytes_lawful table message time ∙ w

-- ---- a set-up that returned 0

if_done : (x : Result ⊤ Refusal) → done_number x ≡ 0 → x ≡ Ok tt
if_done (Ok tt) e = refl
if_done (Err r) e = absurd (some_number r e)

pub east : (site : Option Site) → East (site_of site)
east None k = absurd (false≢true k)
east (Some site) k = site.fits

module _ (site : Option Site) (table : List ℕ) (back : Sent) (b : Begin site table back) (zero : back.number ≡ 0) where
  pub begun : (rules.set_up bytes table (site_of site)).answer ≡ Ok tt
  unfolding set_up_sent
  begun = if_done _ (sym (ap (λ (x : Sent). x.number) (begin_is site table back b)) ∙ zero)

  pub begun_table : back.array ≡ (rules.set_up bytes table (site_of site)).table
  unfolding set_up_sent
  begun_table = ap (λ (x : Sent). x.array) (begin_is site table back b)

  pub begun_whole : bytes.whole back.array ≡ true
  begun_whole = ap bytes.whole begun_table ∙ (set_up_table_lem bytes bytes_lawful table (site_of site) (east site) begun).table.size

-- ---- a run by the rules

followed : {s : List ℕ} {cs : List Call} {xs : List Sent} → bytes.whole s ≡ true → Ran s cs xs → Followed received (λ (z : List ℕ). z) s cs xs
followed w stopped = no_more
followed w (then {cs = cs} {backs = xs} b more) =
    one_more (number_is b) (table_is b) (whole_left b w)
    (subst (λ (z : List ℕ). Followed received (λ (y : List ℕ). y) z cs xs) (table_is b) (followed (whole_left b w) more))

module _ (site : Option Site) {cs : List Call} {xs : List Sent} (p : Run site cs xs) where
  pub run_done : (rules.set_up bytes p.table (site_of site)).answer ≡ Ok tt
  run_done = begun site p.table p.back p.begun p.done

  pub run_table : p.back.array ≡ (rules.set_up bytes p.table (site_of site)).table
  run_table = begun_table site p.table p.back p.begun p.done

  pub run_whole : bytes.whole p.back.array ≡ true
  run_whole = begun_whole site p.table p.back p.begun p.done

  pub by_rule : Followed received (λ (z : List ℕ). z) (rules.set_up bytes p.table (site_of site)).table cs xs
  by_rule = subst (λ (z : List ℕ). Followed received (λ (y : List ℕ). y) z cs xs) run_table (followed run_whole p.ran)

  pub run_never : (key : ℕ) → Never6 key cs xs → NeverFull received key (rules.set_up bytes p.table (site_of site)).table cs
  run_never key n = never_full bytes received (λ (z : List ℕ). z) (λ s k. refl) key by_rule n

pub isolated : Isolation
isolated key site cs ds xs ys p q alike f g =
    side_by_side bytes received (λ (z : List ℕ). z) (λ s k. refl) key alike (by_rule site p) (by_rule site q)
    (bytes_isolated key (site_of site) (east site) p.table q.table (run_done site p) (run_done site q) cs ds alike (run_never site p key f) (run_never site q key g))
