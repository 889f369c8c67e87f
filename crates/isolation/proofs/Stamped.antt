-- Demand 3 over equal stamps. Whether a stamp is accepted, and its time, depend on the clock, the state and the stamp alone, which are equal in both runs; an accepted one is a call at that time, of which the law of one call speaks, and a refused one leaves all.
-- Assumes nothing.
use Rattle.std.specs.Prelude.{Result, Ok, Err, Some, None, ⊤}
use Prim.Native.Nat.{ℕ, ◌^◌, ◌<◌}
use mathlib.Core.Bool.{Bool, true, false, cond, not, ◌&&◌}
use mathlib.Core.Path.{◌≡◌, refl, ap, ap₂, sym, ◌∙◌, subst}
use mathlib.Core.List.{List, ◌∷◌}
use Rattle.refusals.specs.declared.Refusal.{Refusal}
use Rattle.refusals.specs.declared.Refusal.TheVariants.{Full, Places, Field}
use Rattle.positions.specs.Positions.{pole_to_pole}
use Rattle.whereabouts.specs.declared.Site.{Site}
use Rattle.replay.specs.Alone.{Heard, heard_in, own_after}
use Rattle.replay.specs.declared.Own.{Own}
use Rattle.replay.proofs.Ways.{with_track}
use Rattle.rules.specs.Form.{Form, Lawful}
use Rattle.rules.specs.Rules.{After, after, set_up, received}
use Rattle.rules.specs.View.{view_at, Table}
use Rattle.rules.proofs.Laws.{table_after_lem, site_after, set_up_table_lem}
use Rattle.stamps.specs.declared.Stamps.{Stamps}
use Rattle.stamps.specs.declared.Stamped.{Stamped}
use Rattle.stamps.specs.Stamps.{fresh, last_is, extended, stamped_by}
use Rattle.stamps.proofs.Accepted.{Fair, time_fair}
use Rattle.stamps.proofs.Ways.{by_clock, stamped_by_lem}
use Rattle.isolation.specs.Runs.{Call, own, Alike, Alike.end, Alike.its, Alike.others, call, NeverFull, Seen, saw, seen}
use Rattle.isolation.specs.Alone.{heard_by, own_of, saw_alone}
use Rattle.isolation.specs.Stamped.{Kept, beside, kept, keeping, by_stamp, StampedIsolation}
use Rattle.isolation.proofs.Isolated.{one_call, same_heard}
use Rattle.messages.specs.declared.Message.{Message}

-- ---- one call

-- the call at another time
abbrev at_time : Call → (time : ℕ) → time < 2 ^ 64 → Call
at_time c time fits = record { message = c.message; bytes = c.bytes; whole = c.whole; time = time; fits = fits }

-- what an aircraft hears of it then
abbrev heard_at_lem : ℕ → Call → ℕ → Heard
heard_at_lem key c time = record { time = time; message = (heard_by key c).message }

module _ {S : Type 0} (F : Form S) (L : Lawful F) (key : ℕ) (k : Kept S) (c : Call) (table : Table F k.table) where
  abbrev s : S
  s = k.table

  abbrev r : After (Kept S) (Result Message Refusal)
  r = call (by_stamp F) k c

  abbrev by : Result ℕ Refusal → After S Stamped
  by x = stamped_by F s k.state c.message c.time x

  abbrev x : Result ℕ Refusal
  x = extended k.state (F.clock s) c.time

  stamped_is : {y : Result ℕ Refusal} → x ≡ y → r ≡ keeping (by y)
  stamped_is e = ap keeping (stamped_by_lem F s k.state c.message c.time (by_clock F s k.state c.message c.time c.whole table.size ∙ e))

  fair : {y : Result ℕ Refusal} → x ≡ y → Fair F s c.message y
  fair e = subst (Fair F s c.message) (by_clock F s k.state c.message c.time c.whole table.size ∙ e) (time_fair F s k.state c.message c.time c.fits)

  -- what every message keeps, an accepted stamp or not
  keeps : (P : S → Type 0) → P s → ((time : ℕ) → time < 2 ^ 64 → P (received F s c.message time).table) → P r.table.table
  keeps P p q = by_x x refl
    where
      by_x : (y : Result ℕ Refusal) → x ≡ y → P r.table.table
      by_x (Ok time) e = subst (λ (z : After (Kept S) (Result Message Refusal)). P z.table.table) (sym (stamped_is e)) (q time (fair e).1.1.1)
      by_x (Err f) e = subst (λ (z : After (Kept S) (Result Message Refusal)). P z.table.table) (sym (stamped_is e)) p

  table_kept : Table F r.table.table
  table_kept = keeps (Table F) table (λ time fits. table_after_lem F L s c.message time table fits)

  site_kept : F.site r.table.table ≡ F.site s
  site_kept = keeps (λ (z : S). F.site z ≡ F.site s) refl (λ time fits. site_after F L s c.message time)

  -- an accepted stamp: the call at its time, as the aircraft would see it alone
  module _ (never : own key c ≡ true → r.answer ≡ Err Full → ⊥) (time : ℕ) (e : x ≡ Ok time) where
    abbrev d : Call
    d = at_time c time (fair e).1.1.1

    seen_as : saw (kept F) key c (keeping (by (Ok time))) ≡ saw F key d (call (received F) s d)
    unfolding own view_at
    seen_as = refl

    never_at : own key d ≡ true → (call (received F) s d).answer ≡ Err Full → ⊥
    unfolding own
    never_at o a = never o (ap (λ (z : After (Kept S) (Result Message Refusal)). z.answer) (stamped_is e) ∙ a)

    heard_is : heard_by key d ≡ heard_at_lem key c time
    unfolding heard_in
    heard_is = refl

    accepted_own : own_of F r.table.table key ≡ own_after (F.site s) (own_of F s key) (heard_at_lem key c time)
    accepted_own =
        ap (λ (z : After (Kept S) (Result Message Refusal)). own_of F z.table.table key) (stamped_is e)
        ∙ (one_call F L key s d table never_at).0
        ∙ ap (own_after (F.site s) (own_of F s key)) heard_is

    accepted_saw : saw (kept F) key c r ≡ saw_alone (F.site s) (own_of F s key) (heard_at_lem key c time)
    accepted_saw =
        ap (saw (kept F) key c) (stamped_is e)
        ∙ seen_as
        ∙ (one_call F L key s d table never_at).1
        ∙ ap (saw_alone (F.site s) (own_of F s key)) heard_is

-- ---- two calls, alike for an aircraft, to two tables that agree on it

module _ {S T : Type 0} (F : Form S) (G : Form T) (key : ℕ) where
  pub record Agree (k : Kept S) (j : Kept T) : Type 0 where
    pub table : Table F k.table
    pub table' : Table G j.table
    pub site : F.site k.table ≡ G.site j.table
    pub own : own_of F k.table key ≡ own_of G j.table key
    pub state : k.state ≡ j.state

  module _ (L : Lawful F) (M : Lawful G) (k : Kept S) (j : Kept T) (a : Agree k j) (c d : Call) (mine : own key c ≡ own key d) (heard : heard_by key c ≡ heard_by key d)
      (f : own key c ≡ true → (call (by_stamp F) k c).answer ≡ Err Full → ⊥) (g : own key d ≡ true → (call (by_stamp G) j d).answer ≡ Err Full → ⊥) where
    abbrev p : After (Kept S) (Result Message Refusal)
    p = call (by_stamp F) k c

    abbrev q : After (Kept T) (Result Message Refusal)
    q = call (by_stamp G) j d

    abbrev left : Result ℕ Refusal
    left = extended k.state (F.clock k.table) c.time

    abbrev right : Result ℕ Refusal
    right = extended j.state (G.clock j.table) d.time

    same_time : c.time ≡ d.time
    unfolding heard_in
    same_time = ap (λ (h : Heard). h.time) heard

    same_x : left ≡ right
    same_x =
        ap₂ (λ (o : Stamps) (z : Own). extended o z.clock c.time) a.state a.own
        ∙ ap (extended j.state (G.clock j.table)) same_time

    record Same : Type 0 where
      pub saw_same : saw (kept F) key c p ≡ saw (kept G) key d q
      pub own_same : own_of F p.table.table key ≡ own_of G q.table.table key
      pub state_same : p.table.state ≡ q.table.state

    abbrev refused_seen : Refusal → Bool → Own → Seen
    refused_seen n b o = record { answer = cond b (Some (Err n)) None; track = o.track }

    same_by : (y : Result ℕ Refusal) → left ≡ y → right ≡ y → Same
    unfolding view_at
    same_by (Ok time) u v =
        let h : heard_at_lem key c time ≡ heard_at_lem key d time = ap (λ (y : Heard). record { time = time; message = y.message }) heard in
        record {
          saw_same =
              accepted_saw F L key k c a.table f time u
              ∙ ap₂ (λ (z : Site) (o : Own). saw_alone z o (heard_at_lem key c time)) a.site a.own
              ∙ ap (saw_alone (G.site j.table) (own_of G j.table key)) h
              ∙ sym (accepted_saw G M key j d a.table' g time v);
          own_same =
              accepted_own F L key k c a.table f time u
              ∙ ap₂ (λ (z : Site) (o : Own). own_after z o (heard_at_lem key c time)) a.site a.own
              ∙ ap (own_after (G.site j.table) (own_of G j.table key)) h
              ∙ sym (accepted_own G M key j d a.table' g time v);
          state_same =
              ap (λ (z : After (Kept S) (Result Message Refusal)). z.table.state) (stamped_is F L key k c a.table u)
              ∙ ap last_is same_time
              ∙ sym (ap (λ (z : After (Kept T) (Result Message Refusal)). z.table.state) (stamped_is G M key j d a.table' v));
        }
    same_by (Err n) u v =
        let e = stamped_is F L key k c a.table u in
        let e' = stamped_is G M key j d a.table' v in
        record {
          saw_same = ap (saw (kept F) key c) e ∙ ap₂ (refused_seen n) mine a.own ∙ sym (ap (saw (kept G) key d) e');
          own_same =
              ap (λ (z : After (Kept S) (Result Message Refusal)). own_of F z.table.table key) e
              ∙ a.own
              ∙ sym (ap (λ (z : After (Kept T) (Result Message Refusal)). own_of G z.table.table key) e');
          state_same =
              ap (λ (z : After (Kept S) (Result Message Refusal)). z.table.state) e
              ∙ a.state
              ∙ sym (ap (λ (z : After (Kept T) (Result Message Refusal)). z.table.state) e');
        }

    same : Same
    same = same_by left refl (sym same_x)

    agree_after : Agree p.table q.table
    agree_after =
        record {
          table = table_kept F L key k c a.table;
          table' = table_kept G M key j d a.table';
          site = site_kept F L key k c a.table ∙ a.site ∙ sym (site_kept G M key j d a.table');
          own = same.own_same;
          state = same.state_same;
        }

-- ---- two runs

module _ {S T : Type 0} (F : Form S) (G : Form T) (L : Lawful F) (M : Lawful G) (key : ℕ) where
  between : {xs ys : List Call} → Alike key xs ys → (k : Kept S) (j : Kept T) → Agree F G key k j
      → NeverFull (by_stamp F) key k xs → NeverFull (by_stamp G) key j ys → seen (kept F) (by_stamp F) key k xs ≡ seen (kept G) (by_stamp G) key j ys
  between end k j a f g = refl
  between (its c o rest) k j a f g =
      ap₂ (λ (x : Seen) (xs : List Seen). x ∷ xs) (same F G key L M k j a c c refl refl f.0 g.0).saw_same
      (between rest _ _ (agree_after F G key L M k j a c c refl refl f.0 g.0) f.1 g.1)
  between (others c d o p e rest) k j a f g =
      let h : heard_by key c ≡ heard_by key d = same_heard key c d o p e in
      ap₂ (λ (x : Seen) (xs : List Seen). x ∷ xs) (same F G key L M k j a c d (o ∙ sym p) h f.0 g.0).saw_same
      (between rest _ _ (agree_after F G key L M k j a c d (o ∙ sym p) h f.0 g.0) f.1 g.1)

-- ---- from a set-up on, which comes with a fresh state

abbrev state_after : Result ⊤ Refusal → Stamps → Stamps
state_after (Ok tt) state = fresh
state_after (Err r) state = state

abbrev beside_set_up : {S : Type 0} → After S (Result ⊤ Refusal) → Stamps → After (Kept S) (Result ⊤ Refusal)
beside_set_up a state = after a.answer (beside a.table (state_after a.answer state))

set_up_kept : {S : Type 0} (F : Form S) (k : Kept S) (site : Site) → set_up (kept F) k site ≡ beside_set_up (set_up F k.table site) k.state
unfolding set_up
set_up_kept {S} F k site = by_tests (not (F.whole k.table)) (site.known && not (pole_to_pole site.spot.latitude))
  where
    by_tests : (a b : Bool)
        → cond a (after (Err Places) k) (cond b (after (Err Field) k) (after (Ok tt) (beside (F.emptied k.table site) fresh)))
        ≡ beside_set_up (cond a (after (Err Places) k.table) (cond b (after (Err Field) k.table) (after (Ok tt) (F.emptied k.table site)))) k.state
    by_tests true b = refl
    by_tests false true = refl
    by_tests false false = refl

-- one that is done
module _ {S : Type 0} (F : Form S) (k : Kept S) (site : Site) where
  pub set_up_done : (set_up F k.table site).answer ≡ Ok tt → set_up (kept F) k site ≡ after (Ok tt) (beside (set_up F k.table site).table fresh)
  set_up_done d = set_up_kept F k site ∙ ap (λ (x : Result ⊤ Refusal). after x (beside (set_up F k.table site).table (state_after x k.state))) d

  done_below : (set_up (kept F) k site).answer ≡ Ok tt → (set_up F k.table site).answer ≡ Ok tt
  done_below d = sym (ap (λ (x : After (Kept S) (Result ⊤ Refusal)). x.answer) (set_up_kept F k site)) ∙ d

pub stamped_isolation : {S T : Type 0} (F : Form S) (G : Form T) → Lawful F → Lawful G → StampedIsolation F G
stamped_isolation {S} {T} F G L M key site east k j p q xs ys alike =
    let d = done_below F k site p in
    let e = done_below G j site q in
    let x = set_up_table_lem F L k.table site east d in
    let y = set_up_table_lem G M j.table site east e in
    rw (set_up_done F k site d, set_up_done G j site e)
    (between F G L M key alike (beside (set_up F k.table site).table fresh) (beside (set_up G j.table site).table fresh)
    (record {
      table = x.table;
      table' = y.table;
      site = x.sited ∙ sym y.sited;
      own = ap₂ with_track (x.clock ∙ sym y.clock) (x.unheld key ∙ sym (y.unheld key));
      state = refl;
    }))
