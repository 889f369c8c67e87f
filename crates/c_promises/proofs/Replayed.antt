-- A replay is the table, of the calls from C: both write the row of what is held of the key, and the plain method holds what the table holds.
-- Assumes nothing.
use Rattle.std.specs.Prelude.{Option, Some, None, Result}
use Prim.Native.Nat.{ℕ, zero, suc, ◌*◌, ◌+◌, ◌-◌, ◌≤◌, ◌<◌}
use mathlib.Core.Bool.{Bool, true, false, not}
use mathlib.Core.Path.{◌≡◌, refl, ap, ap₂, sym, ◌∙◌, subst}
use mathlib.Core.List.{List}
use native.Mathlib.Omega.{arith}
use borrow.Author.Tests.{le-leb, lt-leb}
use lib.IntN.{ℤ}
use lib.ListN.{length, get_or}
use Rattle.refusals.specs.Numbers.{most_records}
use Rattle.keys.specs.declared.Kind.{Kind}
use Rattle.keys.specs.declared.Kind.TheVariants.{N, C}
use Rattle.keys.specs.Keys.{addresses, flags, stations, kinds, kind_at, is_kind, low24, key_for}
use Rattle.keys.proofs.Laws.{listed}
use Rattle.entries.specs.Arrays.{filled}
use Rattle.entries.specs.Sent.{Sent, sent, into}
use Rattle.whereabouts.specs.declared.Site as located
use Rattle.whereabouts.specs.Located.{no_site, site_at}
use Rattle.track_rows.specs.Held.{looked_said}
use Rattle.replay.specs.Replay.{is_log, is_wide, replayed}
use Rattle.rules.proofs.Laws.{looked_up_lem}
use Rattle.table.specs.Bytes.{bytes}
use Rattle.table.specs.Table.{received, looked_up}
use Rattle.table.specs.View.{view}
use Rattle.table.proofs.Lawful.{bytes_lawful}
use Rattle.isolation.specs.Runs.{Call}
use Rattle.isolation.specs.Logs as logs
use Rattle.isolation.specs.Logs.{log_of}
use Rattle.isolation.proofs.Replayed.{done_site, log_whole, replays}
use Rattle.audit.specs.Replays.{worked_out, asked_of, replay_said, coarse_said}
use Rattle.c_promises.specs.Calls.{ReplayCoarse}
use Rattle.c_promises.specs.Runs.{Site, site_of, Ran, Ran.stopped, Ran.then, Run, Never6}
use Rattle.c_promises.specs.Logs.{left_by, left_of, key_of, key_coarse, SameAsTable, ReplayBy, Replays, ReplaysCoarse}
use Rattle.c_promises.proofs.Coarse.{any_site}
use Rattle.c_promises.proofs.Followed.{row_of, written, writes}
use Rattle.c_promises.proofs.Isolated.{east, table_is, whole_left, run_done, run_table, run_whole, run_never}
use Rattle.refusals.specs.declared.Refusal.{Refusal}
use Rattle.track.specs.declared.Track.{Track}

-- ---- each call did what the rule says

replay_is : (site : Option Site) (log : List ℕ) (kind address : ℕ) (track : List ℕ) (back : Sent) → ReplayBy site log kind address track back
    → back ≡ into 72 track (replay_said log kind address (site_of site))
replay_is None log kind address track back b =
    ap (sent back.number) (sym b.leaves)
    ∙ b.meets
    ∙ ap₂ (λ (l : List ℕ) (k : ℕ). into 72 b.args.1.1.1.0.now (replay_said l k b.args.1.1.0 no_site)) b.lent b.its_kind
    ∙ ap₂ (λ (a : ℕ) (o : List ℕ). into 72 o (replay_said log kind a no_site)) b.its_address b.into
replay_is (Some site) log kind address track back b =
    ap (sent back.number) (sym b.leaves)
    ∙ b.meets
    ∙ ap₂ (λ (l : List ℕ) (k : ℕ). into 72 b.args.1.1.1.1.1.0.now (replay_said l k b.args.1.1.0 (site_at (record { latitude = b.args.1.1.1.0; longitude = b.args.1.1.1.1.0 })))) b.lent b.its_kind
    ∙ ap₂ (λ (a : ℕ) (o : List ℕ). into 72 o (replay_said log kind a (site_at (record { latitude = b.args.1.1.1.0; longitude = b.args.1.1.1.1.0 })))) b.its_address b.into
    ∙ ap₂ (λ (n : ℤ) (e : ℕ). into 72 track (replay_said log kind address (site_at (record { latitude = n; longitude = e })))) b.north b.east

coarse_is : {log : List ℕ} {address flag station : ℕ} {track : List ℕ} {back : Sent} → ReplayCoarse log address flag station track back → back ≡ into 72 track (coarse_said log address flag station)
coarse_is {log} {address} {flag} {station} {track} {back} b =
    ap (sent back.number) (sym b.leaves)
    ∙ b.meets
    ∙ ap₂ (λ (l : List ℕ) (a : ℕ). into 72 b.args.1.1.1.1.0.now (coarse_said l a b.args.1.1.0 b.args.1.1.1.0)) b.lent b.its_address
    ∙ ap₂ (λ (f : ℕ) (n : ℕ). into 72 b.args.1.1.1.1.0.now (coarse_said log address f n)) b.its_flag b.its_station
    ∙ ap (λ (o : List ℕ). into 72 o (coarse_said log address flag station)) b.into

-- ---- the table that a run leaves

pub ran_left : {table : List ℕ} {cs : List Call} {backs : List Sent} → Ran table cs backs → left_by table backs ≡ logs.left received table cs
ran_left stopped = refl
ran_left (then {cs = cs} b more) = ran_left more ∙ ap (λ (s : List ℕ). logs.left received s cs) (table_is b)

pub left_whole : {table : List ℕ} {cs : List Call} {backs : List Sent} → Ran table cs backs → bytes.whole table ≡ true → bytes.whole (left_by table backs) ≡ true
left_whole stopped w = w
left_whole (then b more) w = left_whole more (whole_left b w)

-- ---- any kind

asked : (log : List ℕ) (bad : Bool) (kind : Kind) (address : ℕ) (site : located.Site) → is_log (length log) ≡ true → bad ≡ false
    → asked_of log bad kind address site ≡ looked_said (key_for kind address) (replayed log kind address site)
unfolding asked_of worked_out
asked log bad kind address site w n = rw (w, n)

module _ (kind : Kind) (address : ℕ) (few : address < addresses) (narrow : is_wide kind ≡ false) (site : Option Site) {cs : List Call} {backs : List Sent} (run : Run site cs backs)
    (most : length cs ≤ most_records) (never : Never6 (key_for kind address) cs backs) where
  by_log : replayed (log_of cs) kind address (site_of site) ≡ looked_up (left_of run) (key_for kind address)
  by_log =
      replays bytes bytes_lawful kind address (site_of site) few narrow (east site) run.table (run_done site run) cs most (run_never site run (key_for kind address) never)
      ∙ ap (λ (z : List ℕ). looked_up z (key_for kind address)) (sym (ran_left run.ran ∙ ap (λ (z : List ℕ). logs.left received z cs) (run_table site run)))

  same : (bad : Bool) → bad ≡ false → (given : located.Site) → replayed (log_of cs) kind address given ≡ replayed (log_of cs) kind address (site_of site) → (Replayed : List ℕ → Sent → Type 0)
      → ((track : List ℕ) (back : Sent) → Replayed track back → back ≡ into 72 track (asked_of (log_of cs) bad kind address given))
      → SameAsTable Replayed (left_of run) (key_for kind address)
  same bad n given e Replayed is track track' x y h g a b =
      let w : bytes.whole (left_of run) ≡ true = left_whole run.ran (run_whole site run) in
      let p : x ≡ sent 0 (filled 72 (row_of (key_for kind address) (view (left_of run) (key_for kind address)))) =
      is track x a
      ∙ ap (into 72 track) (asked (log_of cs) bad kind address given (log_whole cs most) n)
      ∙ ap (λ (l : Result (Option Track) Refusal). into 72 track (looked_said (key_for kind address) l)) (e ∙ by_log ∙ looked_up_lem bytes (left_of run) (key_for kind address) w)
      ∙ written (key_for kind address) track (view (left_of run) (key_for kind address)) h in
      let q = writes w g b in
      (ap (λ (z : Sent). z.number) p, ap (λ (z : Sent). z.number) q, ap (λ (z : Sent). z.array) (p ∙ sym q))

-- ---- the kinds by their numbers

-- a kind by its place in the list is not C
narrow_at : (i : ℕ) → is_wide (get_or kinds i N) ≡ false
narrow_at zero = refl
narrow_at (suc zero) = refl
narrow_at (suc (suc zero)) = refl
narrow_at (suc (suc (suc zero))) = refl
narrow_at (suc (suc (suc (suc zero)))) = refl
narrow_at (suc (suc (suc (suc (suc i))))) = refl

coarse_key : (address flag station : ℕ) → address < addresses → flag < flags → station < stations → key_for (C flag station) address ≡ key_coarse address flag station
coarse_key address flag station h f n = omega arith

pub replays_by_number : Replays
replays_by_number kind address one most few site cs backs run records never =
    let k : key_for (kind_at kind) address ≡ key_of kind address = listed kind address one most ∙ (let e : low24 address ≡ address = omega arith in ap (λ (a : ℕ). kind * addresses + a) e) in
    subst (SameAsTable (ReplayBy site (log_of cs) kind address) (left_of run)) k
    (same (kind_at kind) address few (narrow_at (kind - 1)) site run records (subst (λ (z : ℕ). Never6 z cs backs) (sym k) never)
    (not (is_kind kind)) (rw (le-leb 1 kind one, le-leb kind (length kinds) most)) (site_of site) refl (ReplayBy site (log_of cs) kind address)
    (λ track back. replay_is site (log_of cs) kind address track back))

pub replays_coarse : ReplaysCoarse
replays_coarse address flag station few f n site cs backs run most never =
    let k : key_for (C flag station) address ≡ key_coarse address flag station = coarse_key address flag station few f n in
    let narrow : is_wide (C flag station) ≡ false = rw (lt-leb flags flag f, lt-leb stations station n) in
    subst (SameAsTable (ReplayCoarse (log_of cs) address flag station) (left_of run)) k
    (same (C flag station) address few narrow site run most (subst (λ (z : ℕ). Never6 z cs backs) (sym k) never)
    (is_wide (C flag station)) narrow no_site
    (any_site (log_of cs) address flag station (site_of site) (done_site bytes run.table (site_of site) (run_done site run))) (ReplayCoarse (log_of cs) address flag station)
    (λ track back b. coarse_is b))
