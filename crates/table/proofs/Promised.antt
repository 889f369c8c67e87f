-- What the contracts promise in the rules' terms: whatever meets the contract of a public function says the number that RULES 3.2 gives, or what the lent table holds. Each is a law of `rules`, at the bytes;
-- of the head, which only the bytes have within, by the test.
-- Assumes nothing.
use Rattle.std.specs.Prelude.{Result, Ok, Err, ⊤}
use Prim.Native.Nat.{ℕ}
use mathlib.Core.Path.{◌≡◌, refl, sym, ap, ◌∙◌}
use mathlib.Core.Bool.{Bool, true, false, cond, not}
use mathlib.Core.List.{List}
use native.Mathlib.Omega.{arith}
use lib.ListN.{length}
use contract.Lifetimes.{Lfts}
use denote.Triple.Clauses.{AtExit}
use borrow.Fn.Kinds.{Dens, res_t, ended_of}
use Rattle.refusals.specs.declared.Refusal.TheVariants.{Places}
use Rattle.refusals.specs.Said.{Said, number, gives}
use Rattle.layouts.specs.Said.{Values}
use Rattle.messages.specs.Accepted.{Acceptable}
use Rattle.messages.specs.Damaged.{Damaged}
use Rattle.messages.specs.Said.{said}
use Rattle.whereabouts.specs.declared.Site.{Site}
use Rattle.whereabouts.specs.Located.{no_site, site_at}
use Rattle.track.specs.Said.{looked_said}
use Rattle.rules.specs.Said.{done, set_up_said, heard_said, done_or, next_said, clock_said, spot_in, sited_said, key_above, earns2, earns7, set_up_table, receive_table}
use Rattle.rules.proofs.Damaged.{else_3, damaged_table, taken_acceptable}
use Rattle.rules.proofs.Exactly.{says_the_table}
use Rattle.rules.proofs.Says.{set_up_says, look_says, next_says}
use Rattle.memory.specs.Offsets.{whole_places}
use Rattle.table_bytes.specs.Layout.{clock_of, site_of}
use Rattle.table.specs.Bytes.{bytes}
use Rattle.table.specs.Heard.{heard_as}
use Rattle.table.specs.Table.{After, received, clock_in, site_in}
use Rattle.table.specs.View.{view}
use Rattle.table.proofs.Lawful.{bytes_lawful}
use Rattle.table.proofs.set_up.Kinds as set-up-kinds
use Rattle.table.proofs.set_up.Reads as set-up
use Rattle.table.proofs.set_up_at.Kinds as set-up-at-kinds
use Rattle.table.proofs.set_up_at.Reads as set-up-at
use Rattle.table.proofs.hear.Kinds as hear-kinds
use Rattle.table.proofs.hear.Reads as hear
use Rattle.table.proofs.receive.Kinds as receive-kinds
use Rattle.table.proofs.receive.Reads as receive
use Rattle.table.proofs.look_up.Kinds as look-up-kinds
use Rattle.table.proofs.look_up.Reads as look_up
use Rattle.table.proofs.next.Kinds as next-kinds
use Rattle.table.proofs.next.Reads as next
use Rattle.table.proofs.clock_of.Kinds as clock-of-kinds
use Rattle.table.proofs.clock_of.Reads as clock-of
use Rattle.table.proofs.site_of.Kinds as site-of-kinds
use Rattle.table.proofs.site_of.Reads as site-of
use Rattle.messages.specs.declared.Message.{Message}
use Rattle.refusals.specs.declared.Refusal.{Refusal}

-- ---- set-up: 7, then 8

pub set_up_promised : (κs : Lfts 1) (args : Dens κs set-up-kinds.ps) (x : (res_t set-up-kinds.r κs).Denot)
    (left : AtExit (ended_of 1 set-up-kinds.ps set-up-kinds.r) κs) → set-up.Post κs args x left
    → set_up_said x ≡ set_up_table bytes args.0.now no_site
set_up_promised κs args x left p = ap (λ (y : After (Result ⊤ Refusal)). set_up_said y.answer) p ∙ set_up_says bytes args.0.now no_site

pub set_up_at_promised : (κs : Lfts 1) (args : Dens κs set-up-at-kinds.ps) (x : (res_t set-up-at-kinds.r κs).Denot)
    (left : AtExit (ended_of 1 set-up-at-kinds.ps set-up-at-kinds.r) κs) → set-up-at.Post κs args x left
    → set_up_said x ≡ set_up_table bytes args.0.now (site_at args.1.0)
set_up_at_promised κs args x left p = ap (λ (y : After (Result ⊤ Refusal)). set_up_said y.answer) p ∙ set_up_says bytes args.0.now (site_at args.1.0)

-- ---- a received message: 1, 7, 2, 3, 4, 5, 6 or 12, or its fields

pub receive_promised : (κs : Lfts 2) (args : Dens κs receive-kinds.ps) (x : (res_t receive-kinds.r κs).Denot)
    (left : AtExit (ended_of 2 receive-kinds.ps receive-kinds.r) κs) → receive.Post κs args x left
    → said x ≡ receive_table bytes args.0.now args.1.0.now args.1.1.0
receive_promised κs args x left p = ap (λ (y : After (Result Message Refusal)). said y.answer) p ∙ says_the_table bytes bytes_lawful args.0.now args.1.0.now args.1.1.0

heard_says : (d : Result Message Refusal) → heard_said (heard_as d) ≡ done_or (said d)
heard_says (Ok m) = refl
heard_says (Err r) = refl

pub hear_promised : (κs : Lfts 2) (args : Dens κs hear-kinds.ps) (x : (res_t hear-kinds.r κs).Denot)
    (left : AtExit (ended_of 2 hear-kinds.ps hear-kinds.r) κs) → hear.Post κs args x left
    → heard_said x ≡ done_or (receive_table bytes args.0.now args.1.0.now args.1.1.0)
hear_promised κs args x left p =
    let a : After (Result Message Refusal) = received args.0.now args.1.0.now args.1.1.0 in
    ap (λ (y : After (Result ⊤ Refusal)). heard_said y.answer) p
    ∙ heard_says a.answer
    ∙ ap done_or (says_the_table bytes bytes_lawful args.0.now args.1.0.now args.1.1.0)

-- ---- a damaged message, to any table at any time: if it is not refused with 7 or 2, then with 3; and what was accepted is acceptable

pub receive_damaged : (κs : Lfts 2) (args : Dens κs receive-kinds.ps) (x : (res_t receive-kinds.r κs).Denot)
    (left : AtExit (ended_of 2 receive-kinds.ps receive-kinds.r) κs) → receive.Post κs args x left
    → Damaged args.1.0.now → (said x ≡ number 7 → ⊥) → (said x ≡ number 2 → ⊥) → said x ≡ number 3
receive_damaged κs args x left p d =
    let s : List ℕ = args.0.now in
    let t : ℕ = args.1.1.0 in
    else_3 (earns7 bytes s) (earns2 bytes s t) (said x) (receive_promised κs args x left p ∙ damaged_table bytes s args.1.0.now t d)

pub hear_damaged : (κs : Lfts 2) (args : Dens κs hear-kinds.ps) (x : (res_t hear-kinds.r κs).Denot)
    (left : AtExit (ended_of 2 hear-kinds.ps hear-kinds.r) κs) → hear.Post κs args x left
    → Damaged args.1.0.now → (heard_said x ≡ number 7 → ⊥) → (heard_said x ≡ number 2 → ⊥) → heard_said x ≡ number 3
hear_damaged κs args x left p d =
    let s : List ℕ = args.0.now in
    let t : ℕ = args.1.1.0 in
    else_3 (earns7 bytes s) (earns2 bytes s t) (heard_said x)
    (hear_promised κs args x left p ∙ ap done_or (damaged_table bytes s args.1.0.now t d) ∙ as_numbers (earns7 bytes s) (earns2 bytes s t))
  where
    as_numbers : (b c : Bool) → done_or (cond b (number 7) (cond c (number 2) (number 3))) ≡ cond b (number 7) (cond c (number 2) (number 3))
    as_numbers true c = refl
    as_numbers false true = refl
    as_numbers false false = refl

pub receive_took : (κs : Lfts 2) (args : Dens κs receive-kinds.ps) (x : (res_t receive-kinds.r κs).Denot)
    (left : AtExit (ended_of 2 receive-kinds.ps receive-kinds.r) κs) → receive.Post κs args x left
    → (v : Values) → said x ≡ gives v → Acceptable args.1.0.now
receive_took κs args x left p v e =
    taken_acceptable bytes args.0.now args.1.0.now args.1.1.0 v (sym (receive_promised κs args x left p) ∙ e)

pub hear_took : (κs : Lfts 2) (args : Dens κs hear-kinds.ps) (x : (res_t hear-kinds.r κs).Denot)
    (left : AtExit (ended_of 2 hear-kinds.ps hear-kinds.r) κs) → hear.Post κs args x left
    → heard_said x ≡ done → Acceptable args.1.0.now
hear_took κs args x left p e =
    let y = values_of (receive_table bytes args.0.now args.1.0.now args.1.1.0) (sym (hear_promised κs args x left p) ∙ e) in
    taken_acceptable bytes args.0.now args.1.0.now args.1.1.0 y.0 y.1
  where
    values_of : (y : Said Values) → done_or y ≡ done → (v : Values) × (y ≡ gives v)
    values_of (gives v) e = (v, refl)
    values_of (number n) e = let y : ◌≡◌ {A = ℕ} 0 1 = cc in let w : ⊥ = omega arith in absurd w

-- ---- what is read: 7, or what the table holds

pub look_up_promised : (κs : Lfts 1) (args : Dens κs look-up-kinds.ps) (x : (res_t look-up-kinds.r κs).Denot)
    (left : AtExit (ended_of 1 look-up-kinds.ps look-up-kinds.r) κs) → look_up.Post κs args x left
    → looked_said x ≡ cond (earns7 bytes args.0.now) (number 7) (gives (view args.0.now args.1.0))
look_up_promised κs args x left p = ap looked_said p ∙ look_says bytes args.0.now args.1.0

pub next_promised : (κs : Lfts 1) (args : Dens κs next-kinds.ps) (x : (res_t next-kinds.r κs).Denot)
    (left : AtExit (ended_of 1 next-kinds.ps next-kinds.r) κs) → next.Post κs args x left
    → next_said x ≡ cond (earns7 bytes args.0.now) (number 7) (gives (key_above bytes args.0.now args.1.0))
next_promised κs args x left p = ap next_said p ∙ next_says bytes args.0.now args.1.0

clock_says : (s : List ℕ) → clock_said (clock_in s) ≡ cond (earns7 bytes s) (number 7) (gives (clock_of s))
unfolding clock_in
clock_says s = by_whole (whole_places (length s)) (clock_of s)
  where
    by_whole : (w : Bool) (t : ℕ) → clock_said (cond w (Ok t) (Err Places)) ≡ cond (not w) (number 7) (gives t)
    by_whole true t = refl
    by_whole false t = refl

pub clock_of_promised : (κs : Lfts 1) (args : Dens κs clock-of-kinds.ps) (x : (res_t clock-of-kinds.r κs).Denot)
    (left : AtExit (ended_of 1 clock-of-kinds.ps clock-of-kinds.r) κs) → clock-of.Post κs args x left
    → clock_said x ≡ cond (earns7 bytes args.0.now) (number 7) (gives (clock_of args.0.now))
clock_of_promised κs args x left p = ap clock_said p ∙ clock_says args.0.now

site_says : (s : List ℕ) → sited_said (site_in s) ≡ cond (earns7 bytes s) (number 7) (gives (spot_in (site_of s)))
unfolding site_in
site_says s = by_whole (whole_places (length s)) (site_of s)
  where
    by_whole : (w : Bool) (x : Site) → sited_said (cond w (Ok x) (Err Places)) ≡ cond (not w) (number 7) (gives (spot_in x))
    by_whole true x = refl
    by_whole false x = refl

pub site_of_promised : (κs : Lfts 1) (args : Dens κs site-of-kinds.ps) (x : (res_t site-of-kinds.r κs).Denot)
    (left : AtExit (ended_of 1 site-of-kinds.ps site-of-kinds.r) κs) → site-of.Post κs args x left
    → sited_said x ≡ cond (earns7 bytes args.0.now) (number 7) (gives (spot_in (site_of args.0.now)))
site_of_promised κs args x left p = ap sited_said p ∙ site_says args.0.now
