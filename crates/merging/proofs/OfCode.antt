-- Two antennas, one instant, of the code: whatever meets the contract of `receive`, or of `hear`, in either order, answers and leaves the same; and whatever then meets those of `header_of`, `next` and `line_of` prints the same.
-- A call that meets its contract does what the rule says, so the two orders are those of the rules, and what is printed is the listing.
-- Assumes nothing.
use Rattle.std.specs.Prelude.{Result, Err, Option, Some, None, Ok, ⊤}
use Prim.Native.Nat.{ℕ, ◌+◌}
use native.Mathlib.Omega.{arith}
use mathlib.Core.Bool.{Bool, true, false}
use mathlib.Core.Path.{◌≡◌, refl, ap, ap₂, sym, ◌∙◌, subst}
use mathlib.Core.List.{List, [], ◌++◌}
use lib.ListN.{length}
use contract.Lifetimes.{Lfts}
use denote.Triple.Clauses.{AtExit}
use borrow.Fn.Kinds.{Dens, ended_of}
use Rattle.refusals.specs.declared.Refusal.TheVariants.{Full, Places}
use Rattle.fields.specs.Bytes.{Bytes}
use Rattle.memory.specs.Offsets.{whole_places}
use Rattle.rules.specs.Rules as rules
use Rattle.rules.specs.Agreement.{Call}
use Rattle.table.specs.Bytes.{bytes}
use Rattle.table.specs.Heard.{heard_as, heard}
use Rattle.table.specs.Table.{After, after, received, next_above}
use Rattle.table.proofs.hear.Kinds as hear-kinds
use Rattle.table.proofs.hear.Reads as hear
use Rattle.table.proofs.next.Kinds as next-kinds
use Rattle.table.proofs.next.Reads as next
use Rattle.text.specs.declared.Line.{Line}
use Rattle.report.specs.Listing.{listing, header_in, line_in}
use Rattle.report.specs.Walked.{header_printed, line_printed, some_text, Walked, Walked.ended, Walked.then}
use Rattle.report.proofs.Walking.{walk_prints}
use Rattle.report.proofs.header_of.Kinds as header-of-kinds
use Rattle.report.proofs.header_of.Reads as header_of
use Rattle.report.proofs.line_of.Kinds as line-of-kinds
use Rattle.report.proofs.line_of.Reads as Line-of
use Rattle.isolation.proofs.OfCode.{Received, received_is}
use Rattle.merging.specs.Orders as orders
use Rattle.merging.specs.Orders.{Offered, offered, OfOneKey, Never, NoSix, Same, SameListing}
use Rattle.merging.proofs.Merged.{two_antennas}
use Rattle.messages.specs.declared.Message.{Message}
use Rattle.refusals.specs.declared.Refusal.{Refusal}

-- ---- calls that met their contracts

-- `hear` was lent the table s and a message, and was given its time
pub record HearMet (s message : List ℕ) (time : ℕ) (r : After (Result ⊤ Refusal)) : Type 0 where
  pub κs : Lfts 2
  pub args : Dens κs hear-kinds.ps
  pub left : AtExit (ended_of 2 hear-kinds.ps hear-kinds.r) κs
  pub lent : args.0.now ≡ s
  pub brings : args.1.0.now ≡ message
  pub times : args.1.1.0 ≡ time
  pub table : left.0.now ≡ r.table
  pub meets : hear.Post κs args r.answer left

-- `header_of` was lent the table s, and was given a number of bad blocks
pub record HeaderMet (all : Bool) (s : List ℕ) (bad : ℕ) (x : Result Line Refusal) : Type 0 where
  pub κs : Lfts 1
  pub args : Dens κs header-of-kinds.ps
  pub left : AtExit (ended_of 1 header-of-kinds.ps header-of-kinds.r) κs
  pub lent : args.0.now ≡ s
  pub counted : args.1.0 ≡ bad
  pub asked : args.1.1.0 ≡ all
  pub meets : header_of.Post κs args x left

-- `line_of`, and was given a key
pub record LineMet (all : Bool) (s : List ℕ) (key : ℕ) (x : Result (Option Line) Refusal) : Type 0 where
  pub κs : Lfts 1
  pub args : Dens κs line-of-kinds.ps
  pub left : AtExit (ended_of 1 line-of-kinds.ps line-of-kinds.r) κs
  pub lent : args.0.now ≡ s
  pub given : args.1.0 ≡ key
  pub asked : args.1.1.0 ≡ all
  pub meets : Line-of.Post κs args x left

-- `next`, and was given the key before
pub record NextMet (s : List ℕ) (above : ℕ) (x : Result (Option ℕ) Refusal) : Type 0 where
  pub κs : Lfts 1
  pub args : Dens κs next-kinds.ps
  pub left : AtExit (ended_of 1 next-kinds.ps next-kinds.r) κs
  pub lent : args.0.now ≡ s
  pub given : args.1.0 ≡ above
  pub meets : next.Post κs args x left

-- what a caller prints of the table s, who asks for the next key again and again, from a key on, and for the line of each
pub data Lines (all : Bool) (s : List ℕ) : ℕ → List ℕ → Type 0 where
  last : {above : ℕ} → NextMet s above (Ok None) → Lines all s above []
  line : {above key : ℕ} {x : Result (Option Line) Refusal} {text : List ℕ} → NextMet s above (Ok (Some key)) → LineMet all s key x → Lines all s key text → Lines all s above (line_printed x ++ text)

-- .. for the header first, and then from 0 on
pub data Prints (all : Bool) (s : List ℕ) (bad : ℕ) : List ℕ → Type 0 where
  prints : {x : Result Line Refusal} {text : List ℕ} → HeaderMet all s bad x → Lines all s 0 text → Prints all s bad (header_printed x ++ text)

abbrev pub SamePrints : List ℕ → List ℕ → Type 0
SamePrints x y = (all : Bool) (bad : ℕ) (p q : List ℕ) → Prints all x bad p → Prints all y bad q → p ≡ q

-- ---- what is printed is the listing

next_is : {s : List ℕ} {above : ℕ} {x : Result (Option ℕ) Refusal} → NextMet s above x → next_above s above ≡ x
next_is b = sym (b.meets ∙ ap₂ next_above b.lent b.given)

line_is : {all : Bool} {s : List ℕ} {key : ℕ} {x : Result (Option Line) Refusal} → LineMet all s key x → x ≡ line_in all s key
line_is {all} {s} b = b.meets ∙ ap₂ (line_in b.args.1.1.0) b.lent b.given ∙ ap (λ (a : Bool). line_in a s _) b.asked

header_is : {all : Bool} {s : List ℕ} {bad : ℕ} {x : Result Line Refusal} → HeaderMet all s bad x → x ≡ header_in all s bad
header_is {all} {s} b = b.meets ∙ ap₂ (header_in b.args.1.1.0) b.lent b.counted ∙ ap (λ (a : Bool). header_in a s _) b.asked

-- a next key, or that there is none, is said of whole places
whole_by : (s : List ℕ) (above : ℕ) {x : Result (Option ℕ) Refusal} → next_above s above ≡ x → (x ≡ Err Places → ⊥) → whole_places (length s) ≡ true
unfolding rules.next_above
whole_by s above {x} e other = by_test (whole_places (length s)) refl
  where
    by_test : (w : Bool) → whole_places (length s) ≡ w → w ≡ true
    by_test true h = refl
    by_test false h = let u : next_above s above ≡ Err Places = rw h in absurd (other (sym e ∙ u))

module _ {all : Bool} {s : List ℕ} where
  lines_whole : {above : ℕ} {text : List ℕ} → Lines all s above text → whole_places (length s) ≡ true
  lines_whole {above} (last b) = whole_by s above (next_is b) (λ e. let z : ◌≡◌ {A = ℕ} 0 1 = cc in omega arith)
  lines_whole {above} (line b l more) = whole_by s above (next_is b) (λ e. let z : ◌≡◌ {A = ℕ} 0 1 = cc in omega arith)

  lines_walked : {above : ℕ} {text : List ℕ} → Lines all s above text → (n : ℕ) × Walked all s above n text
  lines_walked (last b) = (_, ended (next_is b))
  lines_walked {above} (line {key = key} {text = text} b l more) =
      let w = lines_walked more in (
        _,
        subst (λ (x : Result (Option Line) Refusal). Walked all s above (some_text (line_printed (line_in all s key)) + w.0) (line_printed x ++ text)) (sym (line_is l)) (then (next_is b) w.1),
      )

  prints_listing : {bad : ℕ} {text : List ℕ} → Prints all s bad text → text ≡ listing all s bad
  prints_listing {bad} (prints {text = text} h lines) =
      ap (λ (x : Result Line Refusal). header_printed x ++ text) (header_is h) ∙ walk_prints all s (lines_whole lines) bad (lines_walked lines).1

same_prints : {x y : List ℕ} → SameListing x y → SamePrints x y
same_prints e all bad p q u v = prints_listing u ∙ e all bad ∙ sym (prints_listing v)

-- ---- the two orders are those of the rules

pub hear_is : {s message : List ℕ} {time : ℕ} {r : After (Result ⊤ Refusal)} → HearMet s message time r → r ≡ heard (received s message time)
hear_is {s} {message} {time} {r} b =
    ap (after r.answer) (sym b.table)
    ∙ b.meets
    ∙ ap₂ (λ (x : List ℕ) (m : List ℕ). heard (received x m b.args.1.1.0)) b.lent b.brings
    ∙ ap (λ (t : ℕ). heard (received s message t)) b.times

-- the same clock, answers and tracks, and whatever prints the listing of both prints the same
abbrev pub Alike : {A : Type 0} → Offered (List ℕ) A → Offered (List ℕ) A → Type 0
Alike x y = Same bytes x y × SamePrints x.table y.table

module _ (s : List ℕ) (b : Bytes s) (a c : Call) (time : a.time ≡ c.time) (keys : OfOneKey a c → ⊥) where
  -- calls that answer what is told of the rule's answer, and leave what it leaves
  module _ {A : Type 0} (tell : Result Message Refusal → A) where
    abbrev told : After (Result Message Refusal) → After A
    told r = after (tell r.answer) r.table

    abbrev both : Offered (List ℕ) (Result Message Refusal) → Offered (List ℕ) A
    both o = record { first = tell o.first; second = tell o.second; table = o.table }

    abbrev Told : List ℕ → Call → After A → Type 0
    Told x d r = r ≡ told (received x d.message d.time)

    order_is : (x y : Call) {p q : After A} → Told s x p → Told p.table y q → both (offered received s x y) ≡ orders.then p q
    order_is x y {p} e f = sym (ap (orders.then p) f ∙ ap (λ (r : After A). orders.then r (told (received r.table y.message y.time))) e)

    never_told : {o : Offered (List ℕ) A} (x y : Call) → both (offered received s x y) ≡ o → Never (tell (Err Full)) o → NoSix (offered received s x y)
    never_told x y e n = (λ z. n.0 (sym (ap (λ (o : Offered (List ℕ) A). o.first) e) ∙ ap tell z), λ z. n.1 (sym (ap (λ (o : Offered (List ℕ) A). o.second) e) ∙ ap tell z))

    by_rules : NoSix (offered received s a c) → NoSix (offered received s c a) → Alike (both (offered received s a c)) (both (offered received s c a))
    by_rules f g =
        let e = two_antennas s b a c (record { time = time; keys = keys; one_way = f; other_way = g }) in
        (record { clock = e.0.clock; one = ap tell e.0.one; other = ap tell e.0.other; tracks = e.0.tracks }, same_prints e.1)

    told_antennas : {p q v w : After A} → Told s a p → Told p.table c q → Told s c v → Told v.table a w
        → Never (tell (Err Full)) (orders.then p q) → Never (tell (Err Full)) (orders.then v w) → Alike (orders.then p q) (orders.then v w)
    told_antennas {p} {q} {v} {w} ep eq ev ew f g =
        let x = order_is a c ep eq in
        let y = order_is c a ev ew in
        subst (λ (o : Offered (List ℕ) A). Alike o (orders.then v w)) x (subst (Alike (both (offered received s a c))) y (by_rules (never_told a c x f) (never_told c a y g)))

  -- of `receive`
  pub code_antennas : {p q v w : After (Result Message Refusal)}
      → Received s a.message a.time p → Received p.table c.message c.time q
      → Received s c.message c.time v → Received v.table a.message a.time w
      → NoSix (orders.then p q) → NoSix (orders.then v w) → Alike (orders.then p q) (orders.then v w)
  code_antennas ep eq ev ew = told_antennas (λ d. d) (received_is ep) (received_is eq) (received_is ev) (received_is ew)

  -- of `hear`, which is what C calls
  pub hear_antennas : {p q v w : After (Result ⊤ Refusal)}
      → HearMet s a.message a.time p → HearMet p.table c.message c.time q
      → HearMet s c.message c.time v → HearMet v.table a.message a.time w
      → Never (Err Full) (orders.then p q) → Never (Err Full) (orders.then v w) → Alike (orders.then p q) (orders.then v w)
  hear_antennas ep eq ev ew = told_antennas heard_as (hear_is ep) (hear_is eq) (hear_is ev) (hear_is ew)
