-- What the contracts promise in the rules' terms: whatever meets the contract of a public function says the number that a stamp or a message earns, in the order 1, 7, 2, 13, then 3 to 6 or 12, or its time or values. By the tests, and from there by the law of `rules`.
-- Assumes nothing.
use Rattle.std.specs.Prelude.{Result, Ok, Err}
use Rattle.std.proofs.Common.{◌≡◌, ℕ, ◌+◌, ◌^◌, Bool, true, false, cond, not, ◌&&◌, ltb, leb, List, refl, ap, ◌∙◌}
use contract.Lifetimes.{Lfts}
use denote.Triple.Clauses.{AtExit}
use borrow.Fn.Kinds.{Dens, res_t, ended_of}
use Rattle.refusals.specs.declared.Refusal.TheVariants.{Length, Late, Places, Overrun}
use Rattle.refusals.specs.Said.{Said, number, gives}
use Rattle.layouts.specs.Said.{Values}
use Rattle.messages.specs.Said.{said, earns1}
use Rattle.rules.specs.Form.{Form, Lawful}
use Rattle.rules.specs.Rules.{received}
use Rattle.rules.specs.Said.{heard_said, done_or, earns7}
use Rattle.rules.proofs.Exactly.{says_the_table}
use Rattle.table.specs.Bytes.{bytes}
use Rattle.table.specs.Heard.{heard_as}
use Rattle.table.specs.Table.{After}
use Rattle.table.proofs.Lawful.{bytes_lawful}
use Rattle.stamps.specs.declared.Stamps.{Stamps}
use Rattle.stamps.specs.declared.Noted.{Noted}
use Rattle.stamps.specs.declared.Stamped.{Stamped}
use Rattle.stamps.specs.Stamps.{distance, extended, time_of, stamped_by, stamped}
use Rattle.stamps.specs.Said.{told, extended_said, extend_table, stamp_table}
use Rattle.stamps.proofs.extend.Kinds as extend-kinds
use Rattle.stamps.proofs.extend.Reads as extend
use Rattle.stamps.proofs.hear.Kinds as hear-kinds
use Rattle.stamps.proofs.hear.Reads as hear
use Rattle.stamps.proofs.receive.Kinds as receive-kinds
use Rattle.stamps.proofs.receive.Reads as receive
use Rattle.messages.specs.declared.Message.{Message}
use Rattle.refusals.specs.declared.Refusal.{Refusal}

-- ---- the order of the tests: of a length, a table, a first stamp, a distance and a time

abbrev refusing : Bool → Bool → Bool → Bool → Bool → Bool → ℕ → ℕ → Result ℕ Refusal
refusing short uneven started below far over time x =
    cond short (Err Length)
    (cond uneven (Err Places)
    (cond (not started) (cond below (Err Late) (Ok x))
    (cond far (Err Late) (cond over (Err Overrun) (Ok time)))))

in_order_lem : {A : Type 0} (f : ℕ → Said A) (short uneven started below far over : Bool) (time x : ℕ)
    → told f (refusing short uneven started below far over time x)
    ≡ cond short (number 1) (cond uneven (number 7) (cond (cond started far below) (number 2) (cond (started && over) (number 13) (f (cond started time x)))))
in_order_lem f true uneven started below far over time x = refl
in_order_lem f false true started below far over time x = refl
in_order_lem f false false false true far over time x = refl
in_order_lem f false false false false far over time x = refl
in_order_lem f false false true below true over time x = refl
in_order_lem f false false true below false true time x = refl
in_order_lem f false false true below false false time x = refl

module _ (state : Stamps) (clock stamp : ℕ) where
  abbrev d : ℕ
  d = distance state.last stamp

  extend_says : extended_said (extended state clock stamp) ≡ extend_table state clock stamp
  unfolding extended
  extend_says = in_order_lem gives false false state.started (ltb stamp clock) (leb (2 ^ 31) d) (leb (2 ^ 64) (clock + d)) (clock + d) stamp

pub extend_promised : (κs : Lfts 0) (args : Dens κs extend-kinds.ps) (x : (res_t extend-kinds.r κs).Denot)
    (left : AtExit (ended_of 0 extend-kinds.ps extend-kinds.r) κs) → extend.Post κs args x left
    → extended_said x ≡ extend_table args.0 args.1.0 args.1.1.0
extend_promised κs args x left p = ap extended_said p ∙ extend_says args.0 args.1.0 args.1.1.0

-- ---- a message received with a stamp, in any form of the table

module _ {S : Type 0} (F : Form S) (L : Lawful F) (s : S) (state : Stamps) (m : List ℕ) (stamp : ℕ) where
  abbrev at_time : ℕ → Said Values
  at_time time = said (received F s m time).answer

  abbrev far : ℕ
  far = distance state.last stamp

  by_time : (x : Result ℕ Refusal) → said (stamped_by F s state m stamp x).answer.answer ≡ told at_time x
  by_time (Ok time) = refl
  by_time (Err r) = refl

  pub stamped_says : said (stamped F s state m stamp).answer.answer ≡ stamp_table F s state m stamp
  unfolding stamped time_of extended
  stamped_says =
      let clock : ℕ = F.clock s in
      by_time (refusing (earns1 m) (earns7 F s) state.started (ltb stamp clock) (leb (2 ^ 31) far) (leb (2 ^ 64) (clock + far)) (clock + far) stamp)
      ∙ in_order_lem at_time (earns1 m) (earns7 F s) state.started (ltb stamp clock) (leb (2 ^ 31) far) (leb (2 ^ 64) (clock + far)) (clock + far) stamp
      ∙ rw says_the_table

pub receive_promised : (κs : Lfts 2) (args : Dens κs receive-kinds.ps) (x : (res_t receive-kinds.r κs).Denot)
    (left : AtExit (ended_of 2 receive-kinds.ps receive-kinds.r) κs) → receive.Post κs args x left
    → said x.answer ≡ stamp_table bytes args.0.now args.1.0 args.1.1.0.now args.1.1.1.0
receive_promised κs args x left p =
    ap (λ (y : After Stamped). said y.answer.answer) p
    ∙ stamped_says bytes bytes_lawful args.0.now args.1.0 args.1.1.0.now args.1.1.1.0

heard_says : (d : Result Message Refusal) → heard_said (heard_as d) ≡ done_or (said d)
heard_says (Ok m) = refl
heard_says (Err r) = refl

pub hear_promised : (κs : Lfts 2) (args : Dens κs hear-kinds.ps) (x : (res_t hear-kinds.r κs).Denot)
    (left : AtExit (ended_of 2 hear-kinds.ps hear-kinds.r) κs) → hear.Post κs args x left
    → heard_said x.answer ≡ done_or (stamp_table bytes args.0.now args.1.0 args.1.1.0.now args.1.1.1.0)
hear_promised κs args x left p =
    let a : After Stamped = stamped bytes args.0.now args.1.0 args.1.1.0.now args.1.1.1.0 in
    ap (λ (y : After Noted). heard_said y.answer.answer) p
    ∙ heard_says a.answer.answer
    ∙ ap done_or (stamped_says bytes bytes_lawful args.0.now args.1.0 args.1.1.0.now args.1.1.1.0)
