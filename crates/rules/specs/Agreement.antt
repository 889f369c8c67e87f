-- RULES 19.2: two tables, of one form or of two, agree: each place holds what the other's holds.
use Rattle.std.specs.Prelude.{ℕ, ◌<◌, ◌^◌, true, ◌≡◌, List, [], ◌∷◌, Result, Ok, ⊤}
use Rattle.rules.specs.Form.{Cell, is_held, Form}
use Rattle.rules.specs.Rules.{After, received}
use Rattle.rules.specs.View.{AllFit}
use Rattle.refusals.specs.declared.Refusal.{Refusal}

-- at a clock both places are held or neither is, and if they are, with the same key and the same track
pub record Same (clock : ℕ) (b p : Cell) : Type 0 where
  pub held : is_held clock b ≡ is_held clock p
  pub key : is_held clock p ≡ true → b.key ≡ p.key
  pub track : is_held clock p ≡ true → b.track ≡ p.track

-- as many places, or too few or too many in both; one clock, one site, and the same held at each number
pub record Agree {S T : Type 0} (F : Form S) (G : Form T) (s : S) (t : T) : Type 0 where
  pub fit : AllFit F s
  pub size : F.whole s ≡ G.whole t
  pub count : F.count s ≡ G.count t
  pub clock : F.clock s ≡ G.clock t
  pub site : F.site s ≡ G.site t
  pub same : (i : ℕ) → i < G.count t → Same (G.clock t) (F.cell s i) (G.cell t i)

-- two calls answer the same, and what they leave agrees
pub record Alike {S T A : Type 0} (F : Form S) (G : Form T) (b : After S A) (r : After T A) : Type 0 where
  pub answer : b.answer ≡ r.answer
  pub left : Agree F G b.table r.table

-- two set-ups answer the same, and where they are done what they leave agrees
pub record AlikeSet {S T : Type 0} (F : Form S) (G : Form T) (b : After S (Result ⊤ Refusal)) (r : After T (Result ⊤ Refusal)) : Type 0 where
  pub answer : b.answer ≡ r.answer
  pub left : r.answer ≡ Ok tt → Agree F G b.table r.table

-- ---- calls one after the other

pub record Call : Type 0 where
  pub message : List ℕ
  pub time : ℕ
  pub fits : time < 2 ^ 64

-- both forms answer each call the same, and what they hold agrees before the first call and after each
abbrev pub AlikeRuns : {S T : Type 0} → Form S → Form T → S → T → List Call → Type 0
AlikeRuns F G s t [] = Agree F G s t
AlikeRuns F G s t (c ∷ cs) =
    let b = received F s c.message c.time in
    let r = received G t c.message c.time in
    Agree F G s t × ((b.answer ≡ r.answer) × AlikeRuns F G b.table r.table cs)
