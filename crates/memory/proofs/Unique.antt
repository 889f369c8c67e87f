-- Each public function has one answer: two that satisfy its contract both equal its definition.
-- Assumes nothing.
use mathlib.Core.Path.{sym, ◌∙◌}
use Rattle.refusals.specs.Answers.{OneAnswer, OneOutcome}
use Rattle.memory.proofs.held.is_held.Kinds as is-held-kinds
use Rattle.memory.proofs.held.is_held.Reads as is_held_lem
use Prim.Native.Nat.{ℕ}
use mathlib.Core.List.{List}
use Rattle.memory.proofs.words.get4.Kinds as get4-kinds
use Rattle.memory.proofs.words.get4.Reads as get4
use Rattle.memory.proofs.words.get5.Kinds as get5-kinds
use Rattle.memory.proofs.words.get5.Reads as get5
use Rattle.memory.proofs.words.get7.Kinds as get7-kinds
use Rattle.memory.proofs.words.get7.Reads as get7
use Rattle.memory.proofs.words.get8.Kinds as get8-kinds
use Rattle.memory.proofs.words.get8.Reads as get8
use Rattle.memory.proofs.words.put4.Kinds as put4-kinds
use Rattle.memory.proofs.words.put4.Reads as put4
use Rattle.memory.proofs.words.put5.Kinds as put5-kinds
use Rattle.memory.proofs.words.put5.Reads as put5
use Rattle.memory.proofs.words.put7.Kinds as put7-kinds
use Rattle.memory.proofs.words.put7.Reads as put7
use Rattle.memory.proofs.words.put8.Kinds as put8-kinds
use Rattle.memory.proofs.words.put8.Reads as put8

pub is_held_once : OneAnswer 1 is-held-kinds.ps is-held-kinds.r is_held_lem.Post
is_held_once κs args x y left left' p q = p ∙ sym q

pub get4_once : OneAnswer 1 get4-kinds.ps get4-kinds.r get4.Post
get4_once κs args x y left left' p q = p ∙ sym q

pub get5_once : OneAnswer 1 get5-kinds.ps get5-kinds.r get5.Post
get5_once κs args x y left left' p q = p ∙ sym q

pub get7_once : OneAnswer 1 get7-kinds.ps get7-kinds.r get7.Post
get7_once κs args x y left left' p q = p ∙ sym q

pub get8_once : OneAnswer 1 get8-kinds.ps get8-kinds.r get8.Post
get8_once κs args x y left left' p q = p ∙ sym q

pub put4_once : OneOutcome 1 put4-kinds.ps put4-kinds.r (List ℕ) (λ κs x left. left.0.now) put4.Post
put4_once κs args x y left left' p q = p ∙ sym q

pub put5_once : OneOutcome 1 put5-kinds.ps put5-kinds.r (List ℕ) (λ κs x left. left.0.now) put5.Post
put5_once κs args x y left left' p q = p ∙ sym q

pub put7_once : OneOutcome 1 put7-kinds.ps put7-kinds.r (List ℕ) (λ κs x left. left.0.now) put7.Post
put7_once κs args x y left left' p q = p ∙ sym q

pub put8_once : OneOutcome 1 put8-kinds.ps put8-kinds.r (List ℕ) (λ κs x left. left.0.now) put8.Post
put8_once κs args x y left left' p q = p ∙ sym q
