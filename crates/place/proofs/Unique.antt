-- Each public function has one answer: two that satisfy its contract both equal its definition.
-- Assumes nothing.
use Prim.Native.Nat.{ℕ}
use mathlib.Core.Path.{sym, ◌∙◌}
use mathlib.Core.List.{List}
use Rattle.refusals.specs.Answers.{OneAnswer, OneOutcome}
use Rattle.place.proofs.read.latitude_of.Kinds as latitude-of-kinds
use Rattle.place.proofs.read.latitude_of.Reads as latitude-of
use Rattle.place.proofs.read.load.Kinds as load-kinds
use Rattle.place.proofs.read.load.Reads as load
use Rattle.place.proofs.write.above_pole.Kinds as above-pole-kinds
use Rattle.place.proofs.write.above_pole.Reads as above-pole
use Rattle.place.proofs.write.store.Kinds as store-kinds
use Rattle.place.proofs.write.store.Reads as store

pub latitude_of_once : OneAnswer 0 latitude-of-kinds.ps latitude-of-kinds.r latitude-of.Post
latitude_of_once κs args x y left left' p q = p ∙ sym q

pub load_once : OneAnswer 1 load-kinds.ps load-kinds.r load.Post
load_once κs args x y left left' p q = p ∙ sym q

pub above_pole_once : OneAnswer 0 above-pole-kinds.ps above-pole-kinds.r above-pole.Post
above_pole_once κs args x y left left' p q = p ∙ sym q

pub store_once : OneOutcome 1 store-kinds.ps store-kinds.r (List ℕ) (λ κs x left. left.0.now) store.Post
store_once κs args x y left left' p q = p ∙ sym q
