-- Each public function has one answer: two that satisfy its contract both equal its definition.
-- Assumes nothing.
use mathlib.Core.Path.{sym, ◌∙◌}
use Rattle.refusals.specs.Answers.{OneAnswer, OneOutcome}
use Rattle.entries.proofs.only.Kinds as only-kinds
use Rattle.entries.proofs.only.Reads as only
use Rattle.entries.proofs.bit.Kinds as bit-kinds
use Rattle.entries.proofs.bit.Reads as bit
use Rattle.entries.proofs.altitude_reading.Kinds as altitude-reading-kinds
use Rattle.entries.proofs.altitude_reading.Reads as altitude-reading
use Rattle.entries.proofs.step_reading.Kinds as step-reading-kinds
use Rattle.entries.proofs.step_reading.Reads as step-reading
use Rattle.entries.proofs.speed_reading.Kinds as speed-reading-kinds
use Rattle.entries.proofs.speed_reading.Reads as speed-reading
use Rattle.entries.proofs.rate_reading.Kinds as rate-reading-kinds
use Rattle.entries.proofs.rate_reading.Reads as rate-reading
use Rattle.entries.proofs.difference_reading.Kinds as difference-reading-kinds
use Rattle.entries.proofs.difference_reading.Reads as difference-reading
use Rattle.entries.proofs.heading_reading.Kinds as heading-reading-kinds
use Rattle.entries.proofs.heading_reading.Reads as heading-reading
use Rattle.entries.proofs.movement_reading.Kinds as movement-reading-kinds
use Rattle.entries.proofs.movement_reading.Reads as movement-reading
use Rattle.entries.proofs.coarse_speed_reading.Kinds as coarse-speed-reading-kinds
use Rattle.entries.proofs.coarse_speed_reading.Reads as coarse-speed-reading
use Rattle.entries.proofs.set_reading.Kinds as set-reading-kinds
use Rattle.entries.proofs.set_reading.Reads as set-reading
use Rattle.entries.proofs.text_reading.Kinds as text-reading-kinds
use Rattle.entries.proofs.text_reading.Reads as text-reading
use Rattle.entries.proofs.version_reading.Kinds as version-reading-kinds
use Rattle.entries.proofs.version_reading.Reads as version-reading
use Rattle.entries.proofs.supplement_reading.Kinds as supplement-reading-kinds
use Rattle.entries.proofs.supplement_reading.Reads as supplement-reading
use Prim.Native.Nat.{ℕ}
use mathlib.Core.List.{List}
use Rattle.entries.specs.Sent.{Sent, sent}
use Rattle.entries.proofs.arrays.entry.Kinds as entry-kinds
use Rattle.entries.proofs.arrays.entry.Reads as entry
use Rattle.entries.proofs.arrays.fill.Kinds as fill-kinds
use Rattle.entries.proofs.arrays.fill.Reads as fill
use Rattle.entries.proofs.arrays.fill_bytes.Kinds as fill-bytes-kinds
use Rattle.entries.proofs.arrays.fill_bytes.Reads as fill-bytes
use Rattle.entries.proofs.arrays.give.Kinds as give-kinds
use Rattle.entries.proofs.arrays.give.Reads as give
use Rattle.entries.proofs.arrays.twos_of.Kinds as twos-of-kinds
use Rattle.entries.proofs.arrays.twos_of.Reads as twos-of

pub only_once : OneAnswer 0 only-kinds.ps only-kinds.r only.Post
only_once κs args x y left left' p q = p ∙ sym q

pub bit_once : OneAnswer 0 bit-kinds.ps bit-kinds.r bit.Post
bit_once κs args x y left left' p q = p ∙ sym q

pub altitude_reading_once : OneAnswer 0 altitude-reading-kinds.ps altitude-reading-kinds.r altitude-reading.Post
altitude_reading_once κs args x y left left' p q = p ∙ sym q

pub step_reading_once : OneAnswer 0 step-reading-kinds.ps step-reading-kinds.r step-reading.Post
step_reading_once κs args x y left left' p q = p ∙ sym q

pub speed_reading_once : OneAnswer 0 speed-reading-kinds.ps speed-reading-kinds.r speed-reading.Post
speed_reading_once κs args x y left left' p q = p ∙ sym q

pub rate_reading_once : OneAnswer 0 rate-reading-kinds.ps rate-reading-kinds.r rate-reading.Post
rate_reading_once κs args x y left left' p q = p ∙ sym q

pub difference_reading_once : OneAnswer 0 difference-reading-kinds.ps difference-reading-kinds.r difference-reading.Post
difference_reading_once κs args x y left left' p q = p ∙ sym q

pub heading_reading_once : OneAnswer 0 heading-reading-kinds.ps heading-reading-kinds.r heading-reading.Post
heading_reading_once κs args x y left left' p q = p ∙ sym q

pub movement_reading_once : OneAnswer 0 movement-reading-kinds.ps movement-reading-kinds.r movement-reading.Post
movement_reading_once κs args x y left left' p q = p ∙ sym q

pub coarse_speed_reading_once : OneAnswer 0 coarse-speed-reading-kinds.ps coarse-speed-reading-kinds.r coarse-speed-reading.Post
coarse_speed_reading_once κs args x y left left' p q = p ∙ sym q

pub set_reading_once : OneAnswer 0 set-reading-kinds.ps set-reading-kinds.r set-reading.Post
set_reading_once κs args x y left left' p q = p ∙ sym q

pub text_reading_once : OneAnswer 0 text-reading-kinds.ps text-reading-kinds.r text-reading.Post
text_reading_once κs args x y left left' p q = p ∙ sym q

pub version_reading_once : OneAnswer 0 version-reading-kinds.ps version-reading-kinds.r version-reading.Post
version_reading_once κs args x y left left' p q = p ∙ sym q

pub supplement_reading_once : OneAnswer 0 supplement-reading-kinds.ps supplement-reading-kinds.r supplement-reading.Post
supplement_reading_once κs args x y left left' p q = p ∙ sym q

pub entry_once : OneAnswer 1 entry-kinds.ps entry-kinds.r entry.Post
entry_once κs args x y left left' p q = p ∙ sym q

pub fill_once : OneOutcome 2 fill-kinds.ps fill-kinds.r (List ℕ) (λ κs x left. left.0.now) fill.Post
fill_once κs args x y left left' p q = p ∙ sym q

pub fill_bytes_once : OneOutcome 2 fill-bytes-kinds.ps fill-bytes-kinds.r (List ℕ) (λ κs x left. left.0.now) fill-bytes.Post
fill_bytes_once κs args x y left left' p q = p ∙ sym q

pub give_once : OneOutcome 2 give-kinds.ps give-kinds.r Sent (λ κs x left. sent x left.0.now) give.Post
give_once κs args x y left left' p q = p ∙ sym q

pub twos_of_once : OneAnswer 0 twos-of-kinds.ps twos-of-kinds.r twos-of.Post
twos_of_once κs args x y left left' p q = p ∙ sym q
