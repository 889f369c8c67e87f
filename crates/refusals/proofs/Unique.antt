-- A refusal has one number, and no two refusals share one: the list of the refusals, read at a refusal's number, gives it back.
-- Assumes nothing.
use Prim.Native.Nat.{ℕ}
use mathlib.Core.Path.{◌≡◌, refl, ap, sym, ◌∙◌}
use mathlib.Core.List.{[], ◌∷◌}
use lib.ListN.{get_or}
use Rattle.refusals.specs.Answers.{OneAnswer}
use Rattle.refusals.specs.Numbers.{number_of}
use Rattle.refusals.specs.declared.Refusal.{Refusal}
use Rattle.refusals.specs.declared.Refusal.TheVariants.{Length, Late, Parity, Format, TypeCode, Full, Places, Field, Latitude, Zones, Block, NoTrack, Overrun, Log, Degrees, Form}
use Rattle.refusals.proofs.number.Kinds as kinds
use Rattle.refusals.proofs.number.Reads as number

pub number_once : OneAnswer 0 kinds.ps kinds.r number.Post
number_once κs args x y left left' p q = p ∙ sym q

-- the refusal of a number from 1 to 16
refusal_of : ℕ → Refusal
refusal_of n =
    get_or (Length ∷ Length ∷ Late ∷ Parity ∷ Format ∷ TypeCode ∷ Full ∷ Places ∷ Field ∷ Latitude ∷ Zones ∷ Block ∷ NoTrack ∷ Overrun ∷ Log ∷ Degrees ∷ Form ∷ []) n Length

back : (r : Refusal) → refusal_of (number_of r) ≡ r
unfolding refusal_of
back Length = refl
back Late = refl
back Parity = refl
back Format = refl
back TypeCode = refl
back Full = refl
back Places = refl
back Field = refl
back Latitude = refl
back Zones = refl
back Block = refl
back NoTrack = refl
back Overrun = refl
back Log = refl
back Degrees = refl
back Form = refl

pub none_shared : (r s : Refusal) → number_of r ≡ number_of s → r ≡ s
none_shared r s e = sym (back r) ∙ ap refusal_of e ∙ back s
