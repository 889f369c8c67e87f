-- What the contracts promise in the rules' terms: whatever meets the contract of `airborne_position` or `surface_position` says 8 or gives a position, and 8 only
-- where a value that is known is out of its range. By the definitions, each from the one below it: 9 and 10 of a pair or of a single reading are never handed out.
-- Assumes nothing.
use Rattle.std.specs.Prelude.{Result, Ok, Err}
use Prim.Native.Nat.{ℕ, ◌*◌}
use mathlib.Core.Path.{◌≡◌, refl, sym, ◌∙◌, subst}
use mathlib.Core.Bool.{Bool, true, false, ◌&&◌, true≢false, false≢true}
use lib.Dec.{eqb}
use contract.Lifetimes.{Lfts}
use denote.Triple.Clauses.{AtExit}
use borrow.Fn.Kinds.{Dens, res_t, ended_of}
use borrow.Author.Tests.{eqb-true}
use Rattle.refusals.specs.declared.Refusal.{Refusal}
use Rattle.refusals.specs.declared.Refusal.TheVariants.{Field, Latitude, Zones}
use Rattle.refusals.specs.Numbers.{number_of}
use Rattle.fields.proofs.Bools.{and_left, and_right, and-false, both, by_test}
use Rattle.positions.specs.declared.Counts.{Counts}
use Rattle.positions.specs.declared.Spot.{Spot}
use Rattle.positions.specs.declared.Turn.{Turn}
use Rattle.positions.specs.declared.Turn.TheVariants as turn
use Rattle.positions.specs.declared.Format.{Format}
use Rattle.positions.specs.declared.Format.TheVariants.{Even, Odd}
use Rattle.positions.specs.declared.Size.{Size}
use Rattle.positions.specs.declared.Size.TheVariants.{Fine, Coarse}
use Rattle.positions.specs.Positions.{count_size, latitude_zones, all_round, pole_to_pole, inside, pair_latitude, pair_nl, pair_found, fit, paired, near, near_found, singly}
use Rattle.whereabouts.specs.declared.Saved.{Saved}
use Rattle.whereabouts.specs.declared.Position.{Position}
use Rattle.whereabouts.specs.declared.Site.{Site}
use Rattle.whereabouts.specs.Located.{is_within, is_fresh, passed_on, settled, read_near, read_singly, paired_with, after_pair, size_of, same_size, is_partner, airborne_position, surface_position}
use Rattle.whereabouts.specs.Said.{placed_said, OnlyEight, NoNumber, SavedFits, LatitudeFits}
use Rattle.whereabouts.proofs.airborne_position.Kinds as airborne-position-kinds
use Rattle.whereabouts.proofs.airborne_position.Reads as airborne-position
use Rattle.whereabouts.proofs.surface_position.Kinds as surface-position-kinds
use Rattle.whereabouts.proofs.surface_position.Reads as surface-position

-- ---- 8 and no other number

abbrev Eight : Result Position Refusal → Type 0
Eight x = OnlyEight (placed_said x)

passed_on_eight : (r : Refusal) (other : Result Position Refusal) → Eight other → Eight (passed_on r other)
passed_on_eight r other h = by_test Eight (eqb (number_of r) 8) (Err r) other (λ e. eqb-true (number_of r) 8 e) (λ _. h)

module _ (p : Position) (size : Size) (counts : Counts) (format : Format) (time : ℕ) where
  settled_eight : (found : Result Spot Refusal) → Eight (settled found p time)
  settled_eight (Ok s) = tt
  settled_eight (Err r) = passed_on_eight r (Ok p) tt

  read_near_eight : (reference : Spot) (k : Turn) → Eight (read_near reference p size counts k format time)
  unfolding read_near
  read_near_eight reference k = settled_eight (singly (count_size size) reference counts k format)

  read_singly_eight : Eight (read_singly p size counts format time)
  unfolding read_singly
  read_singly_eight = by_test Eight (is_fresh p time) _ (Ok p) (λ _. read_near_eight p.spot turn.Airborne) (λ _. tt)

  after_pair_eight : (found : Result Spot Refusal) → Eight (after_pair found p size counts format time)
  after_pair_eight (Ok s) = tt
  after_pair_eight (Err r) = passed_on_eight r (read_singly p size counts format time) read_singly_eight

  airborne_eight : (partner : Saved) → Eight (airborne_position p partner size counts format time)
  unfolding airborne_position
  airborne_eight partner =
      by_test Eight (is_partner partner size time) _ _ (λ _. after_pair_eight (paired_with partner.counts size counts format)) (λ _. read_singly_eight)

surface_eight : (p : Position) (counts : Counts) (format : Format) (time : ℕ) (site : Site) → Eight (surface_position p site counts format time)
unfolding surface_position
surface_eight p counts format time site =
    by_test Eight (is_fresh p time) _ _
    (λ _. read_near_eight p Fine counts format time p.spot turn.Surface)
    (λ _. by_test Eight site.known _ (Ok p) (λ _. read_near_eight p Fine counts format time site.spot turn.Surface) (λ _. tt))

-- ---- no number where all that is known is in its range

-- not 8
abbrev Sound : Result Spot Refusal → Type 0
Sound (Ok s) = Unit
Sound (Err r) = eqb (number_of r) 8 ≡ false

never : (t : Bool) → t ≡ true → t ≡ false → ⊥
never t p q = true≢false (sym p ∙ q)

paired_sound : (P : ℕ) (even odd : Counts) (later : Format) → fit P even ≡ true → fit P odd ≡ true → Sound (paired P even odd later)
unfolding pair_found
paired_sound P even odd later p q =
    by_test Sound (fit P even && fit P odd) _ (Err Field)
    (λ _.
    by_test Sound
    (inside (60 * P) (pair_latitude P Even even.latitude.0 odd.latitude.0) && inside (59 * P) (pair_latitude P Odd even.latitude.0 odd.latitude.0))
    _ (Err Latitude)
    (λ _. by_test Sound (eqb (pair_nl P Even even.latitude.0 odd.latitude.0) (pair_nl P Odd even.latitude.0 odd.latitude.0)) _ (Err Zones) (λ _. tt) (λ _. refl))
    (λ _. refl))
    (λ e. absurd (never (fit P even && fit P odd) (both p q) e))

singly_sound : (P : ℕ) (reference : Spot) (c : Counts) (k : Turn) (f : Format) → fit P c ≡ true → pole_to_pole reference.latitude ≡ true → Sound (singly P reference c k f)
unfolding near_found
singly_sound P reference c k f p q =
    let N = all_round k (latitude_zones f) in
    by_test Sound (fit P c && pole_to_pole reference.latitude) _ (Err Field)
    (λ _. by_test Sound (inside (N * P) (near P N reference.latitude c.latitude.0)) _ (Err Latitude) (λ _. tt) (λ _. refl))
    (λ e. absurd (never (fit P c && pole_to_pole reference.latitude) (both p q) e))

-- a partner's counts are of the message's size
same_size_lem : (coarse : Bool) (size : Size) → same_size coarse size ≡ true → size_of coarse ≡ size
same_size_lem true Fine e = absurd (false≢true e)
same_size_lem true Coarse e = refl
same_size_lem false Fine e = refl
same_size_lem false Coarse e = absurd (false≢true e)

partner_fits : (s : Saved) (size : Size) (time : ℕ) → is_partner s size time ≡ true → SavedFits s → fit (count_size size) s.counts ≡ true
unfolding is_partner
partner_fits s size time e h =
    let k : s.known && same_size s.coarse size ≡ true = and_left (s.known && same_size s.coarse size) (is_within 10000 time s.time) e in
    subst (λ (z : Size). fit (count_size z) s.counts ≡ true) (same_size_lem s.coarse size (and_right s.known (same_size s.coarse size) k))
    (h (and_left s.known (same_size s.coarse size) k))

abbrev Given : Result Position Refusal → Type 0
Given x = NoNumber (placed_said x)

passed_on_given : (r : Refusal) (other : Result Position Refusal) → eqb (number_of r) 8 ≡ false → Given other → Given (passed_on r other)
passed_on_given r other e h = rw e h

module _ (p : Position) (size : Size) (counts : Counts) (format : Format) (time : ℕ) (own : fit (count_size size) counts ≡ true) (reference : LatitudeFits p.known p.spot) where
  settled_given : (found : Result Spot Refusal) → Sound found → Given (settled found p time)
  settled_given (Ok s) h = tt
  settled_given (Err r) h = passed_on_given r (Ok p) h tt

  read_near_given : (s : Spot) (k : Turn) → pole_to_pole s.latitude ≡ true → Given (read_near s p size counts k format time)
  unfolding read_near
  read_near_given s k h = settled_given (singly (count_size size) s counts k format) (singly_sound (count_size size) s counts k format own h)

  fresh_given : (k : Turn) → is_fresh p time ≡ true → Given (read_near p.spot p size counts k format time)
  fresh_given k e = read_near_given p.spot k (reference (and_left p.known (is_within 120000 time p.time) e))

  read_singly_given : Given (read_singly p size counts format time)
  unfolding read_singly
  read_singly_given = by_test Given (is_fresh p time) _ (Ok p) (λ e. fresh_given turn.Airborne e) (λ _. tt)

  after_pair_given : (found : Result Spot Refusal) → Sound found → Given (after_pair found p size counts format time)
  after_pair_given (Ok s) h = tt
  after_pair_given (Err r) h = passed_on_given r (read_singly p size counts format time) h read_singly_given

  paired_with_sound : (partner : Counts) (f : Format) → fit (count_size size) partner ≡ true → Sound (paired_with partner size counts f)
  unfolding paired_with
  paired_with_sound partner Even h = paired_sound (count_size size) counts partner Even own h
  paired_with_sound partner Odd h = paired_sound (count_size size) partner counts Odd h own

  airborne_given : (partner : Saved) → SavedFits partner → Given (airborne_position p partner size counts format time)
  unfolding airborne_position
  airborne_given partner h =
      by_test Given (is_partner partner size time) _ _
      (λ e. after_pair_given (paired_with partner.counts size counts format) (paired_with_sound partner.counts format (partner_fits partner size time e h)))
      (λ _. read_singly_given)

surface_given : (p : Position) (counts : Counts) (format : Format) (time : ℕ) → fit 131072 counts ≡ true → LatitudeFits p.known p.spot
    → (site : Site) → LatitudeFits site.known site.spot → Given (surface_position p site counts format time)
unfolding surface_position
surface_given p counts format time own reference site h =
    by_test Given (is_fresh p time) _ _
    (λ e. fresh_given p Fine counts format time own reference turn.Surface e)
    (λ _. by_test Given site.known _ (Ok p) (λ e. read_near_given p Fine counts format time own reference site.spot turn.Surface (h e)) (λ _. tt))

-- ---- 8 where a value that is read is out of its range

pub eight_of_reference : (s : Spot) (p : Position) (size : Size) (counts : Counts) (k : Turn) (format : Format) (time : ℕ) → (fit (count_size size) counts && pole_to_pole s.latitude) ≡ false
    → read_near s p size counts k format time ≡ Err Field
unfolding read_near
eight_of_reference s p size counts k format time e = rw e

and_swap : (a b : Bool) → a && b ≡ b && a
and_swap true true = refl
and_swap true false = refl
and_swap false true = refl
and_swap false false = refl

pub eight_of_pair : (p : Position) (partner : Saved) (size : Size) (counts : Counts) (format : Format) (time : ℕ) → is_partner partner size time ≡ true
    → (fit (count_size size) partner.counts && fit (count_size size) counts) ≡ false → airborne_position p partner size counts format time ≡ Err Field
unfolding airborne_position paired_with
eight_of_pair p partner size counts Even time within e = rw (within, and_swap (fit (count_size size) counts) (fit (count_size size) partner.counts), e)
eight_of_pair p partner size counts Odd time within e = rw (within, e)

-- ---- sizes are never mixed

-- another message of the other size is no partner, whatever it holds: a message is read as if it had been the only one
pub sizes_never_paired : (p : Position) (other : Saved) (size : Size) (counts : Counts) (format : Format) (time : ℕ) → same_size other.coarse size ≡ false
    → airborne_position p other size counts format time ≡ read_singly p size counts format time
unfolding airborne_position is_partner
sizes_never_paired p other size counts format time e = rw (e, and-false other.known)

-- ---- of whatever meets the contract

pub airborne_promised : (κs : Lfts 0) (args : Dens κs airborne-position-kinds.ps) (x : (res_t airborne-position-kinds.r κs).Denot)
    (left : AtExit (ended_of 0 airborne-position-kinds.ps airborne-position-kinds.r) κs) → airborne-position.Post κs args x left
    → OnlyEight (placed_said x)
    × (fit (count_size args.1.1.0) args.1.1.1.0 ≡ true → LatitudeFits args.0.known args.0.spot → SavedFits args.1.0 → NoNumber (placed_said x))
airborne_promised κs args x left e =
    let p = args.0 in
    let partner = args.1.0 in
    let size = args.1.1.0 in
    let counts = args.1.1.1.0 in
    let format = args.1.1.1.1.0 in
    let time = args.1.1.1.1.1.0 in (
      subst Eight (sym e) (airborne_eight p size counts format time partner),
      λ own reference other. subst Given (sym e) (airborne_given p size counts format time own reference partner other),
    )

pub surface_promised : (κs : Lfts 0) (args : Dens κs surface-position-kinds.ps) (x : (res_t surface-position-kinds.r κs).Denot)
    (left : AtExit (ended_of 0 surface-position-kinds.ps surface-position-kinds.r) κs) → surface-position.Post κs args x left
    → OnlyEight (placed_said x)
    × (fit 131072 args.1.1.0 ≡ true → LatitudeFits args.0.known args.0.spot → LatitudeFits args.1.0.known args.1.0.spot → NoNumber (placed_said x))
surface_promised κs args x left e =
    let p = args.0 in
    let site = args.1.0 in
    let counts = args.1.1.0 in
    let format = args.1.1.1.0 in
    let time = args.1.1.1.1.0 in (
      subst Eight (sym e) (surface_eight p counts format time site),
      λ own reference other. subst Given (sym e) (surface_given p counts format time own reference site other),
    )
