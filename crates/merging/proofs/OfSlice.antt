-- Two antennas, one instant, of the code of `slice_table`: calls whose clauses all hold, in either order, answer and leave the same. Whatever a place of the slice holds, what it means fits: a value in its range stays so, and one
-- that counts for nothing is zero.
-- Assumes nothing.
use Rattle.std.specs.Prelude.{Result}
use Prim.Native.Nat.{ℕ, ◌^◌, ◌<◌}
use mathlib.Core.Bool.{Bool, true, false, cond, ◌&&◌}
use mathlib.Core.Path.{◌≡◌, refl, ap, sym, ◌∙◌, subst}
use native.Mathlib.Omega.{arith}
use borrow.Author.Tests.{ltb-true}
use lib.Dec.{ltb}
use lib.ListN.{get_or}
use seplogic.Ra.Ura.{Ura}
use base.Logic.{SProp, ent, sep}
use prog.Memory.{Memory}
use prog.Routine.{Routine}
use types.Logic.{Logic}
use contract.Monad.{Fun, fact}
use Rattle.refusals.proofs.Clauses.{both_say}
use Rattle.fields.proofs.Bools.{each, by_test}
use Rattle.keys.specs.Keys.{is_key}
use Rattle.positions.specs.Positions.{count_size, pole_to_pole}
use Rattle.whereabouts.specs.declared.Position.{Position}
use Rattle.whereabouts.specs.declared.Saved.{Saved}
use Rattle.whereabouts.specs.Located.{no_position, size_of}
use Rattle.track.specs.declared.Groups.{Groups}
use Rattle.track.specs.Track.{no_saved}
use Rattle.track.specs.Meaning.{gives_identification, gives_velocity, gives_surface, gives_status, meant_groups, meant_position, meant_saved, meant}
use Rattle.track.proofs.Meanings.{groups_twice, position_twice, saved_twice}
use Rattle.place.specs.Place.{FitsGroups, FitsPosition, FitsSaved, Fits}
use Rattle.rules.specs.Agreement.{Call}
use Rattle.rules.specs.Rules.{received}
use Rattle.rules.specs.View.{AllFit}
use Rattle.slice_places.specs.declared.Place.{Place}
use Rattle.slice_places.specs.Ranges.{no_place, groups_fit, counts_fit, track_fits, in_range}
use Rattle.slice_table.specs.Slice.{Slice, slice}
use Rattle.slice_table.specs.Tracks.{After}
use Rattle.isolation.proofs.OfSlice.{Received, got, received_is}
use Rattle.merging.specs.Orders.{Offered, then, offered, OfOneKey, NoSix, Same}
use Rattle.merging.specs.Slices.{Typed, AllTyped}
use Rattle.merging.proofs.Merged.{slice_antennas}
use Rattle.messages.specs.declared.Message.{Message}
use Rattle.refusals.specs.declared.Refusal.{Refusal}

-- ---- what a place means fits

or_zero : (t : Bool) (x n : ℕ) → 0 < n → x < n → cond t x 0 < n
or_zero true x n z h = h
or_zero false x n z h = z

below : (x n : ℕ) {rest : Bool} → rest && ltb x n ≡ true → (rest ≡ true) × (x < n)
below x n {rest} e = let p = each rest (ltb x n) e in (p.0, ltb-true x n p.1)

groups_fit_lem : (g : Groups) → groups_fit g ≡ true → FitsGroups (meant_groups g)
unfolding groups_fit meant_groups
groups_fit_lem g e =
    let typecode = below g.typecode 32 e in
    let height = below g.height 4096 typecode.0 in
    let pressure = below g.pressure 4096 height.0 in
    let status = below g.status 72057594037927936 pressure.0 in
    let surface = below g.surface 72057594037927936 status.0 in
    let velocity = below g.velocity 72057594037927936 surface.0 in
    record {
      identification = or_zero (gives_identification g.identification) g.identification (2 ^ 56) (omega arith) (ltb-true g.identification 72057594037927936 velocity.0);
      velocity = or_zero (gives_velocity g.coarse g.velocity) g.velocity (2 ^ 56) (omega arith) velocity.1;
      surface = or_zero (gives_surface g.surface) g.surface (2 ^ 56) (omega arith) surface.1;
      status = or_zero (gives_status g.status) g.status (2 ^ 56) (omega arith) status.1;
      pressure = pressure.1;
      height = height.1;
      typecode = typecode.1;
      meant = groups_twice g;
    }

position_fits : (p : Position) → pole_to_pole p.spot.latitude ≡ true → p.spot.longitude < 2 ^ 32 → p.time < 2 ^ 64 → FitsPosition (meant_position p)
unfolding meant_position
position_fits p pole longitude time =
    let P : Position → Type 0 = λ (x : Position). (pole_to_pole x.spot.latitude ≡ true) × (x.spot.longitude < 2 ^ 32) × (x.time < 2 ^ 64) in
    let q = by_test P p.known p no_position (λ _. (pole, longitude, time)) (λ _. (refl, omega arith, omega arith)) in
    record { latitude = q.0; longitude = q.1; time = q.2; meant = position_twice p }

saved_fits : (v : Saved) → counts_fit v ≡ true → v.time < 2 ^ 64 → FitsSaved (meant_saved v)
unfolding counts_fit meant_saved
saved_fits v e time =
    let P : Saved → Type 0 = λ (x : Saved). (x.counts.latitude.0 < count_size (size_of x.coarse)) × (x.counts.longitude.0 < count_size (size_of x.coarse)) × (x.time < 2 ^ 64) in
    let c = below v.counts.longitude.0 (count_size (size_of v.coarse)) e in
    let q = by_test P v.known v no_saved (λ _. (ltb-true v.counts.latitude.0 (count_size (size_of v.coarse)) c.0, c.1, time)) (λ _. (omega arith, omega arith, omega arith)) in
    record { latitude = q.0; longitude = q.1; time = q.2; meant = saved_twice v }

place_fits : (p : Place) → Typed p → in_range p ≡ true → Fits (meant p.track)
unfolding in_range track_fits meant
place_fits p t e =
    let in_range_lem = (each (is_key p.key) _ e).1 in
    let odd = each _ (counts_fit (get_or p.track.saved 1 no_saved)) in_range_lem in
    let even = each _ (counts_fit (get_or p.track.saved 0 no_saved)) odd.0 in
    let pole = each (groups_fit p.track.groups) (pole_to_pole p.track.position.spot.latitude) even.0 in
    record {
      heard = t.heard;
      groups = groups_fit_lem p.track.groups pole.0;
      position = position_fits p.track.position pole.1 t.longitude t.time;
      two = refl;
      even = saved_fits (get_or p.track.saved 0 no_saved) even.1 t.even;
      odd = saved_fits (get_or p.track.saved 1 no_saved) odd.1 t.odd;
    }

pub slice_fits : (s : Slice) → AllTyped s → AllFit slice s
slice_fits s t i h e = place_fits (get_or s.places i no_place) (t i h) e

-- ---- the two orders are those of the rules

module _ (s : Slice) (typed : AllTyped s) (a b : Call) (time : a.time ≡ b.time) (keys : OfOneKey a b → ⊥) where
  abbrev By : Slice → Call → After (Result Message Refusal) → Type 0
  By x c r = r ≡ received slice x c.message c.time

  order_is : (x y : Call) {p q : After (Result Message Refusal)} → By s x p → By p.table y q → then p q ≡ offered (received slice) s x y
  order_is x y {p} e f = ap (then p) f ∙ ap (λ (r : After (Result Message Refusal)). then r (received slice r.table y.message y.time)) e

  by_rules : {p q v w : After (Result Message Refusal)} → By s a p → By p.table b q → By s b v → By v.table a w → NoSix (then p q) → NoSix (then v w) → Same slice (then p q) (then v w)
  by_rules {p} {q} {v} {w} ep eq ev ew n m =
      let x = order_is a b ep eq in
      let y = order_is b a ev ew in
      subst (λ (o : Offered Slice (Result Message Refusal)). Same slice o (then v w)) (sym x)
      (subst (Same slice (offered (received slice) s a b)) (sym y)
      (slice_antennas s (slice_fits s typed) a b (record { time = time; keys = keys; one_way = subst NoSix x n; other_way = subst NoSix y m })))

  module _ {M : Type 1} {𝓤 : Ura M} (𝓛 : Logic 𝓤) (mem : Memory → SProp 𝓤) (run : Routine → Fun 𝓤) where
    abbrev Call-of : Slice → Call → After (Result Message Refusal) → Type 0
    Call-of x c r = Received 𝓛 mem run x c.message c.time r

    -- of `receive`, whatever the places hold
    pub slice_code_antennas : {p q v w : After (Result Message Refusal)} (cp : Call-of s a p) (cq : Call-of p.table b q) (cv : Call-of s b v) (cw : Call-of v.table a w)
        → NoSix (then p q) → NoSix (then v w)
        → ent 𝓤 (sep 𝓤 (sep 𝓤 (got 𝓛 mem run cp) (got 𝓛 mem run cq)) (sep 𝓤 (got 𝓛 mem run cv) (got 𝓛 mem run cw))) (fact 𝓤 (Same slice (then p q) (then v w)))
    slice_code_antennas {p} {q} {v} {w} cp cq cv cw n m =
        both_say 𝓤 (sep 𝓤 (got 𝓛 mem run cp) (got 𝓛 mem run cq)) (sep 𝓤 (got 𝓛 mem run cv) (got 𝓛 mem run cw)) (By s a p × By p.table b q) (By s b v × By v.table a w) _
        (both_say 𝓤 (got 𝓛 mem run cp) (got 𝓛 mem run cq) _ _ _ (received_is 𝓛 mem run cp) (received_is 𝓛 mem run cq) (λ e f. (e, f)))
        (both_say 𝓤 (got 𝓛 mem run cv) (got 𝓛 mem run cw) _ _ _ (received_is 𝓛 mem run cv) (received_is 𝓛 mem run cw) (λ e f. (e, f)))
        (λ x y. by_rules x.0 x.1 y.0 y.1 n m)
