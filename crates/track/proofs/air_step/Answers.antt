-- `track::air_step` meets its contract: its tests are those of the definition, a coarse message and TYPE 0.
use Prim.Native.Nat.{ℕ}
use mathlib.Core.Path.{◌≡◌, refl, sym, ap, ◌∙◌}
use mathlib.Core.Bool.{Bool, true, false, cond, not, ◌&&◌, true≢false, false≢true}
use lib.Dec.{eqb}
use Rattle.layouts.specs.declared.airborne.Airborne.{Airborne}
use Rattle.layouts.specs.Layouts.{airborne_of}
use Rattle.layouts.specs.Coarse.{coarse_of}
use Rattle.track.specs.declared.Groups.{Groups}
use Rattle.track.specs.declared.Track.{Track}
use Rattle.track.specs.declared.Aloft.{Aloft}
use Rattle.track.specs.Groups.{reported}
use Rattle.track.specs.Track.{group_track, saved_track, airborne_step, coarse_track}
use Rattle.track.specs.Code.{airborne_aloft, coarse_aloft}
use Rattle.track.proofs.air_step.Goals as goal

module _ (t : Track) (time me : ℕ) where
  abbrev due : Bool → Track
  due coarse = cond coarse (coarse_track t (coarse_of me) me time) (airborne_step t (airborne_of me) time)

  silent : (coarse z : Bool) → eqb (airborne_of me).typecode 0 ≡ z → not coarse && z ≡ true → group_track t (reported t.groups (airborne_of me).altitude) time ≡ due coarse
  silent true z e h = absurd (false≢true h)
  silent false true e h = rw e
  silent false false e h = absurd (false≢true h)

  abbrev saving : Aloft → Track
  saving a = saved_track t a.groups a.coarse a.f a.counts time

  located : (coarse z : Bool) → eqb (airborne_of me).typecode 0 ≡ z → not coarse && z ≡ false
      → saving (cond coarse (coarse_aloft t.groups (coarse_of me) me) (airborne_aloft t.groups (airborne_of me))) ≡ due coarse
  located true z e h = refl
  located false true e h = absurd (true≢false h)
  located false false e h = rw e

pub returns-then-coarse-b : goal.returns-then-coarse-b
returns-then-coarse-b c =
    let a = c.args in
    let tested : not a.coarse && eqb (airborne_of a.me).typecode 0 ≡ true =
    ap (λ (x : Airborne). not a.coarse && eqb x.typecode 0) (sym c.airborne_of-b.ensures) ∙ c.if-coarse-b.true in
    c.group_track.ensures
    ∙ ap (λ (g : Groups). group_track a.t g a.time) (c.with_reported.ensures ∙ ap (λ (x : Airborne). reported a.t.groups x.altitude) c.airborne_of-b.ensures)
    ∙ silent a.t a.time a.me a.coarse _ refl tested

pub returns : goal.returns
returns c =
    let a = c.args in
    let tested : not a.coarse && eqb (airborne_of a.me).typecode 0 ≡ false =
    ap (λ (x : Airborne). not a.coarse && eqb x.typecode 0) (sym c.airborne_of-b.ensures) ∙ c.if-coarse-b.false in
    c.saved_track.ensures
    ∙ ap (saving a.t a.time a.me) c.aloft_in.ensures.0
    ∙ located a.t a.time a.me a.coarse _ refl tested
