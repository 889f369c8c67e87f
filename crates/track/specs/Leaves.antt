-- RULES 8.7 and 17.7: what a message leaves of a track, value by value, where it replaces little: the statements of proofs/Rules.
use Rattle.std.specs.Prelude.{ℕ, ◌≡◌, true, cond, eqb}
use Rattle.track.specs.declared.Track.{Track}

-- what a message without a position leaves of a track: the code that it reports, or the one before if that is 0
pub record NoPosition (altitude time : ℕ) (t n : Track) : Type 0 where
  pub heard : n.heard ≡ time
  pub pressure : n.groups.pressure ≡ cond (eqb altitude 0) t.groups.pressure altitude
  pub identification : n.groups.identification ≡ t.groups.identification
  pub velocity : n.groups.velocity ≡ t.groups.velocity
  pub surface : n.groups.surface ≡ t.groups.surface
  pub status : n.groups.status ≡ t.groups.status
  pub height : n.groups.height ≡ t.groups.height
  pub typecode : n.groups.typecode ≡ t.groups.typecode
  pub bit8 : n.groups.bit8 ≡ t.groups.bit8
  pub coarse : n.groups.coarse ≡ t.groups.coarse
  pub position : n.position ≡ t.position
  pub saved : n.saved ≡ t.saved

-- what a status leaves of a track: all but its own group and the time heard
pub record OnlyStatus (me time : ℕ) (t n : Track) : Type 0 where
  pub heard : n.heard ≡ time
  pub status : n.groups.status ≡ me
  pub identification : n.groups.identification ≡ t.groups.identification
  pub velocity : n.groups.velocity ≡ t.groups.velocity
  pub surface : n.groups.surface ≡ t.groups.surface
  pub pressure : n.groups.pressure ≡ t.groups.pressure
  pub height : n.groups.height ≡ t.groups.height
  pub typecode : n.groups.typecode ≡ t.groups.typecode
  pub bit8 : n.groups.bit8 ≡ t.groups.bit8
  pub coarse : n.groups.coarse ≡ t.groups.coarse
  pub position : n.position ≡ t.position
  pub saved : n.saved ≡ t.saved

-- what a coarse message leaves of a track: its altitude, itself as the velocity, and of the other groups what they were
pub record Coarsely (altitude me time : ℕ) (t n : Track) : Type 0 where
  pub heard : n.heard ≡ time
  pub pressure : n.groups.pressure ≡ altitude
  pub velocity : n.groups.velocity ≡ me
  pub coarse : n.groups.coarse ≡ true
  pub identification : n.groups.identification ≡ t.groups.identification
  pub surface : n.groups.surface ≡ t.groups.surface
  pub status : n.groups.status ≡ t.groups.status
  pub height : n.groups.height ≡ t.groups.height
  pub typecode : n.groups.typecode ≡ t.groups.typecode
  pub bit8 : n.groups.bit8 ≡ t.groups.bit8
