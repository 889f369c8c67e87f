-- Every pattern of bytes has a meaning in range: a value that counts has its own range, and one that does not is none, which fits.
-- Assumes nothing.
use Prim.Native.Nat.{ℕ, ◌^◌, ◌<◌}
use mathlib.Core.Path.{◌≡◌, refl, ap}
use mathlib.Core.Bool.{Bool, true, cond}
use mathlib.Core.List.{List}
use native.Mathlib.Omega.{arith}
use Rattle.fields.proofs.Bools.{by_test}
use Rattle.positions.specs.Positions.{count_size, pole_to_pole}
use Rattle.whereabouts.specs.declared.Position.{Position}
use Rattle.whereabouts.specs.declared.Saved.{Saved}
use Rattle.whereabouts.specs.Located.{no_position, size_of}
use Rattle.track.specs.declared.Groups.{Groups}
use Rattle.track.specs.Track.{no_saved}
use Rattle.track.specs.Meaning.{gives_identification, gives_velocity, gives_surface, gives_status, meant_groups, meant_position, meant_saved, NothingForeign}
use Rattle.track.proofs.Meanings.{groups_twice, meant_nothing_foreign}
use Rattle.place.specs.Place.{written_in, track_of, FitsSaved, FitsGroups, FitsPosition}

-- whatever the bytes, no ME of a foreign TYPE is read, and nothing where a mark is not set
pub any_bytes_nothing_foreign : (p : List ℕ) → NothingForeign (track_of p)
unfolding track_of
any_bytes_nothing_foreign p = meant_nothing_foreign (written_in p)

-- ---- none fits

pub none_fits : FitsSaved no_saved
unfolding meant_saved
none_fits = record { latitude = omega arith; longitude = omega arith; time = omega arith; meant = refl }

pub no_position_fits : FitsPosition no_position
unfolding meant_position
no_position_fits = record { latitude = refl; longitude = omega arith; time = omega arith; meant = refl }

-- ---- so what is meant fits if each value is in its range

heard_lt : (counts : Bool) (n : ℕ) → n < 2 ^ 56 → cond counts n 0 < 2 ^ 56
heard_lt counts n h = by_test (λ (x : ℕ). x < 2 ^ 56) counts n 0 (λ _. h) (λ _. omega arith)

pub groups_meant_fits : (g : Groups) → g.identification < 2 ^ 56 → g.velocity < 2 ^ 56 → g.surface < 2 ^ 56 → g.status < 2 ^ 56
    → g.pressure < 2 ^ 12 → g.height < 2 ^ 12 → g.typecode < 2 ^ 5 → FitsGroups (meant_groups g)
unfolding meant_groups
groups_meant_fits g a b c s d e t =
    record {
      identification = heard_lt (gives_identification g.identification) g.identification a;
      velocity = heard_lt (gives_velocity g.coarse g.velocity) g.velocity b;
      surface = heard_lt (gives_surface g.surface) g.surface c;
      status = heard_lt (gives_status g.status) g.status s;
      pressure = d;
      height = e;
      typecode = t;
      meant = groups_twice g;
    }

pub saved_meant_fits : (v : Saved) → v.counts.latitude.0 < count_size (size_of v.coarse) → v.counts.longitude.0 < count_size (size_of v.coarse)
    → v.time < 2 ^ 64 → FitsSaved (meant_saved v)
unfolding meant_saved
saved_meant_fits v a b c =
    by_test FitsSaved v.known v no_saved
    (λ e. record { latitude = a; longitude = b; time = c; meant = ap (λ (k : Bool). cond k v no_saved) e })
    (λ _. none_fits)

pub position_meant_fits : (p : Position) → pole_to_pole p.spot.latitude ≡ true → p.spot.longitude < 2 ^ 32 → p.time < 2 ^ 64 → FitsPosition (meant_position p)
unfolding meant_position
position_meant_fits p a b c =
    by_test FitsPosition p.known p no_position
    (λ e. record { latitude = a; longitude = b; time = c; meant = ap (λ (k : Bool). cond k p no_position) e })
    (λ _. no_position_fits)
