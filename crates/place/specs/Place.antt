-- RULES 9.11, 9.15 and 9.16: a place of the lent table: a key, which stands in a column of keys, and a body, bytes that are one track.
use Rattle.std.specs.Prelude.{ℕ, suc, ◌+◌, ◌*◌, ◌-◌, ◌/◌, ◌%◌, ◌^◌, ◌<◌, min, ◌≡◌, Bool, true, false, List, [], ◌∷◌, ◌++◌, eqb, ℤ, pos, negsuc, length, get_or}
use Rattle.std.proofs.Math.IntN.{sub_ℕ}
use Rattle.memory.specs.Offsets.{heard_at, identification_at, velocity_at, surface_at, status_at, marks_at, latitude_at, longitude_at, time_at, saved_time_at, even_at, odd_at}
use Rattle.positions.specs.Positions.{count_size, pole_to_pole}
use Rattle.track.specs.declared.Groups.{Groups}
use Rattle.whereabouts.specs.declared.Position.{Position}
use Rattle.whereabouts.specs.declared.Saved.{Saved}
use Rattle.whereabouts.specs.Located.{size_of}
use Rattle.track.specs.declared.Track.{Track}
use Rattle.track.specs.Track.{no_saved}
use Rattle.track.specs.Meaning.{meant_groups, meant_position, meant_saved, meant}
use Rattle.memory.specs.Bytes.{number_at, low_bytes}

-- ---- the track of a body

-- a count of its 17 bits: of a coarse one 12 of them count
abbrev pub count_in : Bool → ℕ → ℕ
count_in coarse n = n % count_size (size_of coarse)

-- bit 35 of an encoded position's number
abbrev pub coarse_in : ℕ → Bool
coarse_in n = eqb (n / 34359738368 % 2) 1

-- an encoded position of one number, the counts its low bits, and a time
unfoldable pub saved_from : ℕ → ℕ → Saved
saved_from n time =
    record {
      known = eqb (n / 17179869184 % 2) 1;
      coarse = coarse_in n;
      counts = record { latitude = record { 0 = count_in (coarse_in n) n }; longitude = record { 0 = count_in (coarse_in n) (n / 131072) } };
      time = time;
    }

abbrev pub saved_at : List ℕ → ℕ → Saved
saved_at p a = saved_from (number_at 5 p a) (number_at 8 p (a + saved_time_at))

unfoldable pub groups_in : List ℕ → Groups
groups_in p =
    record {
      identification = number_at 7 p identification_at;
      velocity = number_at 7 p velocity_at;
      surface = number_at 7 p surface_at;
      status = number_at 7 p status_at;
      pressure = number_at 4 p marks_at % 4096;
      height = number_at 4 p marks_at / 4096 % 4096;
      typecode = number_at 4 p marks_at / 33554432 % 32;
      bit8 = eqb (number_at 4 p marks_at / 1073741824 % 2) 1;
      coarse = eqb (number_at 4 p marks_at / 2147483648 % 2) 1;
    }

-- a latitude of its number, 2^30 up; one above its range is read as the pole
unfoldable pub lowered : ℕ → ℤ
lowered n = sub_ℕ (min n 2147483648) 1073741824

unfoldable pub position_in : List ℕ → Position
position_in p =
    record {
      known = eqb (number_at 4 p marks_at / 16777216 % 2) 1;
      spot = record { latitude = lowered (number_at 4 p latitude_at); longitude = number_at 4 p longitude_at };
      time = number_at 8 p time_at;
    }

unfoldable pub written_in : List ℕ → Track
written_in p =
    record {
      heard = number_at 8 p heard_at;
      groups = groups_in p;
      position = position_in p;
      saved = saved_at p even_at ∷ saved_at p odd_at ∷ [];
    }

-- .. as it is meant: any bytes read as a track in range
unfoldable pub track_of : List ℕ → Track
track_of p = meant (written_in p)

-- ---- the body of a track

abbrev pub bit : Bool → ℕ
bit true = 1
bit false = 0

-- a latitude 2^32 + 2^30 up; its 32 low bits are the latitude 2^30 up
unfoldable pub above_pole : ℤ → ℕ
above_pole (pos a) = a + 5368709120
above_pole (negsuc a) = 5368709120 - suc a

unfoldable pub marks_of : Groups → Bool → ℕ
marks_of g known =
    g.pressure % 4096 + g.height % 4096 * 4096 + bit known * 16777216
    + g.typecode % 32 * 33554432 + bit g.bit8 * 1073741824 + bit g.coarse * 2147483648

unfoldable pub saved_number : Saved → ℕ
saved_number v =
    v.counts.latitude.0 % 131072 + v.counts.longitude.0 % 131072 * 131072
    + bit v.known * 17179869184 + bit v.coarse * 34359738368

unfoldable pub saved_bytes : Saved → List ℕ
saved_bytes v = low_bytes 5 (saved_number v) ++ low_bytes 8 v.time

unfoldable pub message_bytes : Groups → List ℕ
message_bytes g = low_bytes 7 g.identification ++ (low_bytes 7 g.velocity ++ (low_bytes 7 g.surface ++ low_bytes 7 g.status))

unfoldable pub spot_bytes : Position → List ℕ
spot_bytes p = low_bytes 4 (above_pole p.spot.latitude) ++ (low_bytes 4 p.spot.longitude ++ low_bytes 8 p.time)

-- its parts in the order of their offsets
unfoldable pub body_of : Track → List ℕ
body_of t =
    low_bytes 8 t.heard
    ++ (message_bytes t.groups
    ++ (low_bytes 4 (marks_of t.groups t.position.known)
    ++ (spot_bytes t.position
    ++ (saved_bytes (get_or t.saved 0 no_saved)
    ++ saved_bytes (get_or t.saved 1 no_saved)))))

-- what a body has room for, and that means itself
pub record FitsSaved (v : Saved) : Type 0 where
  pub latitude : v.counts.latitude.0 < count_size (size_of v.coarse)
  pub longitude : v.counts.longitude.0 < count_size (size_of v.coarse)
  pub time : v.time < 2 ^ 64
  pub meant : meant_saved v ≡ v

pub record FitsGroups (g : Groups) : Type 0 where
  pub identification : g.identification < 2 ^ 56
  pub velocity : g.velocity < 2 ^ 56
  pub surface : g.surface < 2 ^ 56
  pub status : g.status < 2 ^ 56
  pub pressure : g.pressure < 2 ^ 12
  pub height : g.height < 2 ^ 12
  pub typecode : g.typecode < 2 ^ 5
  pub meant : meant_groups g ≡ g

pub record FitsPosition (p : Position) : Type 0 where
  pub latitude : pole_to_pole p.spot.latitude ≡ true
  pub longitude : p.spot.longitude < 2 ^ 32
  pub time : p.time < 2 ^ 64
  pub meant : meant_position p ≡ p

pub record Fits (t : Track) : Type 0 where
  pub heard : t.heard < 2 ^ 64
  pub groups : FitsGroups t.groups
  pub position : FitsPosition t.position
  pub two : length t.saved ≡ 2
  pub even : FitsSaved (get_or t.saved 0 no_saved)
  pub odd : FitsSaved (get_or t.saved 1 no_saved)
