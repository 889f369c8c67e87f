-- RULES 13.1 and 13.2: a track worked out again from a log. The method takes the records in order, knows no table, and applies the rules of tracks to that key alone, the clock moving at each record.
use Rattle.std.specs.Prelude.{ℕ, zero, suc, ◌*◌, ◌/◌, ◌%◌, Bool, false, cond, not, ◌&&◌, ◌||◌, List, eqb, leb, length, take, drop, Option, None, Result, Err, Ok}
use Rattle.refusals.specs.declared.Refusal.TheVariants.{Field, Log}
use Rattle.refusals.specs.Numbers.{most_records}
use Rattle.fields.specs.Bytes.{number}
use Rattle.keys.specs.Keys.{addresses, flags, stations, key_for}
use Rattle.keys.specs.declared.Kind.{Kind}
use Rattle.keys.specs.declared.Kind.TheVariants.{I, O, T, M, N, C}
use Rattle.positions.specs.Positions.{pole_to_pole}
use Rattle.whereabouts.specs.declared.Site.{Site}
use Rattle.whereabouts.specs.Located.{no_site}
use Rattle.replay.specs.Alone.{Heard, heard_in, own_after}
use Rattle.replay.specs.declared.Own.{Own}
use Rattle.refusals.specs.declared.Refusal.{Refusal}
use Rattle.track.specs.declared.Track.{Track}

-- ---- the log

-- of so many bytes: at most 2,900 records of 22
abbrev pub is_log : ℕ → Bool
is_log n = eqb (n % 22) 0 && leb (n / 22) most_records

-- the record i, counted from 0
abbrev pub record_at : List ℕ → ℕ → List ℕ
record_at log i = take 22 (drop (22 * i) log)

-- as in a capture: 8 bytes of time, high byte first, then the 14 of the message
abbrev pub heard_at : ℕ → List ℕ → Heard
heard_at key r = heard_in key (drop 8 r) (number (take 8 r))

-- ---- the method

-- from clock 0, with nobody held
abbrev pub unheard : Own
unheard = record { clock = 0; track = None }

-- after the first n records, from what was seen before them
abbrev pub own_at : Site → ℕ → Own → List ℕ → ℕ → Own
own_at site key o log zero = o
own_at site key o log (suc n) = own_after site (own_at site key o log n) (heard_at key (record_at log n))

-- the spot of a site that is not known is not looked at
abbrev pub sited : Site → Site
sited site = cond site.known site no_site

-- a flag above 1, or a station above 15
abbrev pub is_wide : Kind → Bool
is_wide I = false
is_wide O = false
is_wide T = false
is_wide M = false
is_wide N = false
is_wide (C flag station) = leb flags flag || leb stations station

-- a known site whose latitude is beyond a pole
abbrev pub bad_site : Site → Bool
bad_site site = site.known && not (pole_to_pole site.spot.latitude)

-- 14, then 8 for an address over 24 bits, a flag or a station that is too wide or a bad site; else what all records leave of the key
unfoldable pub replayed : List ℕ → Kind → ℕ → Site → Result (Option Track) Refusal
replayed log kind address site =
    cond (not (is_log (length log))) (Err Log)
    (cond (leb addresses address || is_wide kind || bad_site site) (Err Field)
    (Ok (own_at (sited site) (key_for kind address) unheard log (length log / 22)).track))
