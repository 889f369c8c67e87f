-- RULES 13.4 and 19.3: what the answer says in the rules' terms: 14 or 8, or the track of the key, held or absent.
use Rattle.std.specs.Prelude.{ℕ, ◌/◌, Bool, cond, not, ◌||◌, List, leb, length, Option}
use Rattle.refusals.specs.Said.{Said, number, gives}
use Rattle.keys.specs.Keys.{addresses, key_for}
use Rattle.keys.specs.declared.Kind.{Kind}
use Rattle.whereabouts.specs.declared.Site.{Site}
use Rattle.track.specs.declared.Track.{Track}
use Rattle.replay.specs.Replay.{is_log, unheard, own_at, sited, is_wide, bad_site}

-- 14: a log over 2,900 records, or not of whole ones
abbrev pub earns14 : List ℕ → Bool
earns14 log = not (is_log (length log))

-- 8: an address over 24 bits, a flag or a station wider than its bits, or a bad site
abbrev pub earns8 : Kind → ℕ → Site → Bool
earns8 kind address site = leb addresses address || is_wide kind || bad_site site

-- 14 precedes 8
abbrev pub replay_table : List ℕ → Kind → ℕ → Site → Said (Option Track)
replay_table log kind address site =
    cond (earns14 log) (number 14)
    (cond (earns8 kind address site) (number 8)
    (gives (own_at (sited site) (key_for kind address) unheard log (length log / 22)).track))
