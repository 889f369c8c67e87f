-- RULES 13.4: a track worked out again from a log, for another language: the kind is a number, as it stands above the address in a key, or C, with a flag and a station.
use Rattle.std.specs.Prelude.{ℕ, Bool, cond, not, List, length}
use Rattle.refusals.specs.Said.{Said, number}
use Rattle.keys.specs.declared.Kind.{Kind}
use Rattle.keys.specs.declared.Kind.TheVariants.{C}
use Rattle.keys.specs.Keys.{kind_at, is_kind, key_for}
use Rattle.whereabouts.specs.declared.Site.{Site}
use Rattle.whereabouts.specs.Located.{no_site}
use Rattle.replay.specs.Replay.{is_log, is_wide, replayed}
use Rattle.track_rows.specs.Held.{looked_said}

-- what `replay` answers of a kind and an address, as the row of `addercoil_look_up`
unfoldable pub worked_out : List ℕ → Kind → ℕ → Site → Said (List ℕ)
worked_out log kind address site = looked_said (key_for kind address) (replayed log kind address site)

-- 14, then 8 where the kind is none, or for what `replay` refuses
unfoldable pub asked_of : List ℕ → (none : Bool) → Kind → ℕ → Site → Said (List ℕ)
asked_of log none kind address site =
    cond (not (is_log (length log))) (number 14)
    (cond none (number 8)
    (worked_out log kind address site))

-- a number that no kind has
abbrev pub replay_said : List ℕ → ℕ → ℕ → Site → Said (List ℕ)
replay_said log kind address site = asked_of log (not (is_kind kind)) (kind_at kind) address site

-- a flag or a station that is wider than its bits; a coarse message uses no site
abbrev pub coarse_said : List ℕ → ℕ → ℕ → ℕ → Said (List ℕ)
coarse_said log address flag station = asked_of log (is_wide (C flag station)) (C flag station) address no_site
