-- The ways through a replay for another language: 14, a kind that is none, or what the plain method answers.
-- Assumes nothing.
use Prim.Native.Nat.{ℕ}
use mathlib.Core.Path.{◌≡◌}
use mathlib.Core.Bool.{Bool, true, false, not}
use mathlib.Core.List.{List}
use lib.ListN.{length}
use Rattle.keys.specs.declared.Kind.{Kind}
use Rattle.whereabouts.specs.declared.Site.{Site}
use Rattle.replay.specs.Replay.{is_log}
use Rattle.audit.specs.Replays.{worked_out, asked_of}
use Rattle.entries.specs.Sent.{Sent, sent, given}

module _ (out log : List ℕ) (none : Bool) (kind : Kind) (address : ℕ) (site : Site) {w : Bool} (w-is : w ≡ is_log (length log)) where
  abbrev Given : Sent → Type 0
  Given x = x ≡ given out (asked_of log none kind address site)

  pub no_log : not w ≡ true → Given (sent 14 out)
  unfolding asked_of
  no_log e = rw (← w-is, e)

  module _ (whole : not w ≡ false) where
    pub no_kind : none ≡ true → Given (sent 8 out)
    unfolding asked_of
    no_kind e = rw (← w-is, whole, e)

    pub worked_out_lem : none ≡ false → {x : Sent} → x ≡ given out (worked_out log kind address site) → Given x
    unfolding asked_of
    worked_out_lem e x-is = rw (← w-is, whole, e) x-is
