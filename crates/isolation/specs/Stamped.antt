-- RULES 1.5: demand 3 if messages come with stamps, of equal stamps. It is the statement of Runs, read so: what a call has for a time is its stamp, a table goes with the state that its caller keeps
-- beside it, and a set-up with a fresh one.
use Rattle.std.specs.Prelude.{ℕ, Result}
use Rattle.whereabouts.specs.declared.Site.{Site}
use Rattle.track.specs.declared.Track.{Track}
use Rattle.rules.specs.Form.{Form}
use Rattle.rules.specs.Rules.{After, after}
use Rattle.stamps.specs.declared.Stamps.{Stamps}
use Rattle.stamps.specs.declared.Stamped.{Stamped}
use Rattle.stamps.specs.Stamps.{fresh, stamped}
use Rattle.isolation.specs.Runs.{Rule, Isolation}
use Rattle.messages.specs.declared.Message.{Message}
use Rattle.refusals.specs.declared.Refusal.{Refusal}

-- a table, and the state beside it
pub record Kept (S : Type 0) : Type 0 where
  pub table : S
  pub state : Stamps

abbrev pub beside : {S : Type 0} → S → Stamps → Kept S
beside s state = record { table = s; state = state }

-- its form is the table's; a set-up makes the state fresh, and nothing else reads or writes it
abbrev pub kept : {S : Type 0} → Form S → Form (Kept S)
kept {S} F =
    record {
      whole = λ (k : Kept S). F.whole k.table;
      count = λ (k : Kept S). F.count k.table;
      clock = λ (k : Kept S). F.clock k.table;
      site = λ (k : Kept S). F.site k.table;
      cell = λ (k : Kept S) (i : ℕ). F.cell k.table i;
      moved = λ (k : Kept S) (time : ℕ). beside (F.moved k.table time) k.state;
      stored = λ (k : Kept S) (i key : ℕ) (t : Track). beside (F.stored k.table i key t) k.state;
      emptied = λ (k : Kept S) (o : Site). beside (F.emptied k.table o) fresh;
    }

-- what a call with a stamp leaves of both
abbrev pub keeping : {S : Type 0} → After S Stamped → After (Kept S) (Result Message Refusal)
keeping r = after r.answer.answer (beside r.table r.answer.state)

abbrev pub by_stamp : {S : Type 0} → Form S → Rule (Kept S)
by_stamp F k message stamp = keeping (stamped F k.table k.state message stamp)

-- two runs from one set-up with fresh states, with as many calls and equal stamps, alike for an aircraft, show it the same
abbrev pub StampedIsolation : {S T : Type 0} → Form S → Form T → Type 0
StampedIsolation F G = Isolation (kept F) (kept G) (by_stamp F) (by_stamp G)
