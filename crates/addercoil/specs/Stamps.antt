-- RULES 10.5 and 20.1: a message received with a stamp, for another language: the state is an array of two entries, whether a stamp has been accepted and the last one that was.
use Rattle.std.specs.Prelude.{ℕ, ◌^◌, Bool, cond, not, ◌||◌, List, [], ◌∷◌, eqb, leb, ltb, length, get_or}
use Rattle.memory.specs.Offsets.{whole_places}
use Rattle.table.specs.Bytes.{bytes}
use Rattle.table.specs.Table.{After}
use Rattle.stamps.specs.declared.Stamps.{Stamps}
use Rattle.stamps.specs.declared.Noted.{Noted}
use Rattle.stamps.specs.Heard.{heard}
use Rattle.stamps.specs.Stamps.{stamped}
use Rattle.addercoil.specs.Blocks.{Both, both}
use Rattle.entries.specs.Sent.{Sent, sent}
use Rattle.entries.specs.Means.{bit}
use Rattle.addercoil.specs.Done.{done_number}

-- the state in the array, and back
abbrev pub state_in : List ℕ → Stamps
state_in l = record { started = eqb (get_or l 0 0) 1; last = get_or l 1 0 }

abbrev pub state_row : Stamps → List ℕ
state_row state = bit state.started ∷ state.last ∷ []

-- entries that are no state: the first is above 1, or the second above 2^32 - 1
abbrev pub no_state : List ℕ → Bool
no_state l = ltb 1 (get_or l 0 0) || leb (2 ^ 32) (get_or l 1 0)

-- the number, and the array, of a message that was heard
abbrev pub noted_sent : Noted → Sent
noted_sent n = sent (done_number n.answer) (state_row n.state)

abbrev pub noted_after : After Noted → Both
noted_after a = both (noted_sent a.answer) a.table

-- 1 for a wrong length of the message or of the array, 7, then 8 for entries that are no state, each leaving all as it was; then what the stamp and the message earn
unfoldable pub received_stamp : List ℕ → List ℕ → ℕ → List ℕ → Both
received_stamp s m stamp l =
    cond (not (eqb (length m) 14) || not (eqb (length l) 2)) (both (sent 1 l) s)
    (cond (not (whole_places (length s))) (both (sent 7 l) s)
    (cond (no_state l) (both (sent 8 l) s)
    (noted_after (heard (stamped bytes s (state_in l) m stamp)))))
