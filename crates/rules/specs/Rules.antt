-- RULES 3.3 to 3.8 and 9: the rules of the lent table, over any form: set-up, what a received message does, and what can be read.
use Rattle.std.specs.Prelude.{ℕ, Bool, cond, not, ◌&&◌, List, eqb, ltb, length, Result, Ok, Err, Option, Some, None, ⊤}
use Rattle.refusals.specs.declared.Refusal.{Refusal}
use Rattle.refusals.specs.declared.Refusal.TheVariants.{Length, Late, Full, Places, Field, NoTrack}
use Rattle.positions.specs.Positions.{pole_to_pole}
use Rattle.messages.specs.Message.{decoded, key_of, starts}
use Rattle.whereabouts.specs.declared.Site.{Site}
use Rattle.track.specs.declared.Stepped.{Stepped}
use Rattle.track.specs.Track.{new_track, stepped}
use Rattle.rules.specs.Keys.{key_or_end}
use Rattle.rules.specs.Search.{lowest, smallest}
use Rattle.rules.specs.Form.{is_held, holds, Form}
use Rattle.messages.specs.declared.Message.{Message}
use Rattle.track.specs.declared.Track.{Track}

-- what a call answers, and the table that it leaves
pub record After (S A : Type 0) : Type 0 where
  pub answer : A
  pub table : S

abbrev pub after : {S A : Type 0} → A → S → After S A
after a s = record { answer = a; table = s }

-- ---- set-up: 7, then 8, each leaving the table as it was; else the table is empty and its clock 0

unfoldable pub set_up : {S : Type 0} → Form S → S → Site → After S (Result ⊤ Refusal)
set_up F s o =
    cond (not (F.whole s)) (after (Err Places) s)
    (cond (o.known && not (pole_to_pole o.spot.latitude)) (after (Err Field) s)
    (after (Ok tt) (F.emptied s o)))

-- ---- the place of a key

-- RULES 9.5 and 9.9: the lowest place held at the clock with the key; the number of places if there is none
unfoldable pub place_of : {S : Type 0} → Form S → S → ℕ → ℕ → ℕ
place_of F s clock key = lowest (λ i. holds clock key (F.cell s i)) (F.count s)

-- RULES 9.5: the lowest free place: one that is not held at the clock
unfoldable pub free_place : {S : Type 0} → Form S → S → ℕ → ℕ
free_place F s clock = lowest (λ i. not (is_held clock (F.cell s i))) (F.count s)

-- ---- a received message

-- a stepped track at the place i
abbrev pub placed : {S : Type 0} → Form S → S → ℕ → ℕ → Stepped → After S (Result Message Refusal)
placed F s i key t = after t.answer (F.stored s i key t.track)

-- RULES 3.5: a message whose key is not held, and that gets no place: 6 if it may start a track, else 12
abbrev pub turned_away : Bool → Refusal
turned_away starts = cond starts Full NoTrack

-- the decoder's answer reaches a table whose clock has moved: a message updates its key's track, or starts it if it may, and a new one takes the lowest free place; else 6 or 12
unfoldable pub delivered : {S : Type 0} → Form S → S → Result Message Refusal → ℕ → After S (Result Message Refusal)
delivered F s (Err r) time = after (Err r) s
delivered F s (Ok m) time =
    cond (ltb (place_of F s time (key_of m)) (F.count s))
    (placed F s (place_of F s time (key_of m)) (key_of m) (stepped (F.cell s (place_of F s time (key_of m))).track (Ok m) (F.site s) time))
    (cond (starts m && ltb (free_place F s time) (F.count s))
    (placed F s (free_place F s time) (key_of m) (stepped new_track (Ok m) (F.site s) time))
    (after (Err (turned_away (starts m))) s))

-- 1, 7 and 2 change nothing; then the clock takes the time, and what the decoder says is delivered: 3, 4, 5, 6 and 12 leave the clock moved
unfoldable pub received : {S : Type 0} → Form S → S → List ℕ → ℕ → After S (Result Message Refusal)
received F s message time =
    cond (not (eqb (length message) 14)) (after (Err Length) s)
    (cond (not (F.whole s)) (after (Err Places) s)
    (cond (ltb time (F.clock s)) (after (Err Late) s)
    (delivered F (F.moved s time) (decoded message) time)))

-- ---- what can be read, all by the table's clock

unfoldable pub looked_up : {S : Type 0} → Form S → S → ℕ → Result (Option Track) Refusal
looked_up F s key =
    cond (not (F.whole s)) (Err Places)
    (cond (ltb (place_of F s (F.clock s) key) (F.count s))
    (Ok (Some (F.cell s (place_of F s (F.clock s) key)).track))
    (Ok None))

-- RULES 9.8: the smallest key above a given one that is held at the table's clock; 0 if there is none
abbrev pub least_above : {S : Type 0} → Form S → S → ℕ → ℕ
least_above F s above = smallest (λ i. (F.cell s i).key) (λ i. is_held (F.clock s) (F.cell s i)) above (F.count s)

unfoldable pub next_above : {S : Type 0} → Form S → S → ℕ → Result (Option ℕ) Refusal
next_above F s above =
    cond (not (F.whole s)) (Err Places)
    (Ok (key_or_end (least_above F s above)))
