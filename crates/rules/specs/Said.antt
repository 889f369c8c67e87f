-- RULES 3.2 to 3.6 and 19.3: what the answers say in the rules' terms, of any form: a number, or what the lent table holds; and for a received message the whole table of numbers, in its order.
use Rattle.std.specs.Prelude.{ℕ, Bool, cond, not, ◌&&◌, List, eqb, ltb, Result, Ok, Err, Option, Some, None, ⊤}
use Rattle.refusals.specs.Numbers.{number_of}
use Rattle.refusals.specs.Said.{Said, number, gives}
use Rattle.positions.specs.declared.Spot.{Spot}
use Rattle.positions.specs.Positions.{pole_to_pole}
use Rattle.layouts.specs.Said.{Values}
use Rattle.messages.specs.Said.{earns1, earns3, earns4, earns5, key_in, starts_in, values_in}
use Rattle.whereabouts.specs.declared.Site.{Site}
use Rattle.rules.specs.Form.{Form}
use Rattle.rules.specs.Rules.{place_of, free_place, least_above}
use Rattle.refusals.specs.declared.Refusal.{Refusal}

-- that a call is done: it gives no values
abbrev pub done : Said Unit
done = gives tt

-- the answer of a set-up
abbrev pub set_up_said : Result ⊤ Refusal → Said Unit
set_up_said (Ok tt) = done
set_up_said (Err r) = number (number_of r)

-- of `hear`, and what it makes of the decoder's answer: that it is done, where that has values
abbrev pub heard_said : Result ⊤ Refusal → Said Unit
heard_said (Ok tt) = done
heard_said (Err r) = number (number_of r)

abbrev pub done_or : Said Values → Said Unit
done_or (number n) = number n
done_or (gives v) = done

-- of `next`: the next key, or that there is none
abbrev pub next_said : Result (Option ℕ) Refusal → Said (Option ℕ)
next_said (Ok (Some k)) = gives (Some k)
next_said (Ok None) = gives None
next_said (Err r) = number (number_of r)

-- of `clock_of`
abbrev pub clock_said : Result ℕ Refusal → Said ℕ
clock_said (Ok t) = gives t
clock_said (Err r) = number (number_of r)

-- where a site is, if it is known
abbrev pub spot_in : Site → Option Spot
spot_in x = cond x.known (Some x.spot) None

-- of `site_of`: the site, or that there is none
abbrev pub sited_said : Result Site Refusal → Said (Option Spot)
sited_said (Ok x) = gives (spot_in x)
sited_said (Err r) = number (number_of r)

-- a key, if it is one: none is 0
abbrev pub or_none : ℕ → Option ℕ
or_none k = cond (eqb k 0) None (Some k)

-- the smallest key held above a given one, if there is one
abbrev pub key_above : {S : Type 0} → Form S → S → ℕ → Option ℕ
key_above F s above = or_none (least_above F s above)

-- ---- the table's "When, exactly", for a table s, a message m and its time; 1, 3, 4 and 5 depend on the message alone, and stand in messages/specs/Said

-- 2: time below the clock
abbrev pub earns2 : {S : Type 0} → Form S → S → ℕ → Bool
earns2 F s time = ltb time (F.clock s)

-- some place holds the key at the time
abbrev pub key_held : {S : Type 0} → Form S → S → ℕ → ℕ → Bool
key_held F s time k = ltb (place_of F s time k) (F.count s)

-- some place is free at the time
abbrev pub place_free : {S : Type 0} → Form S → S → ℕ → Bool
place_free F s time = ltb (free_place F s time) (F.count s)

-- RULES 3.5: 6: a message that may start a track, key not held and no place free
abbrev pub earns6 : {S : Type 0} → Form S → S → List ℕ → ℕ → Bool
earns6 F s m time = not (key_held F s time (key_in m)) && (starts_in m && not (place_free F s time))

-- RULES 3.5 and 9.6: 12, in its place: one that may not, key not held
abbrev pub earns12 : {S : Type 0} → Form S → S → List ℕ → ℕ → Bool
earns12 F s m time = not (key_held F s time (key_in m)) && not (starts_in m)

-- RULES 3.6: 7: a table of 0 or more than 1,024 places, or not of whole places
abbrev pub earns7 : {S : Type 0} → Form S → S → Bool
earns7 F s = not (F.whole s)

-- RULES 3.6: 8: a latitude outside -2^30..2^30, of the site that a set-up is given
abbrev pub earns8 : Site → Bool
earns8 o = o.known && not (pole_to_pole o.spot.latitude)

-- RULES 3.6: for a set-up 7 precedes 8
abbrev pub set_up_table : {S : Type 0} → Form S → S → Site → Said Unit
set_up_table F s o = cond (earns7 F s) (number 7) (cond (earns8 o) (number 8) done)

-- for a received message the order is 1, 7, 2, 3, 4, 5, then 6 or 12; else the values. `receive` answers with the decoder's type, so what it says is `said` of messages
abbrev pub receive_table : {S : Type 0} → Form S → S → List ℕ → ℕ → Said Values
receive_table F s m time =
    cond (earns1 m) (number 1)
    (cond (earns7 F s) (number 7)
    (cond (earns2 F s time) (number 2)
    (cond (earns3 m) (number 3)
    (cond (earns4 m) (number 4)
    (cond (earns5 m) (number 5)
    (cond (earns6 F s m time) (number 6)
    (cond (earns12 F s m time) (number 12)
    (gives (values_in m)))))))))
