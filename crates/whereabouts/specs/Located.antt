-- RULES 7.20, 8.8 to 8.12 and 17.7: where a message puts its aircraft: by its partner, by one reference, or nowhere new. Values out of their range earn 8 where they are read, and it is passed on.
use Rattle.std.specs.Prelude.{ℕ, ◌-◌, Bool, true, false, cond, not, ◌&&◌, leb, eqb, pos, Result, Ok, Err}
use Rattle.refusals.specs.declared.Refusal.{Refusal}
use Rattle.refusals.specs.Numbers.{number_of}
use Rattle.positions.specs.declared.Counts.{Counts}
use Rattle.positions.specs.declared.Spot.{Spot}
use Rattle.positions.specs.declared.Turn.{Turn}
use Rattle.positions.specs.declared.Turn.TheVariants.{Airborne, Surface}
use Rattle.positions.specs.declared.Format.{Format}
use Rattle.positions.specs.declared.Format.TheVariants.{Even, Odd}
use Rattle.positions.specs.declared.Size.{Size}
use Rattle.positions.specs.declared.Size.TheVariants.{Fine, Coarse}
use Rattle.positions.specs.Positions.{count_size, paired, singly}
use Rattle.whereabouts.specs.declared.Saved.{Saved}
use Rattle.whereabouts.specs.declared.Position.{Position}
use Rattle.whereabouts.specs.declared.Site.{Site}

abbrev pub no_position : Position
no_position = record { known = false; spot = record { latitude = pos 0; longitude = 0 }; time = 0 }

abbrev pub no_site : Site
no_site = record { known = false; spot = record { latitude = pos 0; longitude = 0 } }

abbrev pub site_at : Spot → Site
site_at spot = record { known = true; spot = spot }

-- RULES 8.2: a time is at most so old; one after the clock has age 0
abbrev pub is_within : ℕ → ℕ → ℕ → Bool
is_within most clock time = leb (clock - time) most

-- RULES 8.9: the track's position, if at most 120,000 old
abbrev pub is_fresh : Position → ℕ → Bool
is_fresh p clock = p.known && is_within 120000 clock p.time

-- RULES 8.12: a position found takes the message's time
abbrev pub found_at : Spot → ℕ → Position
found_at spot time = record { known = true; spot = spot; time = time }

-- RULES 8.15: 8 is passed on; of another number something else comes
abbrev pub passed_on : Refusal → Result Position Refusal → Result Position Refusal
passed_on r other = cond (eqb (number_of r) 8) (Err r) other

-- RULES 8.10: on 9 the position stays
abbrev pub settled : Result Spot Refusal → Position → ℕ → Result Position Refusal
settled (Ok spot) p time = Ok (found_at spot time)
settled (Err r) p time = passed_on r (Ok p)

-- read singly against a reference
unfoldable pub read_near : Spot → Position → Size → Counts → Turn → Format → ℕ → Result Position Refusal
read_near reference p size counts turn format time = settled (singly (count_size size) reference counts turn format) p time

-- RULES 8.9: an airborne message is read singly against the track's position if at most 120,000 old; otherwise the position stays
unfoldable pub read_singly : Position → Size → Counts → Format → ℕ → Result Position Refusal
read_singly p size counts format time = cond (is_fresh p time) (read_near p.spot p size counts Airborne format time) (Ok p)

-- RULES 8.8: the later message is the one being processed
unfoldable pub paired_with : Counts → Size → Counts → Format → Result Spot Refusal
paired_with partner size counts Even = paired (count_size size) counts partner Even
paired_with partner size counts Odd = paired (count_size size) partner counts Odd

-- RULES 8.9: on 9 or 10 it is read singly
abbrev pub after_pair : Result Spot Refusal → Position → Size → Counts → Format → ℕ → Result Position Refusal
after_pair (Ok spot) p size counts format time = Ok (found_at spot time)
after_pair (Err r) p size counts format time = passed_on r (read_singly p size counts format time)

-- the size of a saved position's counts
abbrev pub size_of : Bool → Size
size_of coarse = cond coarse Coarse Fine

-- RULES 17.7: coarse counts go with a coarse message, fine ones with a fine one
abbrev pub same_size : Bool → Size → Bool
same_size coarse Fine = not coarse
same_size coarse Coarse = coarse

-- RULES 8.8 and 17.7: the other message is a message's partner if it is known, of its size and at most 10,000 old
unfoldable pub is_partner : Saved → Size → ℕ → Bool
is_partner saved size time = saved.known && same_size saved.coarse size && is_within 10000 time saved.time

-- RULES 8.8: an airborne message is paired with its partner; failing that it is read singly
unfoldable pub airborne_position : Position → Saved → Size → Counts → Format → ℕ → Result Position Refusal
airborne_position p partner size counts format time =
    cond (is_partner partner size time)
    (after_pair (paired_with partner.counts size counts format) p size counts format time)
    (read_singly p size counts format time)

-- RULES 7.20 and 8.11: a surface message, which is never coarse, is read singly against the track's position within 120,000, else the site, else not at all; on 9 the position stays
unfoldable pub surface_position : Position → Site → Counts → Format → ℕ → Result Position Refusal
surface_position p site counts format time =
    cond (is_fresh p time) (read_near p.spot p Fine counts Surface format time)
    (cond site.known (read_near site.spot p Fine counts Surface format time)
    (Ok p))
