-- What private functions promise to each other: the scan of the places for a key and for a free one, which is sought only for a message that starts a track. No public contract cites this file.
use Rattle.std.specs.Prelude.{ℕ, suc, Bool, cond, not, ◌&&◌, List, ltb, get_or, Result}
use Rattle.rules.specs.Search.{lowest}
use Rattle.slice_places.specs.declared.Place.{Place}
use Rattle.slice_places.specs.declared.Sought.{Sought}
use Rattle.slice_places.specs.Ranges.{no_place, is_held, holds}
use Rattle.slice_table.specs.declared.Found.{Found}
use Rattle.rules.specs.Rules as rules
use Rattle.rules.specs.Search as search
use Rattle.slice_places.specs.declared.Head.{Head}
use Rattle.slice_table.specs.Slice.{slice_of, slice}
use Rattle.slice_table.specs.Tracks.{After}
use Rattle.messages.specs.declared.Message.{Message}
use Rattle.refusals.specs.declared.Refusal.{Refusal}

abbrev pub none_found : Found
none_found = record { own = 0; free = 0 }

-- the lowest number so far, or else the next one if it passes
abbrev pub further : ℕ → ℕ → Bool → ℕ
further best i passes = cond (ltb best i) best (cond passes i (suc i))

unfoldable pub visited : Found → Place → ℕ → Sought → Found
visited found p i s =
    record {
      own = further found.own i (holds s.clock s.key p);
      free = further found.free i (s.starts && not (is_held s.clock p));
    }

-- the lowest of the first n places held with the key, and the lowest free one
unfoldable pub scanned : List Place → Sought → ℕ → Found
scanned ps s n =
    record {
      own = lowest (λ i. holds s.clock s.key (get_or ps i no_place)) n;
      free = lowest (λ i. s.starts && not (is_held s.clock (get_or ps i no_place))) n;
    }

-- of n places the key's, or else a free one
abbrev pub chosen : Found → ℕ → ℕ
chosen found n = cond (ltb found.own n) found.own found.free

abbrev pub delivered : List Place → Head → Result Message Refusal → After (Result Message Refusal)
delivered ps head d = rules.delivered slice (slice_of head ps) d head.clock

-- the smallest key above that the first n places hold; 0 if there is none
abbrev pub smallest : List Place → ℕ → ℕ → ℕ → ℕ
smallest ps clock above n = search.smallest (λ i. (get_or ps i no_place).key) (λ i. is_held clock (get_or ps i no_place)) above n
