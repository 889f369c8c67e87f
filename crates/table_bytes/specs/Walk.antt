-- RULES 9.8: the smallest key that a table holds above a given one: that of `rules`, at the places.
use Rattle.std.specs.Prelude.{ℕ}
use Rattle.rules.specs.Search as search
use Rattle.table_bytes.specs.Layout.{Place, is_held}

-- the smallest key above that the first n places hold; 0 if there is none
abbrev pub smallest : (ℕ → Place) → ℕ → ℕ → ℕ → ℕ
smallest f clock above n = search.smallest (λ i. (f i).key) (λ i. is_held clock (f i)) above n
