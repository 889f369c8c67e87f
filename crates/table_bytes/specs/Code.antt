-- What private functions promise to each other: the scan of the keys, some places at a time. No public contract cites this file.
use Rattle.std.specs.Prelude.{ℕ, zero, suc, ◌+◌, ◌*◌, ◌<◌, ◌≡◌, Bool, true, false, not, ◌&&◌, List, eqb}
use Rattle.memory.specs.Offsets.{key_size, key_start}
use Rattle.memory.specs.Bytes.{number_at}
use Rattle.table_bytes.specs.Layout.{Place, is_held}
use Rattle.rules.specs.Search as search

-- none of m keys from an offset on passes a test
abbrev pub none_of : (ℕ → Bool) → ℕ → List ℕ → ℕ → Bool
none_of p zero s at = true
none_of p (suc m) s at = none_of p m s at && not (p (number_at 4 s (at + key_size * m)))

-- none of the first r keys is the key
abbrev pub NoneBelow : List ℕ → ℕ → ℕ → Type 0
NoneBelow s key r = (i : ℕ) → i < r → eqb (number_at 4 s (key_start i)) key ≡ false

-- each of m places from i on is held
abbrev pub all_held : ℕ → (ℕ → Place) → ℕ → ℕ → Bool
all_held zero f i clock = true
all_held (suc m) f i clock = all_held m f i clock && is_held clock (f (i + m))

-- the lesser of the best key so far, 0 for none, and the place's, if that is held and above
abbrev pub better : ℕ → ℕ → ℕ → Place → ℕ
better clock above best p = search.better above best p.key (is_held clock p)
