-- RULES 14.2 and 14.3: the form of a listing, over the bytes of a text, whoever made it. A newline after each line, single spaces, the header's words, then kind, six upper-case hex digits and the columns, each "-" or a decimal of at most
-- 20 digits without leading zeros, minus only before a nonzero one.
use Rattle.std.specs.Cmp.Lexicographic.{pointwise}
use Rattle.std.specs.List.{list_all}
use Rattle.std.specs.Prelude.{ℕ, Bool, true, false, cond, not, ◌&&◌, ◌||◌, List, [], ◌∷◌, eqb, leb, length, drop, get_or}

-- ---- a text cut at a separator

-- a byte before the first of some pieces
unfoldable pub longer : ℕ → List (List ℕ) → List (List ℕ)
longer b [] = (b ∷ []) ∷ []
longer b (w ∷ ws) = (b ∷ w) ∷ ws

-- what stands between the separators: one piece more than there are separators, and an empty one where two follow each other
unfoldable pub pieces : ℕ → List ℕ → List (List ℕ)
pieces sep [] = [] ∷ []
pieces sep (b ∷ s) = cond (eqb b sep) ([] ∷ pieces sep s) (longer b (pieces sep s))

-- ---- words

unfoldable pub same : List ℕ → List ℕ → Bool
same s t = pointwise eqb s t

-- 0-9
abbrev pub is_digit : ℕ → Bool
is_digit b = leb 48 b && leb b 57

-- 0-9, A-F
abbrev pub is_hex_digit : ℕ → Bool
is_hex_digit b = is_digit b || (leb 65 b && leb b 70)

-- each byte passes a test
unfoldable pub all : (ℕ → Bool) → List ℕ → Bool
all test w = list_all test w

-- 1 to 20 digits, the first not 0
unfoldable pub is_positive : List ℕ → Bool
is_positive w = leb 1 (length w) && leb (length w) 20 && all is_digit w && not (eqb (get_or w 0 0) 48)

-- a minus before such a number
unfoldable pub is_negative : List ℕ → Bool
is_negative w = eqb (get_or w 0 0) 45 && is_positive (drop 1 w)

-- "-", "0", or a number that is not 0, with a minus or without
unfoldable pub is_figure : List ℕ → Bool
is_figure w = same w (45 ∷ []) || same w (48 ∷ []) || is_positive w || is_negative w

-- I, O, T, M or N
unfoldable pub is_kind : List ℕ → Bool
is_kind w = same w (73 ∷ []) || same w (79 ∷ []) || same w (84 ∷ []) || same w (77 ∷ []) || same w (78 ∷ [])

-- C, whose keys have two columns more
unfoldable pub is_coarse : List ℕ → Bool
is_coarse w = same w (67 ∷ [])

unfoldable pub is_address : List ℕ → Bool
is_address w = eqb (length w) 6 && all is_hex_digit w

-- ---- lines

-- what a word of a line can be
pub data Sort : Type 0 where
  Kind Coarse Address Figure : Sort
  Word : List ℕ → Sort

unfoldable pub fits : Sort → List ℕ → Bool
fits Kind w = is_kind w
fits Coarse w = is_coarse w
fits Address w = is_address w
fits Figure w = is_figure w
fits (Word label) w = same w label

-- as many words as asked for, each of its sort
unfoldable pub all_fit : List Sort → List (List ℕ) → Bool
all_fit [] [] = true
all_fit [] (w ∷ ws) = false
all_fit (k ∷ ks) [] = false
all_fit (k ∷ ks) (w ∷ ws) = fits k w && all_fit ks ws

-- "clock", "tracks", "bad-blocks"
abbrev pub clock_word : List ℕ
clock_word = 99 ∷ 108 ∷ 111 ∷ 99 ∷ 107 ∷ []

abbrev pub tracks_word : List ℕ
tracks_word = 116 ∷ 114 ∷ 97 ∷ 99 ∷ 107 ∷ 115 ∷ []

abbrev pub bad_word : List ℕ
bad_word = 98 ∷ 97 ∷ 100 ∷ 45 ∷ 98 ∷ 108 ∷ 111 ∷ 99 ∷ 107 ∷ 115 ∷ []

abbrev pub header_sorts : List Sort
header_sorts = Word clock_word ∷ Figure ∷ Word tracks_word ∷ Figure ∷ Word bad_word ∷ Figure ∷ []

-- last heard, latitude, longitude, altitude, its step
abbrev pub column_sorts : List Sort
column_sorts = Figure ∷ Figure ∷ Figure ∷ Figure ∷ Figure ∷ []

-- kind, address, columns
abbrev pub line_sorts : List Sort
line_sorts = Kind ∷ Address ∷ column_sorts

-- of C the flag and the station before them
abbrev pub coarse_sorts : List Sort
coarse_sorts = Coarse ∷ Address ∷ Figure ∷ Figure ∷ column_sorts

-- single spaces: the words are what stands between the spaces
unfoldable pub header_form : List ℕ → Bool
header_form l = all_fit header_sorts (pieces 32 l)

unfoldable pub line_form : List ℕ → Bool
line_form l = all_fit line_sorts (pieces 32 l) || all_fit coarse_sorts (pieces 32 l)

-- ---- the text

-- lines, and nothing after the last one's newline
unfoldable pub lines_form : List ℕ → List (List ℕ) → Bool
lines_form l [] = same l []
lines_form l (m ∷ ms) = line_form l && lines_form m ms

unfoldable pub body_form : List (List ℕ) → Bool
body_form [] = false
body_form (l ∷ ls) = lines_form l ls

-- the header's line, then the others
unfoldable pub text_form : List (List ℕ) → Bool
text_form [] = false
text_form (h ∷ ls) = header_form h && body_form ls

unfoldable pub in_form : List ℕ → Bool
in_form s = text_form (pieces 10 s)

-- each line ends in a newline: what stands after the last is no line
unfoldable pub lines_in : List (List ℕ) → List (List ℕ)
lines_in [] = []
lines_in (l ∷ []) = []
lines_in (l ∷ m ∷ ms) = l ∷ lines_in (m ∷ ms)
