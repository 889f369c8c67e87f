-- RULES 18.8 and 18.9: two listings as one. The header has the same clock and the sums of the counts; then come the lines of both, in the order of their keys. If they cannot be one, it is 16.
use Rattle.std.specs.Prelude.{ℕ, ◌+◌, ◌-◌, ◌*◌, ◌^◌, Bool, true, cond, not, ◌&&◌, ◌||◌, List, [], ◌∷◌, ◌++◌, eqb, leb, ltb, length, drop, get_or, Result, Ok, Err}
use Rattle.refusals.specs.declared.Refusal.TheVariants.{Length, Form}
use Rattle.keys.specs.declared.Kind.{Kind}
use Rattle.keys.specs.declared.Kind.TheVariants.{I, O, T, M, N, C}
use Rattle.keys.specs.Keys.{letter_of, key_for}
use Rattle.text.specs.Lines.{newline, clock_label, tracks_label, bad_label, header_text}
use Rattle.form.specs.Form.{pieces, same, is_digit, in_form, lines_in}
use Rattle.entries.specs.Arrays.{filled}
use Rattle.refusals.specs.declared.Refusal.{Refusal}

-- ---- the header's numbers

-- the largest number of 64 bits
abbrev pub most : ℕ
most = 2 ^ 64 - 1

-- a number that has a digit behind it; one of more than 64 bits counts as the largest of them, which has another text
unfoldable pub further : ℕ → ℕ → ℕ
further n b = cond (leb (10 * n + (b - 48)) most) (10 * n + (b - 48)) most

-- the number that the digits in front of a text say, behind a number
unfoldable pub number_from : ℕ → List ℕ → ℕ
number_from n [] = n
number_from n (b ∷ s) = cond (is_digit b) (number_from (further n b) s) n

-- what comes behind these digits
unfoldable pub behind : List ℕ → List ℕ
behind [] = []
behind (b ∷ s) = cond (is_digit b) (behind s) (b ∷ s)

-- the number of a field, behind so many bytes of its label, and the text behind the field
abbrev pub field_in : List ℕ → List ℕ → ℕ
field_in label s = number_from 0 (drop (length label) s)

abbrev pub behind_field : List ℕ → List ℕ → List ℕ
behind_field label s = behind (drop (length label) s)

-- "clock C tracks T bad-blocks B": C and B
unfoldable pub clock_in : List ℕ → ℕ
clock_in h = field_in clock_label h

unfoldable pub bad_in : List ℕ → ℕ
bad_in h = field_in bad_label (behind_field tracks_label (behind_field clock_label h))

-- ---- the key of a line

abbrev pub byte_at : List ℕ → ℕ → ℕ
byte_at l i = get_or l i 0

-- what a digit to the base 16 says
unfoldable pub hex_value : ℕ → ℕ
hex_value b = cond (leb b 57) (b - 48) (b - 55)

abbrev pub hex_from : ℕ → List ℕ → ℕ
hex_from n [] = n
hex_from n (b ∷ w) = hex_from (16 * n + hex_value b) w

-- the six digits behind the kind's letter and a space
unfoldable pub address_of : List ℕ → ℕ
address_of l = hex_from 0 (byte_at l 2 ∷ byte_at l 3 ∷ byte_at l 4 ∷ byte_at l 5 ∷ byte_at l 6 ∷ byte_at l 7 ∷ [])

-- the kind of a letter that is not C
unfoldable pub kind_by : ℕ → Kind
kind_by b = cond (eqb b (letter_of I)) I (cond (eqb b (letter_of O)) O (cond (eqb b (letter_of T)) T (cond (eqb b (letter_of M)) M N)))

-- a line of C has its flag at byte 9 and its station from byte 11 on, of one digit if a space follows
abbrev pub is_flag : ℕ → Bool
is_flag b = eqb b 48 || eqb b 49

abbrev pub one_digit : List ℕ → Bool
one_digit l = eqb (byte_at l 12) 32

-- from 0 to 9, and from 10 to 15
abbrev pub is_small : List ℕ → Bool
is_small l = one_digit l && leb 48 (byte_at l 11) && leb (byte_at l 11) 57

abbrev pub is_teen : List ℕ → Bool
is_teen l = eqb (byte_at l 11) 49 && leb 48 (byte_at l 12) && leb (byte_at l 12) 53 && eqb (byte_at l 13) 32

-- a flag of 0 or 1 and a station from 0 to 15
unfoldable pub sender_fits : List ℕ → Bool
sender_fits l = is_flag (byte_at l 9) && eqb (byte_at l 10) 32 && (is_small l || is_teen l)

unfoldable pub flag_of : List ℕ → ℕ
flag_of l = byte_at l 9 - 48

unfoldable pub station_of : List ℕ → ℕ
station_of l = cond (one_digit l) (byte_at l 11 - 48) (10 + (byte_at l 12 - 48))

-- the key of a line in the form; 0, which is none, if its flag or its station can be none
unfoldable pub key_in : List ℕ → ℕ
key_in l =
    cond (eqb (byte_at l 0) (letter_of (C 0 0)))
    (cond (sender_fits l) (key_for (C (flag_of l) (station_of l)) (address_of l)) 0)
    (key_for (kind_by (byte_at l 0)) (address_of l))

-- ---- a text's lines

-- the first with its newline, and the others
abbrev pub first_of : List (List ℕ) → List ℕ
first_of [] = []
first_of (l ∷ ls) = l ++ newline

abbrev pub others_of : List (List ℕ) → List (List ℕ)
others_of [] = []
others_of (l ∷ ls) = ls

abbrev pub header_of : List ℕ → List ℕ
header_of s = first_of (lines_in (pieces 10 s))

abbrev pub tracks_of : List ℕ → List (List ℕ)
tracks_of s = others_of (lines_in (pieces 10 s))

-- in the form, with a header of numbers below 2^64, of which the second is the number of the other lines
unfoldable pub is_listing : List ℕ → Bool
is_listing s = in_form s && same (header_of s) (header_text (clock_in (header_of s)) (length (tracks_of s)) (bad_in (header_of s)))

-- ---- the lines of both

-- a line and those behind it, among others: these come first as long as their keys are not above the line's; then what the rest makes of what is left
abbrev pub among : List ℕ → (List (List ℕ) → List (List ℕ)) → List (List ℕ) → List (List ℕ)
among l rest [] = l ∷ rest []
among l rest (m ∷ ms) = cond (ltb (key_in l) (key_in m)) (l ∷ rest (m ∷ ms)) (m ∷ among l rest ms)

-- at each step the line with the lower key
abbrev pub in_order : List (List ℕ) → List (List ℕ) → List (List ℕ)
in_order [] ms = ms
in_order (l ∷ ls) ms = among l (in_order ls) ms

-- each has a key, above that of the line before it
unfoldable pub rising : ℕ → List (List ℕ) → Bool
rising k [] = true
rising k (l ∷ ls) = ltb k (key_in l) && rising (key_in l) ls

-- with a newline behind each
unfoldable pub joined : List (List ℕ) → List ℕ
joined [] = []
joined (l ∷ ls) = (l ++ newline) ++ joined ls

-- ---- both as one

-- two listings with one clock; no key twice, and none that is not above the one before; and a sum of bad blocks below 2^64
unfoldable pub mergeable : List ℕ → List ℕ → Bool
mergeable a b =
    is_listing a
    && is_listing b
    && eqb (clock_in (header_of a)) (clock_in (header_of b))
    && leb (bad_in (header_of a) + bad_in (header_of b)) most
    && rising 0 (in_order (tracks_of a) (tracks_of b))

unfoldable pub merged : List ℕ → List ℕ → List ℕ
merged a b =
    header_text (clock_in (header_of a)) (length (tracks_of a) + length (tracks_of b)) (bad_in (header_of a) + bad_in (header_of b))
    ++ joined (in_order (tracks_of a) (tracks_of b))

-- ---- the call

-- what it answers, and the buffer as it leaves it
pub record Left : Type 0 where
  pub answer : Result ℕ Refusal
  pub out : List ℕ

abbrev pub left : Result ℕ Refusal → List ℕ → Left
left answer out = record { answer = answer; out = out }

-- 1 for a buffer that is not as long as both texts, 16, or the length of the text, which is in the buffer, with zeros behind it
unfoldable pub merged_into : List ℕ → List ℕ → List ℕ → Left
merged_into a b out =
    cond (not (eqb (length out) (length a + length b))) (left (Err Length) out)
    (cond (not (mergeable a b)) (left (Err Form) out)
    (left (Ok (length (merged a b))) (filled (length out) (merged a b))))
