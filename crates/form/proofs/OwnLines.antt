-- Our own lines are in the form, and so is a listing that is made of them.
-- Assumes nothing.
use Rattle.std.specs.Prelude.{Option, Some, None, ℤ}
use Prim.Native.Nat.{ℕ, zero, suc, ◌-◌, ◌/◌, ◌^◌, ◌<◌}
use mathlib.Core.Path.{◌≡◌, refl, sym, ap, ◌∙◌}
use mathlib.Core.Bool.{Bool, true, false, cond, ◌&&◌, ◌||◌, false≢true}
use mathlib.Core.List.{List, [], ◌∷◌, ◌++◌, append_assoc, append-nil}
use native.Mathlib.Omega.{arith}
use lib.ListN.{get_or}
use Rattle.fields.proofs.Bools.{both, and_left, and_right}
use Rattle.keys.specs.Keys.{kinds, letter_of, coarse_in, flag_in, station_in, kind_in, letter_in, address_in}
use Rattle.keys.specs.declared.Kind.{Kind}
use Rattle.keys.specs.declared.Kind.TheVariants.{I, O, T, M, N, C}
use Rattle.text.specs.Numbers.{decimal, hex}
use Rattle.text.specs.Lines.{space, newline, field, figure, clock_label, tracks_label, bad_label, header_text, sender_text, key_text, row_text}
use Rattle.text.specs.declared.Row.{Row}
use Rattle.form.specs.Form.{pieces, same, is_figure, is_kind, is_coarse, fits, all_fit, clock_word, tracks_word, bad_word, header_sorts, column_sorts, line_sorts, coarse_sorts, header_form, line_form, lines_form, body_form, text_form, in_form}
use Rattle.form.specs.Own.{Sized, Fitting, word}
use Rattle.form.proofs.Pieces.{over, over_append, over_less, pieces_cut, pieces_one, same_self}
use Rattle.form.proofs.Own.{either_left, either_right, decimal_figure, signed_figure, dash_figure, decimal_over, signed_over, hex_over, hex_address}

-- ---- words, each after a space

unfoldable pub spaced : List (List ℕ) → List ℕ
spaced [] = []
spaced (w ∷ ws) = 32 ∷ (w ++ spaced ws)

spaced_append : (v w : List (List ℕ)) → spaced (v ++ w) ≡ spaced v ++ spaced w
unfolding spaced
spaced_append [] w = refl
spaced_append (x ∷ v) w = ap (λ (l : List ℕ). 32 ∷ (x ++ l)) (spaced_append v w) ∙ ap (λ (l : List ℕ). 32 ∷ l) (sym (append_assoc x (spaced v) (spaced w)))

unfoldable all_over : List (List ℕ) → Bool
all_over [] = true
all_over (w ∷ ws) = over 32 w && all_over ws

all_over_append : (v w : List (List ℕ)) → all_over v ≡ true → all_over w ≡ true → all_over (v ++ w) ≡ true
unfolding all_over
all_over_append [] w p q = q
all_over_append (x ∷ v) w p q = both (and_left (over 32 x) (all_over v) p) (all_over_append v w (and_right (over 32 x) (all_over v) p) q)

pieces_spaced : (w : List ℕ) (ws : List (List ℕ)) → over 32 w ≡ true → all_over ws ≡ true → pieces 32 (w ++ spaced ws) ≡ w ∷ ws
unfolding spaced all_over
pieces_spaced w [] p q = ap (pieces 32) (append-nil w) ∙ pieces_one 32 w p
pieces_spaced w (v ∷ vs) p q =
    pieces_cut 32 w (v ++ spaced vs) p
    ∙ ap (λ (x : List (List ℕ)). w ∷ x) (pieces_spaced v vs (and_left (over 32 v) (all_over vs) q) (and_right (over 32 v) (all_over vs) q))

spaced_over : (ws : List (List ℕ)) → all_over ws ≡ true → over 10 (spaced ws) ≡ true
unfolding spaced all_over over
spaced_over [] q = refl
spaced_over (v ∷ vs) q =
    over_append 10 v (spaced vs) (over_less 32 10 v (omega arith) (and_left (over 32 v) (all_over vs) q)) (spaced_over vs (and_right (over 32 v) (all_over vs) q))

line_over : (w : List ℕ) (ws : List (List ℕ)) → over 32 w ≡ true → all_over ws ≡ true → over 10 (w ++ spaced ws) ≡ true
line_over w ws p q = over_append 10 w (spaced ws) (over_less 32 10 w (omega arith) p) (spaced_over ws q)

-- ---- a key: its letter, and its other words

abbrev pub letter : ℕ → List ℕ
letter key = letter_in key ∷ []

-- of C its flag and its station
abbrev pub sender_by : Bool → ℕ → ℕ → List (List ℕ)
sender_by coarse flag station = cond coarse (decimal flag ∷ decimal station ∷ []) []

abbrev pub key_words : ℕ → List (List ℕ)
key_words key = hex 6 (address_in key) ∷ sender_by (coarse_in key) (flag_in key) (station_in key)

sender_text_lem : (coarse : Bool) (flag station : ℕ) → cond coarse (field space flag ++ field space station) [] ≡ spaced (sender_by coarse flag station)
unfolding field spaced
sender_text_lem true flag station = ap (λ (l : List ℕ). 32 ∷ (decimal flag ++ (32 ∷ l))) (sym (append-nil (decimal station)))
sender_text_lem false flag station = refl

key_text_lem : (key : ℕ) → key_text key ≡ letter key ++ spaced (key_words key)
unfolding key_text sender_text spaced
key_text_lem key = ap (λ (l : List ℕ). letter_in key ∷ 32 ∷ (hex 6 (address_in key) ++ l)) (sender_text_lem (coarse_in key) (flag_in key) (station_in key))

letter_of_over : (k : Kind) → over 32 (letter_of k ∷ []) ≡ true
unfolding over
letter_of_over I = refl
letter_of_over O = refl
letter_of_over T = refl
letter_of_over M = refl
letter_of_over N = refl
letter_of_over (C flag station) = refl

letter_over : (key : ℕ) → over 32 (letter key) ≡ true
letter_over key = letter_of_over (kind_in key)

sender_over : (coarse : Bool) (flag station : ℕ) → all_over (sender_by coarse flag station) ≡ true
unfolding all_over
sender_over true flag station = both (decimal_over flag) (both (decimal_over station) refl)
sender_over false flag station = refl

key_words_over : (key : ℕ) → all_over (key_words key) ≡ true
unfolding all_over
key_words_over key = both (hex_over 6 (address_in key)) (sender_over (coarse_in key) (flag_in key) (station_in key))

-- a kind by its place in the list is not C
letter_listed : (i : ℕ) → is_kind (letter_of (get_or kinds i N) ∷ []) ≡ true
unfolding is_kind same
letter_listed zero = refl
letter_listed (suc zero) = refl
letter_listed (suc (suc zero)) = refl
letter_listed (suc (suc (suc zero))) = refl
letter_listed (suc (suc (suc (suc zero)))) = refl
letter_listed (suc (suc (suc (suc (suc i))))) = refl

-- the words of a key, before columns in the form, are those of a line
module _ (flag station i address : ℕ) (ws : List (List ℕ)) (p : all_fit column_sorts ws ≡ true) (f : flag < 10 ^ 20) (t : station < 10 ^ 20) where
  form_by : (coarse : Bool)
      → all_fit line_sorts ((letter_of (cond coarse (C flag station) (get_or kinds i N)) ∷ []) ∷ (hex 6 address ∷ (sender_by coarse flag station ++ ws)))
      || all_fit coarse_sorts ((letter_of (cond coarse (C flag station) (get_or kinds i N)) ∷ []) ∷ (hex 6 address ∷ (sender_by coarse flag station ++ ws))) ≡ true
  unfolding all_fit fits is_coarse same
  form_by true =
      either_right (all_fit line_sorts ((67 ∷ []) ∷ (hex 6 address ∷ (decimal flag ∷ (decimal station ∷ ws))))) _
      (both refl (both (hex_address address) (both (decimal_figure flag f) (both (decimal_figure station t) p))))
  form_by false =
      either_left (all_fit line_sorts ((letter_of (get_or kinds i N) ∷ []) ∷ (hex 6 address ∷ ws))) _ (both (letter_listed i) (both (hex_address address) p))

key_form : (key : ℕ) (ws : List (List ℕ)) → all_fit column_sorts ws ≡ true → all_fit line_sorts (letter key ∷ (key_words key ++ ws)) || all_fit coarse_sorts (letter key ∷ (key_words key ++ ws)) ≡ true
key_form key ws p = form_by (flag_in key) (station_in key) (key / 2 ^ 24 - 1) (address_in key) ws p (omega arith) (omega arith) (coarse_in key)

-- ---- the columns

figure_word : (f : Option ℤ) → figure f ≡ 32 ∷ word f
unfolding figure
figure_word None = refl
figure_word (Some z) = refl

word_figure : (f : Option ℤ) → Sized f → is_figure (word f) ≡ true
word_figure None h = dash_figure
word_figure (Some z) h = signed_figure z h

word_over : (f : Option ℤ) → over 32 (word f) ≡ true
unfolding over
word_over None = refl
word_over (Some z) = signed_over z

abbrev pub column_words : Row → List (List ℕ)
column_words r = decimal r.heard ∷ word r.latitude ∷ word r.longitude ∷ word r.altitude ∷ word r.step ∷ []

columns_over : (r : Row) → all_over (column_words r) ≡ true
unfolding all_over
columns_over r =
    both (decimal_over r.heard)
    (both (word_over r.latitude) (both (word_over r.longitude) (both (word_over r.altitude) (both (word_over r.step) refl))))

columns_form : (r : Row) → Fitting r → all_fit column_sorts (column_words r) ≡ true
unfolding all_fit fits
columns_form r b =
    both (decimal_figure r.heard b.heard)
    (both (word_figure r.latitude b.latitude)
    (both (word_figure r.longitude b.longitude) (both (word_figure r.altitude b.altitude) (both (word_figure r.step b.step) refl))))

-- ---- a row

abbrev pub row_words : Row → List (List ℕ)
row_words r = key_words r.key ++ column_words r

-- a line without its newline
unfoldable pub row_line : Row → List ℕ
row_line r = letter r.key ++ spaced (row_words r)

regroup : (k h y x a s n : List ℕ) → k ++ h ++ y ++ x ++ a ++ s ++ n ≡ (k ++ (h ++ (y ++ (x ++ (a ++ (s ++ [])))))) ++ n
regroup k h y x a s n = simp (append_assoc, append-nil)

pub row_text_lem : (r : Row) → row_text r ≡ row_line r ++ newline
unfolding row_text field row_line spaced
row_text_lem r =
    let k = r.key in
    rw (figure_word r.latitude, figure_word r.longitude, figure_word r.altitude, figure_word r.step)
    (regroup (key_text k) (32 ∷ decimal r.heard) (32 ∷ word r.latitude) (32 ∷ word r.longitude) (32 ∷ word r.altitude) (32 ∷ word r.step) newline
    ∙ ap (λ (l : List ℕ). l ++ spaced (column_words r) ++ newline) (key_text_lem k)
    ∙ ap (λ (l : List ℕ). l ++ newline)
    (append_assoc (letter k) (spaced (key_words k)) (spaced (column_words r)) ∙ ap (λ (l : List ℕ). letter k ++ l) (sym (spaced_append (key_words k) (column_words r)))))

pub row_cut : (r : Row) (rest : List ℕ) → row_text r ++ rest ≡ row_line r ++ (10 ∷ rest)
row_cut r rest = ap (λ (l : List ℕ). l ++ rest) (row_text_lem r) ∙ append_assoc (row_line r) newline rest

words_over : (r : Row) → all_over (row_words r) ≡ true
words_over r = all_over_append (key_words r.key) (column_words r) (key_words_over r.key) (columns_over r)

pub row_over : (r : Row) → over 10 (row_line r) ≡ true
unfolding row_line
row_over r = line_over (letter r.key) (row_words r) (letter_over r.key) (words_over r)

-- its words
pub row_pieces : (r : Row) → pieces 32 (row_line r) ≡ letter r.key ∷ row_words r
unfolding row_line
row_pieces r = pieces_spaced (letter r.key) (row_words r) (letter_over r.key) (words_over r)

pub row_form : (r : Row) → Fitting r → line_form (row_line r) ≡ true
unfolding line_form
row_form r b =
    ap (λ (ws : List (List ℕ)). all_fit line_sorts ws || all_fit coarse_sorts ws) (row_pieces r)
    ∙ key_form r.key (column_words r) (columns_form r b)

-- ---- the header

abbrev pub header_words : ℕ → ℕ → ℕ → List (List ℕ)
header_words clock tracks bad = decimal clock ∷ tracks_word ∷ decimal tracks ∷ bad_word ∷ decimal bad ∷ []

unfoldable pub header_line : ℕ → ℕ → ℕ → List ℕ
header_line clock tracks bad = clock_word ++ spaced (header_words clock tracks bad)

header_regroup : (c t b n : List ℕ) → c ++ t ++ b ++ n ≡ (c ++ (t ++ (b ++ []))) ++ n
header_regroup c t b n = simp (append_assoc, append-nil)

pub header_text_lem : (clock tracks bad : ℕ) → header_text clock tracks bad ≡ header_line clock tracks bad ++ newline
unfolding header_text field header_line spaced
header_text_lem clock tracks bad = header_regroup (clock_label ++ decimal clock) (tracks_label ++ decimal tracks) (bad_label ++ decimal bad) newline

pub header_cut : (clock tracks bad : ℕ) (rest : List ℕ) → header_text clock tracks bad ++ rest ≡ header_line clock tracks bad ++ (10 ∷ rest)
header_cut clock tracks bad rest = ap (λ (l : List ℕ). l ++ rest) (header_text_lem clock tracks bad) ∙ append_assoc (header_line clock tracks bad) newline rest

header_words_over : (clock tracks bad : ℕ) → all_over (header_words clock tracks bad) ≡ true
unfolding all_over over
header_words_over clock tracks bad = both (decimal_over clock) (both (decimal_over tracks) (both (decimal_over bad) refl))

clock_over : over 32 clock_word ≡ true
unfolding over
clock_over = refl

pub header_over : (clock tracks bad : ℕ) → over 10 (header_line clock tracks bad) ≡ true
unfolding header_line
header_over clock tracks bad = line_over clock_word (header_words clock tracks bad) clock_over (header_words_over clock tracks bad)

pub header_form_lem : (clock tracks bad : ℕ) → clock < 10 ^ 20 → tracks < 10 ^ 20 → bad < 10 ^ 20 → header_form (header_line clock tracks bad) ≡ true
unfolding header_line header_form all_fit fits
header_form_lem clock tracks bad p q r =
    ap (all_fit header_sorts) (pieces_spaced clock_word (header_words clock tracks bad) clock_over (header_words_over clock tracks bad))
    ∙ both (same_self clock_word) (both (decimal_figure clock p) (both (same_self tracks_word) (both (decimal_figure tracks q) (both (same_self bad_word) (both (decimal_figure bad r) refl)))))

-- ---- lines, one after the other

body_by : (w : List ℕ) (ls : List (List ℕ)) → line_form w ≡ true → body_form ls ≡ true → body_form (w ∷ ls) ≡ true
unfolding body_form lines_form
body_by w [] p q = absurd (false≢true q)
body_by w (m ∷ ms) p q = both p q

-- nothing after the last
pub no_rows : body_form (pieces 10 []) ≡ true
unfolding body_form lines_form pieces same
no_rows = refl

-- a row before others
pub row_then : (r : Row) → Fitting r → (rest : List ℕ) → body_form (pieces 10 rest) ≡ true → body_form (pieces 10 (row_text r ++ rest)) ≡ true
row_then r f rest q =
    ap (λ (x : List ℕ). body_form (pieces 10 x)) (row_cut r rest)
    ∙ ap body_form (pieces_cut 10 (row_line r) rest (row_over r))
    ∙ body_by (row_line r) (pieces 10 rest) (row_form r f) q

-- our header before rows is a text in the form
pub header_then : (clock tracks bad : ℕ) → clock < 10 ^ 20 → tracks < 10 ^ 20 → bad < 10 ^ 20 → (rest : List ℕ) → body_form (pieces 10 rest) ≡ true → in_form (header_text clock tracks bad ++ rest) ≡ true
unfolding in_form text_form
header_then clock tracks bad p q r rest t =
    ap (λ (x : List ℕ). text_form (pieces 10 x)) (header_cut clock tracks bad rest)
    ∙ ap text_form (pieces_cut 10 (header_line clock tracks bad) rest (header_over clock tracks bad))
    ∙ both (header_form_lem clock tracks bad p q r) t
