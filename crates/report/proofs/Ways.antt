-- What each way out of a call gives, by the answer of the table: a lemma for each, so that the definitions stay shut in the proofs of the functions.
-- Assumes nothing.
use Rattle.std.specs.Prelude.{Result, Ok, Err, Option, Some, None}
use Prim.Native.Nat.{ℕ}
use mathlib.Core.Bool.{Bool, true, false, cond, not}
use mathlib.Core.List.{List}
use mathlib.Core.Path.{◌≡◌, refl, sym, ap, ◌∙◌}
use lib.Dec.{ltb}
use lib.ListN.{length}
use Rattle.refusals.specs.declared.Refusal.{Refusal}
use Rattle.refusals.specs.declared.Refusal.TheVariants.{Places}
use Rattle.track.specs.declared.Track.{Track}
use Rattle.track.specs.Track.{new_track}
use Rattle.place.specs.Place.{track_of}
use Rattle.text.specs.declared.Line.{Line}
use Rattle.text.specs.declared.Row.{Row}
use Rattle.text.specs.Lines.{header_text, row_text, line_of}
use Rattle.memory.specs.Offsets.{whole_places, places_in}
use Rattle.table_bytes.specs.Layout.{clock_of, body_at}
use Rattle.rules.specs.Rules.{place_of}
use Rattle.rules.specs.Rules as rules
use Rattle.rules.specs.View.{track_in, view_at}
use Rattle.table.specs.Bytes.{bytes}
use Rattle.table.specs.Table.{looked_up, clock_in}
use Rattle.report.specs.Listing.{row_of, shown, row_for, rows_in, header_for, header_in, reported, line_in}

-- ---- the header, by the clock

abbrev headed : ℕ → ℕ → Result ℕ Refusal → Result Line Refusal
headed tracks bad (Ok time) = Ok (line_of (header_text time tracks bad))
headed tracks bad (Err r) = Err r

abbrev is_at : Result ℕ Refusal → Bool
is_at (Ok time) = true
is_at (Err r) = false

module _ (s : List ℕ) {c : Result ℕ Refusal} (e : c ≡ clock_in s) where
  pub clock_whole : {time : ℕ} → c ≡ Ok time → whole_places (length s) ≡ true
  unfolding clock_in
  clock_whole q = sym (sym (ap is_at q) ∙ ap is_at e ∙ by_test (whole_places (length s)))
    where
      by_test : (b : Bool) → is_at (cond b (Ok (clock_of s)) (Err Places)) ≡ b
      by_test true = refl
      by_test false = refl

  module _ (all : Bool) (bad : ℕ) where
    told : headed (length (rows_in all s)) bad c ≡ header_in all s bad
    unfolding clock_in header_in header_for
    told = ap (headed (length (rows_in all s)) bad) e ∙ by_test (whole_places (length s))
      where
        by_test : (b : Bool) → headed (length (rows_in all s)) bad (cond b (Ok (clock_of s)) (Err Places)) ≡ cond (not b) (Err Places) (Ok (line_of (header_for all s bad)))
        by_test true = refl
        by_test false = refl

    pub header_known : {time n : ℕ} {l : Line} → c ≡ Ok time → n ≡ length (rows_in all s) → l ≡ line_of (header_text time n bad) → ◌≡◌ {A = Result Line Refusal} (Ok l) (header_in all s bad)
    header_known {time} q m f =
        ap Ok (f ∙ ap (λ (k : ℕ). line_of (header_text time k bad)) m)
        ∙ sym (ap (headed (length (rows_in all s)) bad) q)
        ∙ told

    pub header_refused : {r : Refusal} → c ≡ Err r → Err r ≡ header_in all s bad
    header_refused q = sym (ap (headed (length (rows_in all s)) bad) q) ∙ told

-- ---- a line, by the track

module _ (all : Bool) (key : ℕ) (t : Track) where
  pub track_shown : {r : Row} {x : Line} → shown all t.position ≡ true → r ≡ row_of key t → x ≡ line_of (row_text r) → ◌≡◌ {A = Option Line} (Some x) (reported (row_for all key (Some t)))
  unfolding row_for
  track_shown h f g = ap Some (g ∙ ap (λ (y : Row). line_of (row_text y)) f) ∙ rw h

  pub track_hidden : shown all t.position ≡ false → None ≡ reported (row_for all key (Some t))
  unfolding row_for
  track_hidden h = rw h

-- ---- .. by what was looked up

abbrev answered : Bool → ℕ → Result (Option Track) Refusal → Result (Option Line) Refusal
answered all key (Ok (Some t)) = Ok (reported (row_for all key (Some t)))
answered all key (Ok None) = Ok None
answered all key (Err r) = Err r

module _ (s : List ℕ) (key : ℕ) {l : Result (Option Track) Refusal} (e : l ≡ looked_up s key) where
  found : Result (Option Track) Refusal
  found = Ok (Some (track_of (body_at s (places_in s) (place_of bytes s (clock_of s) key))))

  module _ (all : Bool) where
    looked : answered all key l ≡ line_in all s key
    unfolding rules.looked_up place_of line_in view_at row_for found
    looked = ap (answered all key) e ∙ by_tests (whole_places (length s)) (ltb (place_of bytes s (clock_of s) key) (places_in s))
      where
        by_tests : (a b : Bool) →
            answered all key (cond (not a) (Err Places) (cond b found (Ok None)))
            ≡ cond (not a) (Err Places) (Ok (reported (row_for all key (track_in (cond b (Some (bytes.cell s (place_of bytes s (clock_of s) key))) None)))))
        by_tests true true = refl
        by_tests true false = refl
        by_tests false b = refl

    pub line_held : {t : Track} {x : Option Line} → l ≡ Ok (Some t) → x ≡ reported (row_for all key (Some t)) → Ok x ≡ line_in all s key
    line_held q f = ap Ok f ∙ sym (ap (answered all key) q) ∙ looked

    pub line_unheld : l ≡ Ok None → Ok None ≡ line_in all s key
    line_unheld q = sym (ap (answered all key) q) ∙ looked

    pub line_refused : {r : Refusal} → l ≡ Err r → Err r ≡ line_in all s key
    line_refused q = sym (ap (answered all key) q) ∙ looked
