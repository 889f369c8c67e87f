-- A report's line in a longer buffer is its text, then zeros: zeros behind the values change nothing. A choice that is neither 0 nor 1.
-- Assumes nothing.
use Rattle.std.specs.Prelude.{Option, Some, None, Result, Ok, Err}
use Prim.Native.Nat.{ℕ, ◌-◌}
use mathlib.Core.Path.{◌≡◌, refl, sym, ap, ◌∙◌}
use mathlib.Core.Bool.{Bool, true, false, cond, not}
use mathlib.Core.List.{List, []}
use lib.Dec.{ltb}
use lib.ListN.{length}
use Rattle.refusals.specs.declared.Refusal.TheVariants.{Places}
use Rattle.refusals.specs.Said.{number, gives}
use Rattle.entries.proofs.Filling.{filled_zeros}
use Rattle.text.specs.declared.Row.{Row}
use Rattle.text.specs.Lines.{row_text, line_room, line_of}
use Rattle.memory.specs.Offsets.{whole_places}
use Rattle.table.specs.View.{view}
use Rattle.refusals.specs.declared.Refusal.{Refusal}
use Rattle.refusals.specs.Numbers.{number_of}
use Rattle.text.specs.declared.Line.{Line}
use Rattle.report.specs.Listing.{row_for, line_text, header_for, header_in, reported, line_in}
use Rattle.entries.specs.Sent.{Sent, sent, given}
use Rattle.display.specs.Lines.{chosen, lines_said, header_said, line_said}
use Rattle.display.specs.Code.{no_choice}

module _ (out : List ℕ) where
  -- the bytes of a line are its text with zeros behind it
  line_given : {l : Line} (text : List ℕ) → l ≡ line_of text → given out (gives l.bytes) ≡ given out (gives text)
  unfolding line_of
  line_given text e = ap (λ (x : Line). given out (gives x.bytes)) e ∙ ap (sent 0) (filled_zeros (length out) text (line_room - length text))

  unfoldable header_handed : Result Line Refusal → Sent
  header_handed (Ok l) = given out (gives l.bytes)
  header_handed (Err r) = sent (number_of r) out

  unfoldable line_handed : Result (Option Line) Refusal → Sent
  line_handed (Ok (Some l)) = given out (gives l.bytes)
  line_handed (Ok None) = given out (gives [])
  line_handed (Err r) = sent (number_of r) out

  row_handed : (v : Option Row) → line_handed (Ok (reported v)) ≡ given out (gives (line_text v))
  unfolding line_handed
  row_handed None = refl
  row_handed (Some r) = line_given (row_text r) refl

  module _ (all : ℕ) (s : List ℕ) where
    no_choice_said : (text : List ℕ) {r : ℕ} → ltb 1 all ≡ true → r ≡ no_choice s → sent r out ≡ given out (lines_said all s text)
    no_choice_said text h p = ap (λ (n : ℕ). sent n out) p ∙ rw h (by_test (whole_places (length s)))
      where
        by_test : (b : Bool) → sent (cond (not b) 7 8) out ≡ given out (cond (not b) (number 7) (number 8))
        by_test true = refl
        by_test false = refl

    pub header_unchosen : (bad : ℕ) {r : ℕ} → ltb 1 all ≡ true → r ≡ no_choice s → sent r out ≡ given out (header_said all s bad)
    unfolding header_said
    header_unchosen bad h p = no_choice_said _ h p

    pub line_unchosen : (key : ℕ) {r : ℕ} → ltb 1 all ≡ true → r ≡ no_choice s → sent r out ≡ given out (line_said all s key)
    unfolding line_said
    line_unchosen key h p = no_choice_said _ h p

    module _ (h : ltb 1 all ≡ false) where
      header_handed_lem : (bad : ℕ) → header_handed (header_in (chosen all) s bad) ≡ given out (header_said all s bad)
      unfolding header_in header_said header_handed
      header_handed_lem bad = rw h (by_test (whole_places (length s)))
        where
          by_test : (b : Bool) → header_handed (cond (not b) (Err Places) (Ok (line_of (header_for (chosen all) s bad)))) ≡ given out (cond (not b) (number 7) (gives (header_for (chosen all) s bad)))
          by_test true = line_given (header_for (chosen all) s bad) refl
          by_test false = refl

      line_handed_lem : (key : ℕ) → line_handed (line_in (chosen all) s key) ≡ given out (line_said all s key)
      unfolding line_in line_said line_handed
      line_handed_lem key = rw h (by_test (whole_places (length s)))
        where
          by_test : (b : Bool) → line_handed (cond (not b) (Err Places) (Ok (reported (row_for (chosen all) key (view s key))))) ≡ given out (cond (not b) (number 7) (gives (line_text (row_for (chosen all) key (view s key)))))
          by_test true = row_handed (row_for (chosen all) key (view s key))
          by_test false = refl

      -- the ways out, by what the report answers
      module _ (bad : ℕ) {x : Result Line Refusal} (p : x ≡ header_in (chosen all) s bad) where
        pub header_given : {l : Line} {y : Sent} → x ≡ Ok l → y ≡ given out (gives l.bytes) → y ≡ given out (header_said all s bad)
        unfolding header_handed
        header_given q e = e ∙ ap header_handed (sym q ∙ p) ∙ header_handed_lem bad

        pub header_refused : {r : Refusal} {n : ℕ} → x ≡ Err r → n ≡ number_of r → sent n out ≡ given out (header_said all s bad)
        unfolding header_handed
        header_refused q e = ap (λ (k : ℕ). sent k out) e ∙ ap header_handed (sym q ∙ p) ∙ header_handed_lem bad

      module _ (key : ℕ) {x : Result (Option Line) Refusal} (p : x ≡ line_in (chosen all) s key) where
        pub line_there : {l : Line} {y : Sent} → x ≡ Ok (Some l) → y ≡ given out (gives l.bytes) → y ≡ given out (line_said all s key)
        unfolding line_handed
        line_there q e = e ∙ ap line_handed (sym q ∙ p) ∙ line_handed_lem key

        pub line_none : {y : Sent} → x ≡ Ok None → y ≡ given out (gives []) → y ≡ given out (line_said all s key)
        unfolding line_handed
        line_none q e = e ∙ ap line_handed (sym q ∙ p) ∙ line_handed_lem key

        pub line_refused : {r : Refusal} {n : ℕ} → x ≡ Err r → n ≡ number_of r → sent n out ≡ given out (line_said all s key)
        unfolding line_handed
        line_refused q e = ap (λ (k : ℕ). sent k out) e ∙ ap line_handed (sym q ∙ p) ∙ line_handed_lem key
