-- What C prints of a table is its listing: a call that returned 0 filled its buffer with the text of a line, in which no byte is zero, and the walk by `addercoil_next` is that of the definition.
-- Assumes nothing.
use Rattle.std.specs.Prelude.{Option, Some, None, Result, Ok, Err}
use Prim.Native.Nat.{ℕ, zero, suc, ◌+◌, ◌≤◌}
use mathlib.Core.Bool.{Bool, true, false, cond, not, false≢true}
use mathlib.Core.Path.{◌≡◌, refl, ap, ap₂, sym, ◌∙◌, subst}
use mathlib.Core.Logic.{◌⊎◌, inl, inr, ⊎_elim}
use mathlib.Core.List.{List, [], ◌∷◌, ◌++◌}
use native.Mathlib.Omega.{arith}
use borrow.Author.Tests.{eqb-true, eqb-false, not-false}
use lib.Dec.{eqb, ltb}
use lib.ListN.{length}
use Rattle.refusals.specs.Said.{Said, number, gives}
use Rattle.fields.proofs.Bools.{by_test, and_right}
use Rattle.entries.specs.Arrays.{filled}
use Rattle.entries.specs.Sent.{Sent, sent, given, into}
use Rattle.memory.specs.Offsets.{whole_places}
use Rattle.table_bytes.specs.Layout.{clock_of}
use Rattle.rules.specs.Rules as rules
use Rattle.table.specs.Bytes.{bytes}
use Rattle.table.specs.Table.{next_above}
use Rattle.table.specs.View.{view}
use Rattle.text.specs.declared.Row.{Row}
use Rattle.text.specs.Lines.{newline, row_text}
use Rattle.text.proofs.Fits.{header_most, row_most, line_text_lem}
use Rattle.form.proofs.Pieces.{over, over_append, over_less}
use Rattle.form.proofs.OwnLines.{row_line, row_text_lem, row_over, header_line, header_text_lem, header_over}
use Rattle.report.specs.Listing.{row_for, rows_in, line_text, line_for, header_for, header_in, reported, line_in, listing}
use Rattle.report.specs.Walked as walks
use Rattle.report.specs.Walked.{some_text, Walked, Walked.ended, Walked.then}
use Rattle.report.proofs.Walking.{walk_prints}
use Rattle.addercoil.specs.Tables.{next_said}
use Rattle.addercoil.proofs.Laws.{some_number}
use Rattle.display.specs.Lines.{line_buffer, chosen, lines_said, header_said, line_said}
use Rattle.c_listings.specs.Calls.{Header, Line, Next}
use Rattle.c_listings.specs.Prints.{text_of, Lines, Lines.last, Lines.line, Prints, Prints.prints, Prints.at_once}
use Rattle.c_listings.proofs.Listed.{listing_said}
use Rattle.refusals.specs.declared.Refusal.{Refusal}

-- ---- each call did what the definition says

pub header_is : {table : List ℕ} {bad all : ℕ} {buffer : List ℕ} {back : Sent} → Header table bad all buffer back → back ≡ into line_buffer buffer (header_said all table bad)
header_is {table} {bad} {all} {buffer} {back} b =
    ap (sent back.number) (sym b.leaves)
    ∙ b.meets
    ∙ ap₂ (λ (s : List ℕ) (n : ℕ). into line_buffer b.args.1.1.1.0.now (header_said b.args.1.1.0 s n)) b.lent b.counted
    ∙ ap₂ (λ (l : List ℕ) (a : ℕ). into line_buffer l (header_said a table bad)) b.into b.asked

pub line_is : {table : List ℕ} {key all : ℕ} {buffer : List ℕ} {back : Sent} → Line table key all buffer back → back ≡ into line_buffer buffer (line_said all table key)
line_is {table} {key} {all} {buffer} {back} b =
    ap (sent back.number) (sym b.leaves)
    ∙ b.meets
    ∙ ap₂ (λ (s : List ℕ) (k : ℕ). into line_buffer b.args.1.1.1.0.now (line_said b.args.1.1.0 s k)) b.lent b.its_key
    ∙ ap₂ (λ (l : List ℕ) (a : ℕ). into line_buffer l (line_said a table key)) b.into b.asked

pub next_is : {table : List ℕ} {key : ℕ} {out : List ℕ} {back : Sent} → Next table key out back → back ≡ into 1 out (next_said (next_above table key))
next_is {table} {key} {out} {back} b =
    ap (sent back.number) (sym b.leaves)
    ∙ b.meets
    ∙ ap₂ (λ (s : List ℕ) (k : ℕ). into 1 b.args.1.1.0.now (next_said (next_above s k))) b.lent b.its_key
    ∙ ap (λ (l : List ℕ). into 1 l (next_said (next_above table key))) b.into

-- ---- a text in a buffer

text_back : (n : ℕ) (text : List ℕ) → over 0 text ≡ true → length text ≤ n → text_of (filled n text) ≡ text
unfolding over
text_back zero [] p h = refl
text_back zero (b ∷ text) p h = absurd (let z : ⊥ = omega arith in z)
text_back (suc n) [] p h = refl
text_back (suc n) (zero ∷ text) p h = absurd (false≢true p)
text_back (suc n) (suc b ∷ text) p h = ap (λ (l : List ℕ). suc b ∷ l) (text_back n text (and_right (ltb 0 (suc b)) (over 0 text) p) (omega arith))

-- a line and its newline have no zero
ended_over : (l : List ℕ) → over 10 l ≡ true → over 0 (l ++ newline) ≡ true
unfolding over
ended_over l p = over_append 0 l newline (over_less 10 0 l (omega arith) p) refl

row_over_0 : (v : Option Row) → over 0 (line_text v) ≡ true
unfolding over
row_over_0 None = refl
row_over_0 (Some r) = ap (over 0) (row_text_lem r) ∙ ended_over (row_line r) (row_over r)

row_fits : (v : Option Row) → length (line_text v) ≤ line_buffer
row_fits None = omega arith
row_fits (Some r) = omega (arith, row_most r)

header_over_0 : (all : Bool) (s : List ℕ) (bad : ℕ) → over 0 (header_for all s bad) ≡ true
unfolding header_for
header_over_0 all s bad =
    let tracks : ℕ = length (rows_in all s) in
    ap (over 0) (header_text_lem (clock_of s) tracks bad) ∙ ended_over (header_line (clock_of s) tracks bad) (header_over (clock_of s) tracks bad)

header_fits : (all : Bool) (s : List ℕ) (bad : ℕ) → length (header_for all s bad) ≤ line_buffer
unfolding header_for
header_fits all s bad = omega (arith, header_most (clock_of s) (length (rows_in all s)) bad)

-- ---- a call that returned 0

-- the table has whole places, and the buffer has the text
pub record Printed (s text : List ℕ) (x : Sent) : Type 0 where
  pub whole : whole_places (length s) ≡ true
  pub array : x.array ≡ filled line_buffer text

module _ (all : ℕ) (s text buffer : List ℕ) where
  by_choice : length buffer ≡ line_buffer → whole_places (length s) ≡ true → (t : Bool) → (given buffer (cond t (number 8) (gives text))).number ≡ 0 → Printed s text (given buffer (cond t (number 8) (gives text)))
  by_choice h w true z = absurd (let u : ⊥ = omega arith in u)
  by_choice h w false z = record { whole = w; array = ap (λ (n : ℕ). filled n text) h }

  pub if_printed : (into line_buffer buffer (lines_said all s text)).number ≡ 0 → Printed s text (into line_buffer buffer (lines_said all s text))
  unfolding into
  if_printed =
      by_test (λ (x : Sent). x.number ≡ 0 → Printed s text x) (not (eqb (length buffer) line_buffer)) _ _
      (λ _ z. absurd (let u : ⊥ = omega arith in u))
      (λ t. by_test (λ (x : Said (List ℕ)). (given buffer x).number ≡ 0 → Printed s text (given buffer x)) (not (whole_places (length s))) _ _
      (λ _ z. absurd (let u : ⊥ = omega arith in u))
      (λ w. by_choice (eqb-true (length buffer) line_buffer (not-false _ t)) (not-false _ w) (ltb 1 all)))

module _ {table : List ℕ} {bad all : ℕ} {buffer : List ℕ} {back : Sent} (b : Header table bad all buffer back) (z : back.number ≡ 0) where
  header_printed : Printed table (header_for (chosen all) table bad) back
  unfolding header_said
  header_printed =
      let e = header_is b in
      subst (Printed table (header_for (chosen all) table bad)) (sym e) (if_printed all table (header_for (chosen all) table bad) buffer (sym (ap (λ (x : Sent). x.number) e) ∙ z))

  pub header_said_lem : text_of back.array ≡ header_for (chosen all) table bad
  header_said_lem =
      ap text_of header_printed.array ∙ text_back line_buffer (header_for (chosen all) table bad) (header_over_0 (chosen all) table bad) (header_fits (chosen all) table bad)

module _ {table : List ℕ} {key all : ℕ} {buffer : List ℕ} {back : Sent} (b : Line table key all buffer back) (z : back.number ≡ 0) where
  pub line_printed : Printed table (line_for (chosen all) key (view table key)) back
  unfolding line_said
  line_printed =
      let e = line_is b in
      subst (Printed table (line_for (chosen all) key (view table key))) (sym e)
      (if_printed all table (line_for (chosen all) key (view table key)) buffer (sym (ap (λ (x : Sent). x.number) e) ∙ z))

  pub line_said_lem : text_of back.array ≡ line_for (chosen all) key (view table key)
  line_said_lem =
      ap text_of line_printed.array ∙ text_back line_buffer (line_for (chosen all) key (view table key)) (row_over_0 (row_for (chosen all) key (view table key))) (row_fits (row_for (chosen all) key (view table key)))

-- ---- the next key

-- 0 is nobody's
pub no_key_0 : (s : List ℕ) (above : ℕ) → next_above s above ≡ Ok (Some 0) → ⊥
unfolding rules.next_above
no_key_0 s above =
    by_test (λ (x : Result (Option ℕ) Refusal). x ≡ Ok (Some 0) → ⊥) (not (whole_places (length s))) _ _
    (λ _ e. let z : ◌≡◌ {A = ℕ} 0 1 = cc in omega arith)
    (λ _. by_test (λ (x : Option ℕ). ◌≡◌ {A = Result (Option ℕ) Refusal} (Ok x) (Ok (Some 0)) → ⊥) (eqb (rules.least_above bytes s above) 0) _ _
    (λ _ e. let z : ◌≡◌ {A = ℕ} 0 1 = cc in omega arith)
    (λ t e. eqb-false (rules.least_above bytes s above) 0 t (let z : rules.least_above bytes s above ≡ 0 = cc in z)))

-- what an answer writes tells which it was
module _ (s : List ℕ) (above key : ℕ) (out : List ℕ) where
  abbrev Told : Sent → Type 0
  Told x = x ≡ sent 0 (key ∷ []) → ((key ≡ 0) × (next_above s above ≡ Ok None)) ⊎ (next_above s above ≡ Ok (Some key))

  entry : {k : ℕ} → length out ≡ 1 → sent 0 (filled (length out) (k ∷ [])) ≡ sent 0 (key ∷ []) → k ≡ key
  entry {k} h e = let z : k ∷ [] ≡ key ∷ [] = sym (ap (λ (n : ℕ). filled n (k ∷ [])) h) ∙ ap (λ (x : Sent). x.array) e in cc

  by_next : length out ≡ 1 → (x : Result (Option ℕ) Refusal) → next_above s above ≡ x → Told (given out (next_said x))
  by_next h (Ok (Some k)) e t = inr (e ∙ ap {B = Result (Option ℕ) Refusal} (λ (y : ℕ). Ok (Some y)) (entry h t))
  by_next h (Ok None) e t = inl (sym (entry h t), e)
  by_next h (Err r) e t = absurd (some_number r (ap (λ (x : Sent). x.number) t))

  pub next_told : Told (into 1 out (next_said (next_above s above)))
  unfolding into
  next_told =
      by_test Told (not (eqb (length out) 1)) _ _
      (λ _ t. absurd (let z : ◌≡◌ {A = ℕ} 1 0 = ap (λ (x : Sent). x.number) t in let u : ⊥ = omega arith in u))
      (λ t. by_next (eqb-true (length out) 1 (not-false _ t)) (next_above s above) refl)

pub at_end : {s : List ℕ} {above : ℕ} {out : List ℕ} → Next s above out (sent 0 (0 ∷ [])) → next_above s above ≡ Ok None
at_end {s} {above} {out} b = ⊎_elim (λ p. p.1) (λ e. absurd (no_key_0 s above e)) (next_told s above 0 out (sym (next_is b)))

pub at_key : {s : List ℕ} {above key : ℕ} {out : List ℕ} → Next s above out (sent 0 (key ∷ [])) → (key ≡ 0 → ⊥) → next_above s above ≡ Ok (Some key)
at_key {s} {above} {key} {out} b n = ⊎_elim (λ p. absurd (n p.0)) (λ e. e) (next_told s above key out (sym (next_is b)))

-- ---- the walk

module _ (all : Bool) (s : List ℕ) (w : whole_places (length s) ≡ true) where
  row_report : (v : Option Row) → walks.line_printed (Ok (reported v)) ≡ line_text v
  row_report None = refl
  row_report (Some r) = line_text_lem (row_text r)

  pub line_text_is : (key : ℕ) → walks.line_printed (line_in all s key) ≡ line_for all key (view s key)
  unfolding line_in
  line_text_is key = rw w (row_report (row_for all key (view s key)))

  pub header_text_is : (bad : ℕ) → walks.header_printed (header_in all s bad) ≡ header_for all s bad
  unfolding header_in
  header_text_is bad = rw w (line_text_lem (header_for all s bad))

module _ (s : List ℕ) (all : ℕ) (w : whole_places (length s) ≡ true) where
  walked : {above : ℕ} {text : List ℕ} → Lines s all above text → (n : ℕ) × Walked (chosen all) s above n text
  walked (last b) = (_, ended (at_end b))
  walked {above} (line {key = key} {text = text} b k l z more) =
      let rest = walked more in (
        _,
        subst (λ (x : List ℕ). Walked (chosen all) s above (some_text (walks.line_printed (line_in (chosen all) s key)) + rest.0) (x ++ text)) (line_text_is (chosen all) s w key ∙ sym (line_said_lem l z))
            (then (at_key b k) rest.1),
      )

pub prints_listing : {s : List ℕ} {bad all : ℕ} {text : List ℕ} → Prints s bad all text → text ≡ listing (chosen all) s bad
prints_listing {s} {bad} {all} (prints {text = text} h z lines) =
    let w : whole_places (length s) ≡ true = (header_printed h z).whole in
    ap (λ (x : List ℕ). x ++ text) (header_said_lem h z ∙ sym (header_text_is (chosen all) s w bad)) ∙ walk_prints (chosen all) s w bad (walked s all w lines).1
prints_listing (at_once b z e) = listing_said b z e

-- at once or one by one, it is the same text
pub both_ways : {s : List ℕ} {bad all : ℕ} {a b : List ℕ} → Prints s bad all a → Prints s bad all b → a ≡ b
both_ways p q = prints_listing p ∙ sym (prints_listing q)
