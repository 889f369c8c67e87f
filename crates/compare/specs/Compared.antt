-- RULES 14: another listing against ours. Ours is what the program "listing" prints with all tracks asked for. The line at fault is the first, counted from the top, that breaks this against our line of the same number, a missing or
-- surplus line included.
use Rattle.std.specs.Prelude.{ℕ, suc, true, cond, not, List, [], ◌∷◌, ◌++◌, ltb, replicate, Option, Some, None, Result, Ok, Err}
use Rattle.refusals.specs.declared.Refusal.TheVariants.{Log, Form}
use Rattle.refusals.specs.Numbers.{most_records}
use Rattle.memory.specs.Offsets.{table_size}
use Rattle.table_bytes.specs.Layout.{emptied}
use Rattle.text.specs.declared.Row.{Row}
use Rattle.text.specs.Lines.{newline}
use Rattle.feed.specs.Feed.{blocks_in, blocks_into, bad_in, records_in}
use Rattle.report.specs.Listing.{header_for, rows_in, listing}
use Rattle.form.specs.Form.{pieces, same, in_form, lines_in}
use Rattle.agree.specs.Near.{agrees_of}
use Rattle.refusals.specs.declared.Refusal.{Refusal}

-- ---- ours

-- RULES 14.1: what a capture leaves in an empty table of 256 places, with no site
unfoldable pub table_of : List ℕ → List ℕ
table_of c = blocks_into (emptied (replicate (table_size 256) 0)) c (blocks_in c)

-- its bad blocks
abbrev pub bad_of : List ℕ → ℕ
bad_of c = bad_in c (blocks_in c)

-- RULES 14.1: the text, which is the header and then the rows
abbrev pub ours : List ℕ → List ℕ
ours c = listing true (table_of c) (bad_of c)

abbrev pub our_header : List ℕ → List ℕ
our_header c = header_for true (table_of c) (bad_of c)

abbrev pub our_rows : List ℕ → List Row
our_rows c = rows_in true (table_of c)

-- ---- the comparison

-- RULES 14.6: their lines, the first of which has the number n, against our rows
unfoldable pub compared : ℕ → List (List ℕ) → List Row → Result (Option ℕ) Refusal
compared n [] [] = Ok None
compared n [] (r ∷ rs) = Ok (Some n)
compared n (l ∷ ls) [] = Ok (Some n)
compared n (l ∷ ls) (r ∷ rs) = cond (agrees_of (l ++ newline) r) (compared (suc n) ls rs) (Ok (Some n))

-- RULES 14.4 and 14.6: the header is line 1
unfoldable pub against : List (List ℕ) → List ℕ → List Row → Result (Option ℕ) Refusal
against [] header rs = Ok (Some 1)
against (h ∷ ls) header rs = cond (same (h ++ newline) header) (compared 2 ls rs) (Ok (Some 1))

-- their lines
abbrev pub lines_of : List ℕ → List (List ℕ)
lines_of l = lines_in (pieces 10 l)

unfoldable pub verdict : List ℕ → List ℕ → Result (Option ℕ) Refusal
verdict c l = against (lines_of l) (our_header c) (our_rows c)

-- RULES 14.8: how many records its good blocks have
abbrev pub records_of : List ℕ → ℕ
records_of c = records_in c (blocks_in c)

-- RULES 14.1 and 14.8: 14 for over 2,900 records in good blocks, then 16 for a text that is not in the form
unfoldable pub checked : List ℕ → List ℕ → Result (Option ℕ) Refusal
checked c l = cond (ltb most_records (records_of c)) (Err Log) (cond (not (in_form l)) (Err Form) (verdict c l))

-- the bytes of a table of 256 places, before its set-up
abbrev pub zeros : List ℕ
zeros = replicate (table_size 256) 0
