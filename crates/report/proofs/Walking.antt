-- The header's line and those that a walk prints are the listing, and the header counts those that have text; and every walk ends. By the calls of the walk: each skips what is not held, and adds the row of a key that is shown.
-- Assumes nothing.
use Rattle.std.specs.Prelude.{Option, Some, None, Result, Ok, Err}
use Prim.Native.Nat.{ℕ, zero, suc, ◌+◌, ◌≤◌, ◌<◌}
use native.Mathlib.Omega.{arith}
use mathlib.Core.Bool.{Bool, true}
use mathlib.Core.List.{List, [], ◌++◌, append-nil, append_assoc}
use mathlib.Core.Path.{◌≡◌, refl, sym, ap, ap₂, ◌∙◌}
use lib.ListN.{length, length-append}
use Rattle.keys.specs.Keys.{end_of_keys}
use Rattle.keys.proofs.Laws.{before_end}
use Rattle.text.specs.declared.Row.{Row}
use Rattle.text.specs.Lines.{header_text, key_text, row_text}
use Rattle.text.proofs.Fits.{line_text_lem}
use Rattle.memory.specs.Offsets.{whole_places}
use Rattle.table_bytes.specs.Layout.{clock_of}
use Rattle.rules.proofs.KeyOrder.{next_follows}
use Rattle.table.specs.Bytes.{bytes}
use Rattle.table.specs.Table.{next_above}
use Rattle.table.specs.View.{view}
use Rattle.table.specs.Code.{Follows}
use Rattle.report.specs.Listing.{row_for, as_list, rows_in, texts, header_for, listing, header_in, reported, line_in}
use Rattle.report.specs.Walked.{header_printed, line_printed, rows_below, some_text, Walked, ended, then}
use Rattle.report.specs.Code.{key_or_limit}
use Rattle.report.proofs.Held.{held_is_key}
use Rattle.report.proofs.Gathered.{rows_walked}
use Rattle.report.proofs.Keys.{Least, least, skipped, none_zero, rows_none, rows_next, rows_keep, texts_append}
use Rattle.refusals.specs.declared.Refusal.{Refusal}

-- a row's text is not empty
row_some : (r : Option Row) → some_text (texts (as_list r)) ≡ length (as_list r)
unfolding some_text texts row_text key_text
row_some None = refl
row_some (Some r) = refl

module _ (all : Bool) (s : List ℕ) (whole : whole_places (length s) ≡ true) where
  header_text_lem : (bad : ℕ) → header_printed (header_in all s bad) ≡ header_for all s bad
  unfolding header_in
  header_text_lem bad = rw whole (line_text_lem (header_for all s bad))

  row_text_lem : (r : Option Row) → line_printed (Ok (reported r)) ≡ texts (as_list r)
  unfolding texts
  row_text_lem None = refl
  row_text_lem (Some r) = line_text_lem (row_text r) ∙ sym (append-nil (row_text r))

  -- the line of a key is the text of its row
  line_shown : (key : ℕ) → line_printed (line_in all s key) ≡ texts (as_list (row_for all key (view s key)))
  unfolding line_in
  line_shown key = rw whole (row_text_lem (row_for all key (view s key)))

  -- the answer of a call, as the least key
  least_as : (above : ℕ) {a : Result (Option ℕ) Refusal} → above < end_of_keys → next_above s above ≡ a → Least s above (key_or_limit a)
  least_as above {a} h e = rw e at (least s above whole h)

  least_key : (above key : ℕ) → above < end_of_keys → next_above s above ≡ Ok (Some key) → Least s above key × (key < end_of_keys)
  unfolding key_or_limit
  least_key above key h e =
      let f : Follows s above (Ok (Some key)) = rw e at (next_follows bytes s above whole) in
      (least_as above h e, before_end key (held_is_key s key f.0))

  -- what a walk from a key on prints: the rows after that key, their texts, and as many lines with text
  record Rest (above n : ℕ) (text : List ℕ) : Type 0 where
    pub left : List Row
    pub rows : rows_below all s end_of_keys ≡ rows_below all s (suc above) ++ left
    pub many : length left ≡ n
    pub said : texts left ≡ text

  walk_rest : {above n : ℕ} {text : List ℕ} → above < end_of_keys → Walked all s above n text → Rest above n text
  unfolding key_or_limit texts
  walk_rest {above} h (ended e) =
      record {
        left = [];
        rows = sym (append-nil (rows_below all s (suc above)) ∙ skipped (rows_below all s) s (rows_keep all s) (least_as above h e));
        many = refl;
        said = refl;
      }
  walk_rest {above} h (then {key = key} e w) =
      let p = least_key above key h e in
      let q = walk_rest p.1 w in
      let own = as_list (row_for all key (view s key)) in
      let before : rows_below all s (suc key) ≡ rows_below all s (suc above) ++ own
      = rows_next all s key ∙ ap (λ (l : List Row). l ++ own) (sym (skipped (rows_below all s) s (rows_keep all s) p.0)) in
      record {
        left = own ++ q.left;
        rows = q.rows ∙ ap (λ (l : List Row). l ++ q.left) before ∙ append_assoc (rows_below all s (suc above)) own q.left;
        many = length-append own q.left ∙ ap₂ ◌+◌ (sym (ap some_text (line_shown key) ∙ row_some (row_for all key (view s key)))) q.many;
        said = texts_append own q.left ∙ ap₂ ◌++◌ (sym (line_shown key)) q.said;
      }

  -- a walk from 0 on has all rows
  whole_walk : {n : ℕ} {text : List ℕ} (w : Walked all s 0 n text) → rows_in all s ≡ (walk_rest (omega arith) w).left
  whole_walk w =
      let r = walk_rest (omega arith) w in
      rows_walked s all ∙ r.rows ∙ ap (λ (l : List Row). l ++ r.left) (rows_keep all s 0 (none_zero s) ∙ rows_none all s)

  -- the header, then the lines of a walk from 0 on, is the listing
  pub walk_prints : (bad : ℕ) {n : ℕ} {text : List ℕ} → Walked all s 0 n text → header_printed (header_in all s bad) ++ text ≡ listing all s bad
  unfolding listing
  walk_prints bad w = ap₂ ◌++◌ (header_text_lem bad) (sym (ap texts (whole_walk w) ∙ (walk_rest (omega arith) w).said))

  -- the number of tracks in the header is that of the lines below it that have text
  pub walk_tracks : (bad : ℕ) {n : ℕ} {text : List ℕ} → Walked all s 0 n text → header_printed (header_in all s bad) ≡ header_text (clock_of s) n bad
  unfolding header_for
  walk_tracks bad w = header_text_lem bad ∙ ap (λ (k : ℕ). header_text (clock_of s) k bad) (ap length (whole_walk w) ∙ (walk_rest (omega arith) w).many)

  ends : (d above : ℕ) → end_of_keys ≤ above + d → above < end_of_keys → (n : ℕ) × ((text : List ℕ) × Walked all s above n text)
  ends zero above m h = absurd (omega arith)
  ends (suc d) above m h = by_answer (next_above s above) refl (next_follows bytes s above whole) (ends d)
    where
      by_answer : (a : Result (Option ℕ) Refusal) → next_above s above ≡ a → Follows s above a
          → ((k : ℕ) → end_of_keys ≤ k + d → k < end_of_keys → (n : ℕ) × ((text : List ℕ) × Walked all s k n text))
          → (n : ℕ) × ((text : List ℕ) × Walked all s above n text)
      by_answer (Ok (Some key)) e f rest =
          let l = f.1.0 in
          let w = rest key (omega arith) (before_end key (held_is_key s key f.0)) in
          (_, (_, then e w.1.1))
      by_answer (Ok None) e f rest = (_, (_, ended e))
      by_answer (Err r) e f rest = absurd f

  -- every walk ends
  pub walk_ends : (n : ℕ) × ((text : List ℕ) × Walked all s 0 n text)
  walk_ends = ends end_of_keys 0 (omega arith) (omega arith)
