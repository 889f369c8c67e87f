-- What the contract promises in the rules' terms: whatever meets it says 1, 7, or the text of the listing, for which the buffer has room; the text is what the calls give one by one; its number of tracks is that of its lines.
-- Assumes nothing.
use Rattle.std.specs.Prelude.{Ok, Err, Option, Some, None}
use Prim.Native.Nat.{ℕ, zero, suc, ◌*◌, ◌≤◌, ◌<◌}
use native.Mathlib.Omega.{arith}
use mathlib.Core.Bool.{Bool, true, false, cond, not}
use mathlib.Core.List.{List, [], ◌∷◌, ◌++◌}
use mathlib.Core.Logic.{◌↔◌}
use mathlib.Core.Path.{◌≡◌, refl, sym, ap, ◌∙◌}
use lib.Dec.{eqb, ltb}
use lib.ListN.{length, length-append}
use contract.Lifetimes.{Lfts}
use denote.Triple.Clauses.{AtExit}
use borrow.Fn.Kinds.{Dens, res_t, ended_of}
use Rattle.refusals.specs.Said.{number, gives}
use Rattle.refusals.specs.declared.Refusal.TheVariants.{Length, Places}
use Rattle.order.specs.Facts.{Has, Rises}
use Rattle.memory.specs.Offsets.{whole_places, places_in}
use Rattle.rules.specs.Form.{is_held}
use Rattle.table_bytes.specs.Layout.{clock_of, key_at}
use Rattle.table.specs.Bytes.{bytes}
use Rattle.table.specs.View.{view, HeldKey}
use Rattle.text.specs.declared.Row.{Row}
use Rattle.text.specs.Lines.{header_text, row_text, text_in}
use Rattle.text.proofs.Fits.{header_most, row_most}
use Rattle.entries.specs.Arrays.{filled}
use Rattle.report.specs.Listing.{row_for, as_list, among, keys_held, keys_in, rows_of, rows_in, texts, header_for, listing, header_in}
use Rattle.report.specs.Walked.{Walked, header_printed}
use Rattle.report.proofs.Gathered.{keys_rise, keys_held_lem, held_keys}
use Rattle.report.proofs.Walking.{walk_prints, walk_tracks}
use Rattle.whole.specs.Whole.{listing_bytes, room_for, order_after, left, listed}
use Rattle.whole.specs.Said.{answer_said}
use Rattle.whole.proofs.listing.Kinds as listing-kinds
use Rattle.whole.proofs.listing.Reads as listing-reads

-- ---- the answer

listed_says : (all : Bool) (s : List ℕ) (bad : ℕ) (order out : List ℕ)
    → answer_said (listed all s bad order out) ≡ cond (not (room_for s (length order) (length out))) (number 1) (cond (not (whole_places (length s))) (number 7) (gives (filled (length out) (listing all s bad))))
unfolding listed
listed_says all s bad order out = by_tests (room_for s (length order) (length out)) (whole_places (length s))
  where
    by_tests : (a b : Bool) → answer_said (cond (not a) (left (Err Length) order out) (cond (not b) (left (Err Places) order out) (left (Ok (length (listing all s bad))) (order_after s order) (filled (length out) (listing all s bad)))))
        ≡ cond (not a) (number 1) (cond (not b) (number 7) (gives (filled (length out) (listing all s bad))))
    by_tests true true = refl
    by_tests true false = refl
    by_tests false b = refl

pub listing_promised : (κs : Lfts 3) (args : Dens κs listing-kinds.ps) (x : (res_t listing-kinds.r κs).Denot)
    (lefts : AtExit (ended_of 3 listing-kinds.ps listing-kinds.r) κs) → listing-reads.Post κs args x lefts
    → answer_said (left x lefts.1.1.1.0.now lefts.1.1.1.1.0.now)
    ≡ cond (not (room_for args.0.now (length args.1.1.1.0.now) (length args.1.1.1.1.0.now))) (number 1)
    (cond (not (whole_places (length args.0.now))) (number 7) (gives (filled (length args.1.1.1.1.0.now) (listing args.1.1.0 args.0.now args.1.0))))
listing_promised κs args x lefts p = ap answer_said p ∙ listed_says args.1.1.0 args.0.now args.1.0 args.1.1.1.0.now args.1.1.1.1.0.now

-- ---- the text

module _ (all : Bool) (s : List ℕ) (bad : ℕ) where
  -- the number after "tracks" is that of the lines, which a walk of the keys gives one by one
  pub tracks_are_lines : whole_places (length s) ≡ true → {n : ℕ} {text : List ℕ} → Walked all s 0 n text → listing all s bad ≡ header_text (clock_of s) n bad ++ text
  tracks_are_lines whole {n} {text} w = sym (walk_prints all s whole bad w) ∙ ap (λ (h : List ℕ). h ++ text) (walk_tracks all s whole bad w)

  -- the text is what the header, the walk of the keys and the line of each give one by one
  pub listing_one_by_one : whole_places (length s) ≡ true → {n : ℕ} {text : List ℕ} → Walked all s 0 n text
      → listing all s bad ≡ header_printed (header_in all s bad) ++ text
  listing_one_by_one whole w = sym (walk_prints all s whole bad w)

-- ---- the room

texts_most : (rows : List Row) → length (texts rows) ≤ 124 * length rows
unfolding texts
texts_most [] = omega arith
texts_most (r ∷ rows) = omega (arith, length-append (row_text r) (texts rows), row_most r, texts_most rows)

one_most : (v : Option Row) → length (as_list v) ≤ 1
one_most None = omega arith
one_most (Some r) = omega arith

among_most : (key : ℕ) (keys : List ℕ) → length (among key keys) ≤ suc (length keys)
unfolding among
among_most key [] = omega arith
among_most key (k ∷ keys) = by_tests (ltb key k) (eqb key k) (among_most key keys)
  where
    by_tests : (a b : Bool) → length (among key keys) ≤ suc (length keys) → length (cond a (key ∷ k ∷ keys) (cond b (k ∷ keys) (k ∷ among key keys))) ≤ suc (suc (length keys))
    by_tests true b h = omega arith
    by_tests false true h = omega arith
    by_tests false false h = omega arith

module _ (s : List ℕ) where
  rows_most : (all : Bool) (keys : List ℕ) → length (rows_of all s keys) ≤ length keys
  unfolding rows_of
  rows_most all [] = omega arith
  rows_most all (k ∷ keys) = omega (arith, length-append (as_list (row_for all k (view s k))) (rows_of all s keys), one_most (row_for all k (view s k)), rows_most all keys)

  keys_most : (n : ℕ) → length (keys_held s n) ≤ n
  unfolding keys_held
  keys_most zero = omega arith
  keys_most (suc n) = by_test (is_held (clock_of s) (bytes.cell s n)) (keys_most n)
    where
      by_test : (b : Bool) → length (keys_held s n) ≤ n → length (cond b (among (key_at s n) (keys_held s n)) (keys_held s n)) ≤ suc n
      by_test true h = omega (arith, among_most (key_at s n) (keys_held s n))
      by_test false h = omega arith

  -- the buffer has room for the text and a zero behind it
  pub listing_ends : (all : Bool) (bad : ℕ) → length (listing all s bad) < listing_bytes (places_in s)
  unfolding listing header_for
  listing_ends all bad =
      omega (
        arith,
        length-append (header_text (clock_of s) (length (rows_in all s)) bad) (texts (rows_in all s)),
        header_most (clock_of s) (length (rows_in all s)) bad,
        texts_most (rows_in all s),
        rows_most all (keys_in s),
        keys_most (places_in s),
      )

-- ---- the keys

-- the keys of the lines are those that the table holds, in order, each once
pub keys_are_held : (s : List ℕ) → Rises (keys_in s) × ((key : ℕ) → Has key (keys_in s) ↔ HeldKey s key)
keys_are_held s = (keys_rise s (places_in s), λ key. (keys_held_lem s key, held_keys s key))
