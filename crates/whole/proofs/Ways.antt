-- What each way out of `listing` gives, and what the calls on the way to the text ask for: by the lengths, and by the entries of the lowest places.
-- Assumes nothing.
use Rattle.std.specs.Prelude.{Ok, Err}
use Prim.Native.Nat.{ℕ, ◌+◌, ◌*◌, ◌≤◌}
use native.Mathlib.Omega.{arith}
use mathlib.Core.Bool.{Bool, true, false, not, ◌&&◌}
use mathlib.Core.List.{List, []}
use mathlib.Core.Path.{◌≡◌, sym, ap, ap₂, ◌∙◌}
use lib.Dec.{eqb}
use lib.ListN.{length, take, replicate, length-replicate}
use borrow.Author.Tests.{eqb-true, not-true, not-false}
use Rattle.refusals.specs.declared.Refusal.TheVariants.{Length, Places}
use Rattle.fields.proofs.Bools.{and_left, and_right}
use Rattle.memory.specs.Offsets.{most_places, whole_places, places_in}
use Rattle.table_bytes.specs.Layout.{clock_of, emptied}
use Rattle.text.specs.declared.Row.{Row}
use Rattle.text.specs.Lines.{line_room, header_text}
use Rattle.entries.specs.Arrays.{filled}
use Rattle.report.specs.Listing.{texts, header_for, listing}
use Rattle.whole.specs.Whole.{room_for, lowest_of, order_after, left, listed}
use Rattle.whole.specs.Code.{rows_at, listing_of, Inside, Put, Added}
use Rattle.whole.proofs.Buffer.{put_filled}
use Rattle.whole.proofs.Lowest.{rows_are, all_within}
use Rattle.whole.proofs.Steps.{front_lowest, inside_lowest}

-- a buffer of zeros
pub blank : (out : List ℕ) {l : List ℕ} → l ≡ emptied out → l ≡ replicate (length l) 0
unfolding emptied
blank out e = e ∙ ap (λ (n : ℕ). replicate n 0) (sym (ap length e ∙ length-replicate (length out) 0))

-- the header and the lines
pub put_both : (bad : ℕ) (rows : List Row) {clock n at end : ℕ} {out a b : List ℕ} {time : ℕ} → Put [] 0 out → clock ≡ time → n ≡ length rows
    → Added (header_text clock n bad) 0 at out a → Added (texts rows) at end a b → Put (listing_of bad time rows) end b
unfolding listing_of
put_both bad rows {clock} {n} {at} {end} {out} {a} {b} {time} p c-is n-is x y =
    let h : header_text clock n bad ≡ header_text time (length rows) bad = ap₂ (λ (c k : ℕ). header_text c k bad) c-is n-is in
    y.put _ (rw h at (x.put [] p))

module _ (s order out : List ℕ) {r : Bool} (r-is : r ≡ room_for s (length order) (length out)) where
  module _ (h : not r ≡ false) where
    rooms : eqb (length order) (places_in s) && eqb (length out) (line_room * (places_in s + 1)) ≡ true
    unfolding room_for
    rooms = sym r-is ∙ not-false r h

    pub order_room : length order ≡ places_in s
    order_room = eqb-true _ _ (and_left (eqb (length order) (places_in s)) (eqb (length out) (line_room * (places_in s + 1))) rooms)

    pub out_room : length out ≡ line_room * (places_in s + 1)
    out_room = eqb-true _ _ (and_right (eqb (length order) (places_in s)) (eqb (length out) (line_room * (places_in s + 1))) rooms)

  module _ (all : Bool) (bad : ℕ) where
    pub no_room : not r ≡ true → left (Err Length) order out ≡ listed all s bad order out
    unfolding listed
    no_room h = rw (← r-is, not-true r h)

    module _ (h : not r ≡ false) {w : Bool} (w-is : w ≡ whole_places (length s)) where
      pub no_table : not w ≡ true → left (Err Places) order out ≡ listed all s bad order out
      unfolding listed
      no_table y = rw (← r-is, not-false r h, ← w-is, not-true w y)

      module _ {n k : ℕ} {o : List ℕ} (n-is : n ≡ places_in s) (few : n ≤ most_places) (k-is : k ≡ length (lowest_of s)) (o_is : o ≡ order_after s order) where
        small : places_in s ≤ 1024
        small = omega arith

        text_is : listing_of bad (clock_of s) (rows_at all s n (take k o)) ≡ listing all s bad
        unfolding listing_of listing header_for
        text_is =
            ap (listing_of bad (clock_of s))
            (ap₂ (λ (m : ℕ) (l : List ℕ). rows_at all s m l) n-is (front_lowest s order k-is o_is) ∙ rows_are s small all)

        pub told : not w ≡ false → {at : ℕ} {x : List ℕ} → length x ≡ length out → Put (listing_of bad (clock_of s) (rows_at all s n (take k o))) at x
            → left (Ok at) o x ≡ listed all s bad order out
        unfolding listed
        told y {at} {x} long p =
            let q : Put (listing all s bad) at x = rw text_is at p in
            let f : x ≡ filled (length out) (listing all s bad) = put_filled q ∙ ap (λ (m : ℕ). filled m (listing all s bad)) long in
            let e : left (Ok at) o x ≡ left (Ok (length (listing all s bad))) (order_after s order) (filled (length out) (listing all s bad)) =
            ap (λ (m : ℕ). left (Ok m) o x) q.ends ∙ ap₂ (λ (u v : List ℕ). left (Ok (length (listing all s bad))) u v) o_is f in
            e ∙ rw (← r-is, not-false r h, ← w-is, not-false w y)

-- the entries that the lines are written from
pub inside_all : (s order : List ℕ) {n k : ℕ} {o : List ℕ} → n ≡ places_in s → n ≤ most_places → k ≡ length (lowest_of s) → o ≡ order_after s order → Inside o k n
inside_all s order {n} {k} {o} n-is few k-is o_is =
    let small : places_in s ≤ 1024 = omega arith in
    rw n-is (inside_lowest s {k = k} {n = places_in s} {order = o} (front_lowest s order k-is o_is) k-is (all_within s small))
