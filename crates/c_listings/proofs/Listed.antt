-- What `addercoil_listing` gives is the listing: a call that returned 0 filled its buffer with the text, which fits, and wrote its length.
-- Assumes nothing.
use Prim.Native.Nat.{ℕ, zero, suc, ◌≤◌}
use mathlib.Core.Bool.{Bool, true, false, cond, not, ◌&&◌}
use mathlib.Core.Path.{◌≡◌, refl, ap, ap₂, sym, ◌∙◌, subst}
use mathlib.Core.List.{List, [], ◌∷◌}
use native.Mathlib.Omega.{arith}
use borrow.Author.Tests.{eqb-true, not-false}
use lib.Dec.{eqb, ltb}
use lib.ListN.{length, take}
use Rattle.fields.proofs.Bools.{by_test, and_left, and_right}
use Rattle.entries.specs.Arrays.{filled}
use Rattle.memory.specs.Offsets.{whole_places, places_in}
use Rattle.report.specs.Listing.{listing}
use Rattle.whole.specs.Whole.{listing_bytes, room_for}
use Rattle.whole.proofs.Promised.{listing_ends}
use Rattle.display.specs.Lines.{chosen}
use Rattle.display.specs.Handed.{Handed, handed, listing_into}
use Rattle.c_listings.specs.Calls.{Listing}

-- the call did what the definition says
pub listing_is : {table : List ℕ} {bad all : ℕ} {order out written : List ℕ} {back : Handed} → Listing table bad all order out written back
    → back ≡ listing_into all table bad order out written
listing_is {table} {bad} {all} {order} {out} {written} {back} b =
    ap₂ (λ (o x : List ℕ). handed back.number o x back.written) (sym b.leaves_order) (sym b.leaves)
    ∙ ap (λ (w : List ℕ). handed back.number b.left.1.1.1.0.now b.left.1.1.1.1.0.now w) (sym b.leaves_written)
    ∙ b.meets
    ∙ ap₂ (λ (s : List ℕ) (n : ℕ). listing_into b.args.1.1.0 s n b.args.1.1.1.0.now b.args.1.1.1.1.0.now b.args.1.1.1.1.1.0.now) b.lent b.counted
    ∙ ap₂ (λ (a : ℕ) (o : List ℕ). listing_into a table bad o b.args.1.1.1.1.0.now b.args.1.1.1.1.1.0.now) b.asked b.sorted_in
    ∙ ap₂ (λ (x w : List ℕ). listing_into all table bad order x w) b.into b.long_in

pub taken : (n : ℕ) (text : List ℕ) → length text ≤ n → take (length text) (filled n text) ≡ text
taken n [] h = refl
taken zero (b ∷ text) h = absurd (let z : ⊥ = omega arith in z)
taken (suc n) (b ∷ text) h = ap (λ (l : List ℕ). b ∷ l) (taken n text (omega arith))

-- the buffer has the text, and its length is written
record Given (s text : List ℕ) (x : Handed) : Type 0 where
  pub size : ℕ
  pub room : size ≡ listing_bytes (places_in s)
  pub filled_is : x.out ≡ filled size text
  pub length_is : x.written ≡ length text ∷ []

module _ (all : ℕ) (s : List ℕ) (bad : ℕ) (order out written : List ℕ) where
  abbrev text : List ℕ
  text = listing (chosen all) s bad

  room_is : room_for s (length order) (length out) && eqb (length written) 1 ≡ true → length out ≡ listing_bytes (places_in s)
  unfolding room_for
  room_is t =
      eqb-true (length out) (listing_bytes (places_in s))
      (and_right (eqb (length order) (places_in s)) (eqb (length out) (listing_bytes (places_in s))) (and_left (room_for s (length order) (length out)) (eqb (length written) 1) t))

  if_given : (listing_into all s bad order out written).number ≡ 0 → Given s text (listing_into all s bad order out written)
  unfolding listing_into
  if_given =
      by_test (λ (x : Handed). x.number ≡ 0 → Given s text x) (not (room_for s (length order) (length out) && eqb (length written) 1)) _ _
      (λ _ z. absurd (let u : ⊥ = omega arith in u))
      (λ t. by_test (λ (x : Handed). x.number ≡ 0 → Given s text x) (not (whole_places (length s))) _ _
      (λ _ z. absurd (let u : ⊥ = omega arith in u))
      (λ w. by_test (λ (x : Handed). x.number ≡ 0 → Given s text x) (ltb 1 all) _ _
      (λ _ z. absurd (let u : ⊥ = omega arith in u))
      (λ _ z. record { size = length out; room = room_is (not-false _ t); filled_is = refl; length_is = refl })))

-- so many bytes of the buffer as were written are the listing
pub listing_said : {s : List ℕ} {bad all : ℕ} {order out written : List ℕ} {n : ℕ} {back : Handed} → Listing s bad all order out written back → back.number ≡ 0
    → back.written ≡ n ∷ [] → take n back.out ≡ listing (chosen all) s bad
listing_said {s} {bad} {all} {order} {out} {written} {n} {back} b z e =
    let is = listing_is b in
    let g = subst (Given s (listing (chosen all) s bad)) (sym is) (if_given all s bad order out written (sym (ap (λ (x : Handed). x.number) is) ∙ z)) in
    let w : n ∷ [] ≡ length (listing (chosen all) s bad) ∷ [] = sym e ∙ g.length_is in
    let m : n ≡ length (listing (chosen all) s bad) = cc in
    let l = listing_ends s (chosen all) bad in
    let r = g.room in
    ap₂ take m g.filled_is ∙ taken g.size (listing (chosen all) s bad) (omega arith)
