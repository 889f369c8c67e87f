-- The listings of a fleet merged, of the calls from C: after k tables the text is the listing of the rows whose keys go to the first k, and the next table adds its own.
-- Assumes nothing.
use Rattle.std.specs.Prelude.{Ok, Option}
use Prim.Native.Nat.{ℕ, zero, suc, ◌+◌, ◌^◌, ◌≤◌, ◌<◌}
use native.Mathlib.Omega.{arith}
use mathlib.Core.Bool.{Bool, true, false, not, ◌&&◌}
use mathlib.Core.Path.{◌≡◌, refl, ap, ap₂, sym, ◌∙◌, subst}
use mathlib.Core.List.{List, [], ◌∷◌}
use lib.Dec.{eqb, ltb}
use lib.ListN.{length, take}
use borrow.Author.Tests.{eq-eqb, eqb-true, ltb-true, ltb-false, not-false}
use Rattle.fields.proofs.Bools.{by_test, and_left}
use Rattle.keys.specs.Keys.{end_of_keys}
use Rattle.entries.specs.Arrays.{filled}
use Rattle.text.specs.declared.Row.{Row}
use Rattle.rules.specs.Rules.{set_up}
use Rattle.rules.specs.View as rules-view
use Rattle.merge.specs.Merged.{mergeable, merged}
use Rattle.isolation.specs.Runs.{Call}
use Rattle.display.specs.Lines.{chosen}
use Rattle.dealer.specs.Joint.{Joint, joint, merge_into}
use Rattle.fleet.specs.Together.{listed, together, sum_of}
use Rattle.fleet.specs.Wide.{wide, roomy}
use Rattle.fleet.proofs.Wide.{wide_lawful}
use Rattle.c_promises.specs.Runs.{Site, site_of}
use Rattle.c_promises.proofs.Isolated.{east}
use Rattle.c_listings.proofs.Listed.{taken}
use Rattle.c_fleet.specs.Roomy.{single}
use Rattle.c_fleet.specs.Listings.{clock_of_all, rows_of_all, rows_with, rows_for}
use Rattle.c_fleet.specs.Merged.{Merge, Merged, Merged.first, Merged.next, Printed, MergedIsOne, NoneRefused}
use Rattle.c_fleet.proofs.Roomy.{single_done}
use Rattle.c_fleet.proofs.Rows.{Rising, rising_with, among, first_rows, rows_next, whole_among}
use Rattle.c_fleet.proofs.Sound.{Sound, sound_with, most_with, most_held, clock_fits, rows_sound}
use Rattle.c_fleet.proofs.Listings.{fleet_prints, rising_all}
use Rattle.c_fleet.proofs.Texts.{are_one, one_text, text_room}

-- ---- the call

merge_is : {a b out written : List ℕ} {back : Joint} → Merge a b out written back → back ≡ merge_into a b out written
merge_is {a} {b} {out} {written} {back} x =
    ap₂ (λ (o w : List ℕ). joint back.number o w) (sym x.leaves) (sym x.leaves_written)
    ∙ x.meets
    ∙ ap₂ (λ (s t : List ℕ). merge_into s t x.args.1.1.0.now x.args.1.1.1.0.now) x.first x.second
    ∙ ap₂ (λ (o w : List ℕ). merge_into a b o w) x.into x.long_in

-- a call that returned 0 has the text in its buffer, and wrote its length
record Given (a b out : List ℕ) (x : Joint) : Type 0 where
  pub room : length out ≡ length a + length b
  pub filled_is : x.out ≡ filled (length out) (merged a b)
  pub length_is : x.written ≡ length (merged a b) ∷ []

module _ (a b out written : List ℕ) where
  if_given : (merge_into a b out written).number ≡ 0 → Given a b out (merge_into a b out written)
  unfolding merge_into
  if_given =
      by_test (λ (x : Joint). x.number ≡ 0 → Given a b out x) (not (eqb (length out) (length a + length b) && eqb (length written) 1)) _ _
      (λ _ z. absurd (let u : ⊥ = omega arith in u))
      (λ t. by_test (λ (x : Joint). x.number ≡ 0 → Given a b out x) (not (mergeable a b)) _ _
      (λ _ z. absurd (let u : ⊥ = omega arith in u))
      (λ _ z. record {
        room = eqb-true (length out) (length a + length b) (and_left (eqb (length out) (length a + length b)) (eqb (length written) 1) (not-false _ t));
        filled_is = refl;
        length_is = refl;
      }))

  if_one : length out ≡ length a + length b → length written ≡ 1 → mergeable a b ≡ true → (merge_into a b out written).number ≡ 0
  unfolding merge_into
  if_one h g e = rw (eq-eqb _ _ h, eq-eqb _ _ g, e)

merge_said : {a b out written : List ℕ} {m : ℕ} {back : Joint} → Merge a b out written back → back.number ≡ 0 → back.written ≡ m ∷ []
    → length (merged a b) ≤ length a + length b → take m back.out ≡ merged a b
merge_said {a} {b} {out} {written} {m} {back} x z e fits =
    let is = merge_is x in
    let g = subst (Given a b out) (sym is) (if_given a b out written (sym (ap (λ (y : Joint). y.number) is) ∙ z)) in
    let w : m ∷ [] ≡ length (merged a b) ∷ [] = sym e ∙ g.length_is in
    let n : m ≡ length (merged a b) = cc in
    let r = g.room in
    ap₂ take n g.filled_is ∙ taken (length out) (merged a b) (omega arith)

-- ---- the fleet

sum_more : (bad : ℕ → ℕ) (k n : ℕ) → k ≤ n → sum_of k bad ≤ sum_of n bad
sum_more bad k zero h = let e : k ≡ 0 = omega arith in omega (arith, ap (λ (j : ℕ). sum_of j bad) e)
sum_more bad k (suc n) h = by (ltb n k) refl (sum_more bad k n)
  where
    by : (b : Bool) → ltb n k ≡ b → (k ≤ n → sum_of k bad ≤ sum_of n bad) → sum_of k bad ≤ bad n + sum_of n bad
    by true t more = let e : k ≡ suc n = omega (arith, ltb-true n k t) in omega (arith, ap (λ (j : ℕ). sum_of j bad) e)
    by false t more = omega (arith, more (ltb-false n k t))

-- over any rows that rise, and whose keys and numbers are sound
module _ (which : ℕ → ℕ) (n clock : ℕ) (rows : List Row) (bad : ℕ → ℕ) (texts : ℕ → List ℕ) (fits : clock < 2 ^ 64) (sound : Sound rows) (rising : Rising rows) (many : length rows < 2 ^ 64)
    (few : sum_of n bad < 2 ^ 64) (text_of_lem : (k : ℕ) → k < n → texts k ≡ listed clock (rows_for which k rows) (bad k)) where
  -- the listing of the first k tables
  abbrev up_to : ℕ → List ℕ
  up_to k = listed clock (rows_with (among which k) rows) (sum_of k bad)

  few_with : (is : ℕ → Bool) → length (rows_with is rows) < 2 ^ 64
  few_with is = omega (arith, most_with is rows)

  module _ (k : ℕ) (h : k < n) where
    abbrev goes : ℕ → Bool
    goes key = eqb (which key) k

    abbrev before : List Row
    before = rows_with (among which k) rows

    abbrev its : List Row
    its = rows_with goes rows

    once : Rising (together before its)
    once = subst Rising (sym (rows_next which rows rising k)) (rising_with (among which (suc k)) rows rising)

    sum_fits : sum_of k bad + bad k < 2 ^ 64
    sum_fits = omega (arith, sum_more bad (suc k) n (omega arith))

    both_one : mergeable (up_to k) (listed clock its (bad k)) ≡ true
    both_one =
        are_one clock (sum_of k bad) (bad k) before its (sound_with (among which k) rows sound) (sound_with goes rows sound) (rising_with (among which k) rows rising) (rising_with goes rows rising)
        once fits (few_with (among which k)) (few_with goes) sum_fits

    both_text : merged (up_to k) (listed clock its (bad k)) ≡ listed clock (together before its) (sum_of k bad + bad k)
    both_text =
        one_text clock (sum_of k bad) (bad k) before its (sound_with (among which k) rows sound) (sound_with goes rows sound) (rising_with (among which k) rows rising) (rising_with goes rows rising)
        once fits (few_with (among which k)) (few_with goes) sum_fits

    next_text : listed clock (together before its) (sum_of k bad + bad k) ≡ up_to (suc k)
    next_text = ap₂ (λ (r : List Row) (b : ℕ). listed clock r b) (rows_next which rows rising k) (let e : sum_of k bad + bad k ≡ bad k + sum_of k bad = omega arith in e)

    both_room : length (merged (up_to k) (listed clock its (bad k))) ≤ length (up_to k) + length (listed clock its (bad k))
    both_room = omega (arith, ap length both_text, text_room clock (sum_of k bad) (bad k) before its)

  so_far : {k : ℕ} {text : List ℕ} → Merged texts k text → k ≤ n → text ≡ up_to k
  so_far first h =
      text_of_lem 0 (omega arith) ∙ ap₂ (λ (r : List Row) (b : ℕ). listed clock r b) (first_rows which rows rising) (let e : bad 0 ≡ bad 0 + 0 = omega arith in e)
  so_far (next {n = k} {m = m} {text = text} more x z e) h =
      let l : k < n = omega arith in
      let t = so_far more (omega arith) in
      let u = text_of_lem k l in
      let pair : merged text (texts k) ≡ merged (up_to k) (listed clock (its k l) (bad k)) = ap₂ merged t u in
      merge_said x z e (omega (arith, ap length pair, both_room k l, ap length t, ap length u)) ∙ pair ∙ both_text k l ∙ next_text k l

  pub merged_all : ((key : ℕ) → which key < n) → (text : List ℕ) → Merged texts n text → text ≡ listed clock rows (sum_of n bad)
  merged_all inside text m = so_far m (omega arith) ∙ ap (λ (r : List Row). listed clock r (sum_of n bad)) (whole_among which rows rising n inside)

  pub next_taken : (k : ℕ) → k < n → (text out written : List ℕ) (back : Joint) → Merged texts k text → length out ≡ length text + length (texts k) → length written ≡ 1
      → Merge text (texts k) out written back → back.number ≡ 0
  next_taken k h text out written back m l g x =
      ap (λ (y : Joint). y.number) (merge_is x) ∙ if_one text (texts k) out written l g (ap₂ mergeable (so_far m (omega arith)) (text_of_lem k h) ∙ both_one k h)

-- .. and so over those of the single table

few_keys : (k : ℕ) → k ≤ end_of_keys → k < 2 ^ 64
few_keys k h = omega arith

module _ (which : ℕ → ℕ) (n : ℕ) (site : Option Site) (stream : List Call) (keys : List ℕ) (all : ℕ) (bad : ℕ → ℕ) (texts : ℕ → List ℕ) (p : Printed which n site stream keys all bad texts) where
  done : (set_up wide (roomy (length keys)) (site_of site)).answer ≡ Ok tt
  done = single_done which (which 0) site stream keys p.among (p.tables (which 0) (p.inside 0))

  fits : clock_of_all site keys stream < 2 ^ 64
  fits = clock_fits wide wide_lawful (site_of site) (east site) (roomy (length keys)) done stream

  sound : Sound (rows_of_all site keys stream all)
  sound = rows_sound wide wide_lawful (site_of site) (east site) (roomy (length keys)) done stream (chosen all) end_of_keys

  many : length (rows_of_all site keys stream all) < 2 ^ 64
  many = few_keys (length (rows_of_all site keys stream all)) (most_held (chosen all) (rules-view.view wide (single site keys stream)) end_of_keys)

  text_of_lem : (k : ℕ) → k < n → texts k ≡ listed (clock_of_all site keys stream) (rows_for which k (rows_of_all site keys stream all)) (bad k)
  text_of_lem k h = fleet_prints which k site stream keys p.among (p.tables k h) (bad k) all (texts k) (p.printed k h)

pub merged_is_one : MergedIsOne
merged_is_one which n site stream keys all bad texts p =
    merged_all which n (clock_of_all site keys stream) (rows_of_all site keys stream all) bad texts (fits which n site stream keys all bad texts p) (sound which n site stream keys all bad texts p)
    (rising_all site stream keys all) (many which n site stream keys all bad texts p) p.few (text_of_lem which n site stream keys all bad texts p) p.inside

pub none_refused : NoneRefused
none_refused which n site stream keys all bad texts p =
    next_taken which n (clock_of_all site keys stream) (rows_of_all site keys stream all) bad texts (fits which n site stream keys all bad texts p) (sound which n site stream keys all bad texts p)
    (rising_all site stream keys all) (many which n site stream keys all bad texts p) p.few (text_of_lem which n site stream keys all bad texts p)
