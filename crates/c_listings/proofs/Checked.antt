-- A check, of the calls from C: the number that is written is yes or a line, and tells which, since no line has the number 0. Our own listing is what is printed of a table of 256 places that was fed with the capture. If two
-- lines were at fault, each would be the first, so that they are one.
-- Assumes nothing.
use Rattle.std.specs.Prelude.{Result, Ok, Err, Option, Some, None, ⊤}
use Prim.Native.Nat.{ℕ, zero, suc, ◌+◌, ◌^◌, ◌<◌}
use mathlib.Core.Bool.{true, cond, not}
use mathlib.Core.Path.{◌≡◌, refl, ap, ap₂, sym, ◌∙◌, subst}
use mathlib.Core.Logic.{◌⊎◌, inl, inr, ⊎_elim, ◌↔◌}
use mathlib.Core.List.{List, [], ◌∷◌, ◌++◌}
use native.Mathlib.Omega.{arith}
use borrow.Author.Tests.{eq-eqb, eqb-true, not-false}
use lib.Dec.{eqb}
use lib.ListN.{length, take, drop, replicate, length-replicate}
use Rattle.refusals.specs.declared.Refusal.{Refusal}
use Rattle.refusals.specs.declared.Refusal.TheVariants.{Log, Form}
use Rattle.refusals.specs.Numbers.{number_of}
use Rattle.refusals.proofs.Unique.{none_shared}
use Rattle.fields.proofs.Bools.{by_test}
use Rattle.capture.specs.Block.{good}
use Rattle.entries.specs.Arrays.{filled}
use Rattle.entries.specs.Sent.{Sent, sent, given, into}
use Rattle.memory.specs.Offsets.{table_size}
use Rattle.whereabouts.specs.Located.{no_site}
use Rattle.text.specs.declared.Row.{Row}
use Rattle.text.specs.Lines.{newline}
use Rattle.rules.specs.Rules as rules
use Rattle.rules.proofs.Laws.{not_done}
use Rattle.table_bytes.specs.Layout.{emptied}
use Rattle.table.specs.Bytes.{bytes}
use Rattle.table.specs.Table.{After, after}
use Rattle.feed.specs.Feed.{blocks_in, block_at, block_into, blocks_into, bad_in, counted, fed_block}
use Rattle.feed.proofs.Answers.{block_bad}
use Rattle.feed.proofs.Ways.{counted_all}
use Rattle.report.specs.Listing.{listing}
use Rattle.compare.specs.Compared.{table_of, zeros, ours, our_rows, checked}
use Rattle.compare.specs.Right.{AllAgree, both_none, both_one, Broken, other_line, missing_line, surplus_line, First, Faulty, header_faulty, row_faulty}
use Rattle.compare.proofs.Laws.{yes_exactly, fault_first, fourteen_exactly, sixteen_exactly, only_these, bad_most, own_listing_yes}
use Rattle.addercoil.specs.Blocks.{Both, both, fed_said, fed_into}
use Rattle.addercoil.proofs.Laws.{some_number}
use Rattle.arbiter.specs.Checks.{check_said}
use Rattle.c_promises.proofs.Isolated.{begun, begun_table}
use Rattle.c_listings.specs.Calls.{FeedBlock, Check}
use Rattle.c_listings.specs.Checks.{Fed, Fed.none_fed, Fed.one_fed, OurListing, OwnYes, YesExactly, FaultFirst, FourteenThenSixteen, YesOrALine}
use Rattle.c_listings.proofs.Printed.{prints_listing}

-- ---- each call did what the definition says

pub check_is : {capture listing out : List ℕ} {back : Sent} → Check capture listing out back → back ≡ into 1 out (check_said (checked capture listing))
check_is {capture} {listing} {out} {back} b =
    ap (sent back.number) (sym b.leaves)
    ∙ b.meets
    ∙ ap₂ (λ (c : List ℕ) (l : List ℕ). into 1 b.args.1.1.0.now (check_said (checked c l))) b.of b.brings
    ∙ ap (λ (o : List ℕ). into 1 o (check_said (checked capture listing))) b.into

abbrev pub block_sent : List ℕ → List ℕ → ℕ → List ℕ → Both
block_sent table block bad out = cond (not (eqb (length out) 1)) (both (sent 1 out) table) (fed_into out (fed_block table block bad))

pub feed_block_is : {table block : List ℕ} {bad : ℕ} {out : List ℕ} {back : Both} → FeedBlock table block bad out back → back ≡ block_sent table block bad out
feed_block_is {table} {block} {bad} {out} {back} b =
    ap₂ (λ (l : List ℕ) (t : List ℕ). both (sent back.sent.number l) t) (sym b.leaves) (sym b.leaves_table)
    ∙ b.meets
    ∙ ap₂ (λ (s : List ℕ) (x : List ℕ). block_sent s x b.args.1.1.0 b.args.1.1.1.0.now) b.lent b.brings
    ∙ ap₂ (λ (n : ℕ) (o : List ℕ). block_sent table block n o) b.counted b.into

-- ---- the blocks of a capture

module _ (table block : List ℕ) (bad bad' : ℕ) (out : List ℕ) where
  -- a block that was taken: the count is that of one block more, and the table has its records
  abbrev Taken : Both → Type 0
  Taken x = x.sent ≡ sent 0 (bad' ∷ []) → (bad' ≡ counted bad (good block)) × (x.table ≡ block_into table block)

  by_fed : length out ≡ 1 → (a : Result ℕ Refusal) {l : List ℕ} → after a l ≡ fed_block table block bad → Taken (both (given out (fed_said a)) l)
  by_fed h (Ok n) {l} e t =
      let z : n ∷ [] ≡ bad' ∷ [] = sym (ap (λ (k : ℕ). filled k (n ∷ [])) h) ∙ ap (λ (x : Sent). x.array) t in
      let same : bad' ≡ n = cc in
      let p = block_bad table block bad n e in
      (same ∙ p.1, p.2)
  by_fed h (Err r) e t = absurd (some_number r (ap (λ (x : Sent). x.number) t))

  taken : Taken (block_sent table block bad out)
  unfolding fed_into
  taken =
      by_test Taken (not (eqb (length out) 1)) _ _
      (λ _ t. absurd (let z : ◌≡◌ {A = ℕ} 1 0 = ap (λ (x : Sent). x.number) t in let u : ⊥ = omega arith in u))
      (λ t. by_fed (eqb-true (length out) 1 (not-false _ t)) (fed_block table block bad).answer refl)

module _ (table capture : List ℕ) where
  abbrev AsFed : ℕ → List ℕ → ℕ → Type 0
  AsFed k s n = (s ≡ blocks_into table capture k) × (n ≡ bad_in capture k)

  fed_is : {k bad : ℕ} {s : List ℕ} → k < 2 ^ 64 → Fed table capture k s bad → AsFed k s bad
  fed_is h none_fed = (refl, refl)
  fed_is h (one_fed {blocks = k} {bad = bad} {bad' = bad'} {before = before} {out = out} {back = back} more b e) =
      let p = fed_is (omega arith) more in
      let x = feed_block_is b in
      let t = taken before (block_at capture k) bad bad' out (sym (ap (λ (y : Both). y.sent) x) ∙ e) in (
        ap (λ (y : Both). y.table) x ∙ t.1 ∙ ap (λ (y : List ℕ). block_into y (block_at capture k)) p.0,
        t.0
            ∙ ap (λ (n : ℕ). counted n (good (block_at capture k))) p.1
            ∙ sym (counted_all (bad_in capture k) (good (block_at capture k)) (omega (arith, bad_most capture (suc k)))),
      )

-- ---- our own listing

emptied_done : (s : List ℕ) → (rules.set_up bytes s no_site).answer ≡ Ok tt → (rules.set_up bytes s no_site).table ≡ emptied s
unfolding rules.set_up
emptied_done s =
    by_test (λ (x : After (Result ⊤ Refusal)). x.answer ≡ Ok tt → x.table ≡ emptied s) (not (bytes.whole s)) _ _
    (λ _ a. absurd (not_done a))
    (λ _ a. refl)

emptied_long : (s t : List ℕ) → length s ≡ length t → emptied s ≡ emptied t
unfolding emptied
emptied_long s t e = ap (λ (n : ℕ). replicate n 0) e

module _ (capture text : List ℕ) (size : length capture < 2 ^ 64) (x : OurListing capture text) where
  begins : x.back.array ≡ emptied zeros
  begins =
      begun_table None x.lent x.back x.begun x.done
      ∙ emptied_done x.lent (begun None x.lent x.back x.begun x.done)
      ∙ emptied_long x.lent zeros (x.long ∙ sym (length-replicate {A = ℕ} (table_size 256) 0))

  pub own_is_ours : text ≡ ours capture
  unfolding table_of
  own_is_ours =
      let p = fed_is x.back.array capture (omega arith) x.fed in
      prints_listing x.printed
      ∙ ap₂ (λ (s : List ℕ) (n : ℕ). listing true s n) (p.0 ∙ ap (λ (s : List ℕ). blocks_into s capture (blocks_in capture)) begins) p.1

-- ---- what is written

-- into an array of one entry
abbrev check_sent : List ℕ → Result (Option ℕ) Refusal → Sent
check_sent out (Ok None) = sent 0 (0 ∷ [])
check_sent out (Ok (Some line)) = sent 0 (line ∷ [])
check_sent out (Err r) = sent (number_of r) out

by_verdict : (out : List ℕ) → length out ≡ 1 → (x : Result (Option ℕ) Refusal) → given out (check_said x) ≡ check_sent out x
by_verdict out h (Ok None) = ap (λ (n : ℕ). sent 0 (filled n (0 ∷ []))) h
by_verdict out h (Ok (Some line)) = ap (λ (n : ℕ). sent 0 (filled n (line ∷ []))) h
by_verdict out h (Err r) = refl

check_sent_lem : (out : List ℕ) → length out ≡ 1 → (x : Result (Option ℕ) Refusal) → into 1 out (check_said x) ≡ check_sent out x
unfolding into
check_sent_lem out h x = rw (eq-eqb _ _ h) (by_verdict out h x)

-- a number that was written was written into one entry
one_entry : (out : List ℕ) (x : Result (Option ℕ) Refusal) → (into 1 out (check_said x)).number ≡ 0 → length out ≡ 1
unfolding into
one_entry out x =
    by_test (λ (y : Sent). y.number ≡ 0 → length out ≡ 1) (not (eqb (length out) 1)) _ _
    (λ _ z. absurd (let u : ⊥ = omega arith in u))
    (λ t _. eqb-true (length out) 1 (not-false _ t))

-- no line has the number 0
no_line_0 : {c l : List ℕ} {n : ℕ} → Faulty c l n → n ≡ 0 → ⊥
no_line_0 (header_faulty lines ne) z = let u : ⊥ = omega arith in u
no_line_0 (row_faulty lines e f) z = omega (arith, f.number)

module _ (capture text out : List ℕ) where
  -- the entry is n: yes, or the line n
  told : (n : ℕ) (x : Result (Option ℕ) Refusal) → checked capture text ≡ x → check_sent out x ≡ sent 0 (n ∷ []) → ((n ≡ 0) × (checked capture text ≡ Ok None)) ⊎ (checked capture text ≡ Ok (Some n))
  told n (Ok None) e t = let z : 0 ∷ [] ≡ n ∷ [] = ap (λ (y : Sent). y.array) t in inl (let q : n ≡ 0 = cc in q, e)
  told n (Ok (Some line)) e t = let z : line ∷ [] ≡ n ∷ [] = ap (λ (y : Sent). y.array) t in inr (e ∙ (let q : line ≡ n = cc in ap {B = Result (Option ℕ) Refusal} (λ (y : ℕ). Ok (Some y)) q))
  told n (Err r) e t = absurd (some_number r (ap (λ (y : Sent). y.number) t))

  -- the number is that of a refusal
  refused : (r : Refusal) (x : Result (Option ℕ) Refusal) → checked capture text ≡ x → check_sent out x ≡ sent (number_of r) out → checked capture text ≡ Err r
  refused r (Ok None) e t = absurd (some_number r (sym (ap (λ (y : Sent). y.number) t)))
  refused r (Ok (Some line)) e t = absurd (some_number r (sym (ap (λ (y : Sent). y.number) t)))
  refused r (Err q) e t = e ∙ ap Err (none_shared q r (ap (λ (y : Sent). y.number) t))

  module _ (h : length out ≡ 1) {back : Sent} (b : Check capture text out back) where
    back_is : back ≡ check_sent out (checked capture text)
    back_is = check_is b ∙ check_sent_lem out h (checked capture text)

    refused_exactly : (r : Refusal) → back ≡ sent (number_of r) out ↔ checked capture text ≡ Err r
    refused_exactly r = (λ e. refused r (checked capture text) refl (sym back_is ∙ e), λ e. back_is ∙ ap (check_sent out) e)

-- ---- one line at fault

-- what breaks is a line or a row, and what agrees is as many of both
abbrev SomeLine : List (List ℕ) → List Row → Type 0
SomeLine [] [] = ⊥
SomeLine [] (r ∷ rs) = Unit {0}
SomeLine (l ∷ ls) rs = Unit {0}

some_broken : {ls : List (List ℕ)} {rs : List Row} → Broken ls rs → SomeLine ls rs
some_broken (other_line ne) = tt
some_broken missing_line = tt
some_broken surplus_line = tt

none_agree : {rs : List Row} → AllAgree [] rs → (r : Row) (more : List Row) → rs ≡ r ∷ more → ⊥
none_agree both_none r more e = let z : ◌≡◌ {A = ℕ} 0 1 = cc in omega arith

no_lines : (n : ℕ) (rs : List Row) → AllAgree [] (take (suc n) rs) → Broken [] rs → ⊥
no_lines n [] a b = some_broken b
no_lines n (r ∷ rs) a b = none_agree a r (take n rs) refl

-- of the lines before a fault each agrees, so none of them is the first at fault
first_one : (p q : ℕ) (ls : List (List ℕ)) (rs : List Row) → AllAgree (take p ls) (take p rs) → Broken (drop p ls) (drop p rs) → AllAgree (take q ls) (take q rs) → Broken (drop q ls) (drop q rs) → p ≡ q
first_one zero zero ls rs a b c d = refl
first_one zero (suc q) [] rs a b c d = absurd (no_lines q rs c b)
first_one (suc p) zero [] rs a b c d = absurd (no_lines p rs a d)
first_one (suc p) (suc q) [] [] a b c d = absurd (some_broken b)
first_one (suc p) (suc q) [] (r ∷ rs) a b c d = absurd (none_agree a r (take p rs) refl)
first_one zero (suc q) (l ∷ ls) [] a b c d = elim c [ ]
first_one (suc p) zero (l ∷ ls) [] a b c d = elim a [ ]
first_one (suc p) (suc q) (l ∷ ls) [] a b c d = elim a [ ]
first_one zero (suc q) (l ∷ ls) (r ∷ rs) a (other_line ne) (both_one g more) d = absurd (ne g)
first_one (suc p) zero (l ∷ ls) (r ∷ rs) (both_one g more) b c (other_line ne) = absurd (ne g)
first_one (suc p) (suc q) (l ∷ ls) (r ∷ rs) (both_one g more) b (both_one k rest) d = ap suc (first_one p q ls rs more b rest d)

same_first : {h k : List ℕ} {ls ms : List (List ℕ)} → h ∷ ls ≡ k ∷ ms → (h ≡ k) × (ls ≡ ms)
same_first e = (cc, cc)

one_fault : {c l : List ℕ} {n m : ℕ} → Faulty c l n → Faulty c l m → m ≡ n
one_fault (header_faulty p ne) (header_faulty q ne') = refl
one_fault (header_faulty p ne) (row_faulty q e f) = absurd (ne (ap (λ (x : List ℕ). x ++ newline) (same_first (sym p ∙ q)).0 ∙ e))
one_fault (row_faulty p e f) (header_faulty q ne) = absurd (ne (ap (λ (x : List ℕ). x ++ newline) (same_first (sym q ∙ p)).0 ∙ e))
one_fault {c} (row_faulty {ls = ls} p e f) (row_faulty {n = m} q e' g) =
    let g' : First 2 m ls (our_rows c) = subst (λ (x : List (List ℕ)). First 2 m x (our_rows c)) (same_first (sym q ∙ p)).1 g in
    g'.number ∙ ap (λ (k : ℕ). 2 + k) (first_one g'.passed f.passed ls (our_rows c) g'.before g'.here f.before f.here) ∙ sym f.number

-- ---- the promises

pub own_yes : OwnYes
own_yes capture text size few x out back h b =
    check_is b ∙ check_sent_lem out h (checked capture text) ∙ ap (check_sent out) (ap (checked capture) (own_is_ours capture text size x) ∙ own_listing_yes capture size few)

pub yes_is_right : YesExactly
yes_is_right capture text out back h b = (
  λ e.
      (yes_exactly capture text).0
      (⊎_elim (λ p. p.1) (λ f. absurd (no_line_0 (fault_first capture text f) refl)) (told capture text out 0 (checked capture text) refl (sym (back_is capture text out h b) ∙ e))),
  λ p. back_is capture text out h b ∙ ap (check_sent out) ((yes_exactly capture text).1 p),
)

pub first_at_fault : FaultFirst
first_at_fault capture text out line some b =
    let e = check_is b in
    let h : length out ≡ 1 = one_entry out (checked capture text) (sym (ap (λ (y : Sent). y.number) e)) in
    let f : Faulty capture text line =
    fault_first capture text
    (⊎_elim (λ p. absurd (some p.0)) (λ x. x) (told capture text out line (checked capture text) refl (sym (back_is capture text out h b)))) in
    (f, λ other g. one_fault f g)

pub fourteen_sixteen : FourteenThenSixteen
fourteen_sixteen capture text out back h b =
    let p = refused_exactly capture text out h b Log in
    let q = refused_exactly capture text out h b Form in (
      (λ e. (fourteen_exactly capture text).0 (p.0 e), λ e. p.1 ((fourteen_exactly capture text).1 e)),
      (λ e. (sixteen_exactly capture text).0 (q.0 e), λ e. q.1 ((sixteen_exactly capture text).1 e)),
    )

-- what is no refusal is one number
one_number : (out : List ℕ) (x : Result (Option ℕ) Refusal) → ((r : Refusal) → x ≡ Err r → ⊥) → (line : ℕ) × (check_sent out x ≡ sent 0 (line ∷ []))
one_number out (Ok None) never = (0, refl)
one_number out (Ok (Some line)) never = (line, refl)
one_number out (Err r) never = absurd (never r refl)

pub yes_or_a_line : YesOrALine
yes_or_a_line capture text out back h b few fits =
    let p =
    one_number out (checked capture text)
    (λ (r : Refusal) (e : checked capture text ≡ Err r).
    ⊎_elim
    (λ l. let m = (fourteen_exactly capture text).0 (e ∙ ap Err l) in let u : ⊥ = omega arith in u)
    (λ f. let m = ((sixteen_exactly capture text).0 (e ∙ ap Err f)).1 in let z : ◌≡◌ {A = ℕ} 0 1 = cc in let u : ⊥ = omega arith in u)
    (only_these capture text e)) in
    (p.0, back_is capture text out h b ∙ p.1)
