-- What the contracts promise in the rules' terms: whatever meets the contract of `encode` says 8 or the counts, and whatever meets that of `pair` or `single`
-- says 8, 9, 10 in that order or the spot. The tests of the definitions are the table's, each turned over; then by the cases of the tests.
-- Assumes nothing.
use Rattle.std.specs.Prelude.{Ok, Err}
use Prim.Native.Nat.{ℕ, ◌*◌, ◌≤◌, ◌<◌}
use mathlib.Core.Path.{◌≡◌, refl, sym, ap, ◌∙◌}
use mathlib.Core.Bool.{Bool, true, false, cond, not, ◌&&◌, ◌||◌}
use mathlib.Core.Logic.{⊎_elim}
use lib.Dec.{leb, ltb, eqb}
use contract.Lifetimes.{Lfts}
use denote.Triple.Clauses.{AtExit}
use borrow.Fn.Kinds.{Dens, res_t, ended_of}
use borrow.Author.Tests.{le-leb, lt-leb, lt-ltb, le-ltb}
use lib.IntN.{nat_abs}
use Rattle.refusals.specs.declared.Refusal.TheVariants.{Field, Latitude, Zones}
use Rattle.refusals.specs.Said.{number, gives}
use Rattle.positions.specs.declared.Spot.{Spot}
use Rattle.positions.specs.declared.Turn.{Turn}
use Rattle.positions.specs.declared.Format.{Format}
use Rattle.positions.specs.declared.Format.TheVariants.{Even, Odd}
use Rattle.positions.specs.declared.Size.{Size}
use Rattle.positions.specs.declared.Size.TheVariants.{Fine, Coarse}
use Rattle.positions.specs.declared.Counts.{Counts}
use Rattle.positions.specs.Positions.{count_size, latitude_zones, all_round, counts_of, pole_to_pole, encoded, inside, pair_latitude, pair_nl, pair_found, fit, paired, near, near_found, singly}
use Rattle.positions.specs.Said.{encoded_said, found_said, past_pole, too_high, encode_table, pair_table, single_table}
use Rattle.positions.proofs.Shift.{order}
use Rattle.positions.proofs.encode.Kinds as encode-kinds
use Rattle.positions.proofs.encode.Reads as encode
use Rattle.positions.proofs.pair.Kinds as pair-kinds
use Rattle.positions.proofs.pair.Reads as pair
use Rattle.positions.proofs.single.Kinds as single-kinds
use Rattle.positions.proofs.single.Reads as single

-- ---- the tests, turned over

not_above : (a b : ℕ) → leb a b ≡ not (ltb b a)
not_above a b =
    ⊎_elim
    (λ (h : a ≤ b). le-leb a b h ∙ sym (ap not (le-ltb b a h)))
    (λ (h : b < a). lt-leb a b h ∙ sym (ap not (lt-ltb b a h)))
    (order b a)

not_from : (a b : ℕ) → ltb a b ≡ not (leb b a)
not_from a b =
    ⊎_elim
    (λ (h : b ≤ a). le-ltb a b h ∙ sym (ap not (le-leb b a h)))
    (λ (h : a < b). lt-ltb a b h ∙ sym (ap not (lt-leb b a h)))
    (order a b)

neither : (a b : Bool) → not a && not b ≡ not (a || b)
neither true b = refl
neither false b = refl

poles : (s : Spot) → pole_to_pole s.latitude ≡ not (past_pole s)
poles s = not_above (nat_abs s.latitude) 1073741824

fits : (size : Size) (c : Counts) → fit (count_size size) c ≡ not (too_high size c)
fits Fine c = rw (not_from c.latitude.0 131072, not_from c.longitude.0 131072) (neither (ltb 131071 c.latitude.0) (ltb 131071 c.longitude.0))
fits Coarse c = rw (not_from c.latitude.0 4096, not_from c.longitude.0 4096) (neither (ltb 4095 c.latitude.0) (ltb 4095 c.longitude.0))

-- ---- each definition says what the table does

encode_says : (size : Size) (s : Spot) (k : Turn) (f : Format) → encoded_said (encoded (count_size size) s k f) ≡ encode_table size s k f
encode_says size s k f = ap (λ (t : Bool). encoded_said (cond t (Ok (counts_of (count_size size) s k f)) (Err Field))) (poles s) ∙ by_test (past_pole s) (counts_of (count_size size) s k f)
  where
    by_test : (t : Bool) (c : Counts) → encoded_said (cond (not t) (Ok c) (Err Field)) ≡ cond t (number 8) (gives c)
    by_test true c = refl
    by_test false c = refl

pair_says : (size : Size) (even odd : Counts) (later : Format) → found_said (paired (count_size size) even odd later) ≡ pair_table size even odd later
unfolding pair_found
pair_says size even odd later =
    let P = count_size size in
    let a = even.latitude.0 in
    let b = odd.latitude.0 in
    rw (fits size even, fits size odd)
    (by_tests (too_high size even) (too_high size odd) (inside (60 * P) (pair_latitude P Even a b)) (inside (59 * P) (pair_latitude P Odd a b)) (eqb (pair_nl P Even a b) (pair_nl P Odd a b)) _)
  where
    by_tests : (a b i j n : Bool) (s : Spot)
        → found_said (cond (not a && not b) (cond (i && j) (cond n (Ok s) (Err Zones)) (Err Latitude)) (Err Field))
        ≡ cond (a || b) (number 8) (cond (not i || not j) (number 9) (cond (not n) (number 10) (gives s)))
    by_tests true b i j n s = refl
    by_tests false true i j n s = refl
    by_tests false false false j n s = refl
    by_tests false false true false n s = refl
    by_tests false false true true false s = refl
    by_tests false false true true true s = refl

single_says : (size : Size) (reference : Spot) (c : Counts) (k : Turn) (f : Format) → found_said (singly (count_size size) reference c k f) ≡ single_table size reference c k f
unfolding near_found
single_says size reference c k f =
    let P = count_size size in
    let N = all_round k (latitude_zones f) in
    rw (fits size c, poles reference) (by_tests (too_high size c) (past_pole reference) (inside (N * P) (near P N reference.latitude c.latitude.0)) _)
  where
    by_tests : (a b i : Bool) (s : Spot)
        → found_said (cond (not a && not b) (cond i (Ok s) (Err Latitude)) (Err Field)) ≡ cond (a || b) (number 8) (cond (not i) (number 9) (gives s))
    by_tests true b i s = refl
    by_tests false true i s = refl
    by_tests false false false s = refl
    by_tests false false true s = refl

-- ---- and so does whatever meets the contract

pub encode_promised : (κs : Lfts 0) (args : Dens κs encode-kinds.ps) (x : (res_t encode-kinds.r κs).Denot)
    (left : AtExit (ended_of 0 encode-kinds.ps encode-kinds.r) κs) → encode.Post κs args x left
    → encoded_said x ≡ encode_table args.0 args.1.0 args.1.1.0 args.1.1.1.0
encode_promised κs args x left p = ap encoded_said p ∙ encode_says args.0 args.1.0 args.1.1.0 args.1.1.1.0

pub pair_promised : (κs : Lfts 0) (args : Dens κs pair-kinds.ps) (x : (res_t pair-kinds.r κs).Denot)
    (left : AtExit (ended_of 0 pair-kinds.ps pair-kinds.r) κs) → pair.Post κs args x left
    → found_said x ≡ pair_table args.0 args.1.0 args.1.1.0 args.1.1.1.0
pair_promised κs args x left p = ap found_said p ∙ pair_says args.0 args.1.0 args.1.1.0 args.1.1.1.0

pub single_promised : (κs : Lfts 0) (args : Dens κs single-kinds.ps) (x : (res_t single-kinds.r κs).Denot)
    (left : AtExit (ended_of 0 single-kinds.ps single-kinds.r) κs) → single.Post κs args x left
    → found_said x ≡ single_table args.0 args.1.0 args.1.1.0 args.1.1.1.0 args.1.1.1.1.0
single_promised κs args x left p = ap found_said p ∙ single_says args.0 args.1.0 args.1.1.0 args.1.1.1.0 args.1.1.1.1.0
