-- Two tables of 58 latitudes rise strictly, each by one test that antt computes: that of RULES 7.4, and the code's, which is the same in another unit, rounded down.
-- So a search by halves finds the first entry not below: where one entry is below a latitude, all before it are, and the search may go on behind it.
-- And both searches find the same: a whole number is at most a fraction just where it is at most the fraction rounded down.
-- Assumes nothing.
use mathlib.Core.Path.{◌≡◌, refl, sym, ap, ap₂, subst, ◌∙◌}
use mathlib.Core.Bool.{Bool, true, false, cond, ◌&&◌}
use mathlib.Core.List.{List, [], ◌∷◌, map}
use mathlib.Core.Logic.{◌↔◌, ◌⊎◌, inl, inr, ⊎_elim}
use Prim.Native.Nat.{ℕ, zero, suc, ◌+◌, ◌-◌, ◌*◌, ◌≤◌, ◌<◌, suc-le-suc}
use native.Mathlib.Nat.{not-suc-le-zero, le_of_suc-le-suc, mul-le-mul_right, mul-lt-mul_of_pos_right, le-div_iff_mul-le, div-lt_iff_lt-mul}
use native.Mathlib.Omega.{arith}
use lib.Dec.{T, leb, ltb, ltb→lt, lit<}
use lib.IntN.{ℤ, nat_abs}
use lib.ListN.{length, get_or, drop, drop_of_length-le}
use lib.Seq.{drop-cons}
use borrow.Author.Tests.{le-leb, lt-leb}
use Rattle.std.proofs.Common.{Result, Ok, Err}
use Rattle.std.specs.Ordering.{nat_cmp}
use Rattle.std.specs.List.Sorted.{IsBinarySearchResult, IsNonDecreasingBy}
use Rattle.std.proofs.lemmas.List.Sorted.{searched, IsNonDecreasingBy-from_all_adjacent}
use Rattle.positions.specs.declared.Turn.{Turn}
use Rattle.positions.specs.declared.Turn.TheVariants.{Airborne, Surface}
use Rattle.positions.specs.declared.Format.{Format}
use Rattle.positions.specs.declared.Format.TheVariants.{Even, Odd}
use Rattle.positions.specs.Code.{fine, edge, edges, Zoned, Polar}
use Rattle.positions.specs.Positions.{latitude_zones, all_round}
use Rattle.positions.specs.Zones.{latitudes, first, zone_count, Rising}
use Rattle.positions.proofs.Shift.{order}

-- ---- rising

-- each entry is below the next
above : ℕ → List ℕ → Bool
above x [] = true
above x (y ∷ ys) = ltb x y

rising : List ℕ → Bool
rising [] = true
rising (x ∷ xs) = above x xs && rising xs

first_of : (a b : Bool) → T (a && b) → T a
first_of true b t = tt
first_of false b t = t

second_of : (a b : Bool) → T (a && b) → T b
second_of true b t = t
second_of false b t = absurd t

rises : (d : ℕ) (xs : List ℕ) → T (rising xs) → (i : ℕ) → suc i < length xs → get_or xs i d < get_or xs (suc i) d
unfolding rising above
rises d [] t i h = absurd (not-suc-le-zero h)
rises d (x ∷ []) t i h = absurd (not-suc-le-zero (le_of_suc-le-suc h))
rises d (x ∷ y ∷ ys) t zero h = ltb→lt x y (first_of (ltb x y) (rising (y ∷ ys)) t)
rises d (x ∷ y ∷ ys) t (suc i) h = rises d (y ∷ ys) (second_of (ltb x y) (rising (y ∷ ys)) t) i (le_of_suc-le-suc h)

-- that of RULES 7.4: the one test is `tt`
pub latitudes_rise : Rising latitudes
unfolding latitudes rising above
latitudes_rise = record { long = refl; rise = λ i h. rises 0 latitudes tt i (suc-le-suc h) }

-- the code's
pub edges_rise : Rising edges
unfolding edges latitudes rising above
edges_rise = record { long = refl; rise = λ i h. rises 0 edges tt i (suc-le-suc h) }

-- ---- the search, in any table that rises

module _ (es : List ℕ) (x d : ℕ) where
  -- what is left to search once i entries are passed
  abbrev pub left : ℕ → ℕ
  left i = first (59 - i) (drop i es) x d

  module _ (r : Rising es) where
    cons : (i : ℕ) → i < 58 → drop i es ≡ get_or es i 0 ∷ drop (suc i) es
    cons i h = drop-cons es i 0 (omega (arith, r.long))

    one_on : (i : ℕ) → i < 58 → get_or es i 0 * d < x → left i ≡ left (suc i)
    unfolding first
    one_on i h l = rw (cons i h, lt-leb x (get_or es i 0 * d) l) (ap (λ (n : ℕ). first n (drop (suc i) es) x d) {x = 59 - i - 1} {y = 59 - suc i} (omega arith))

    -- entry m is below: go on behind it
    pub passed : (i m : ℕ) → i ≤ m → m < 58 → get_or es m 0 * d < x → left i ≡ left (suc m)
    passed i zero g h l = ap left {x = i} {y = 0} (omega arith) ∙ one_on 0 h l
    passed i (suc m) g h l =
        ⊎_elim
        (λ (e : suc m ≤ i). ap left {x = i} {y = suc m} (omega arith) ∙ one_on (suc m) h l)
        (λ (e : i < suc m).
        let s : get_or es m 0 * d ≤ get_or es (suc m) 0 * d = mul-le-mul_right d (omega (arith, r.rise m (omega arith))) in
        passed i m (omega arith) (omega arith) (omega arith) ∙ one_on (suc m) h l)
        (order i (suc m))

    here : (i : ℕ) → i < 58 → x ≤ get_or es i 0 * d → left i ≡ 59 - i
    unfolding first
    here i e h = rw (cons i e, le-leb x (get_or es i 0 * d) h)

    none : left 58 ≡ 1
    unfolding first
    none = ap (λ (l : List ℕ). first 1 l x d) (drop_of_length-le es {i = 58} (omega (arith, r.long)))

    -- entry i is the first not below, or there is none
    pub reached : (i : ℕ) → i ≤ 58 → (i < 58 → x ≤ get_or es i 0 * d) → left i ≡ 59 - i
    reached i g h =
        ⊎_elim
        (λ (e : 58 ≤ i). ap left {x = i} {y = 58} (omega arith) ∙ none ∙ omega arith)
        (λ (e : i < 58). here i e (h e))
        (order i 58)

-- ---- the search in the code's table, by the library's binary search

edges_climb : IsNonDecreasingBy (λ (y : ℕ). y) edges
unfolding edges latitudes rising above
edges_climb = IsNonDecreasingBy-from_all_adjacent (λ (y : ℕ). y) edges (λ k d l. omega (arith, rises d edges tt k (omega arith), ap (λ j. get_or edges j d) {x = k + 1} {y = suc k} (omega arith)))

-- entry i is the first that is not below x
first_at : (x i : ℕ) → i ≤ 58 → ((k : ℕ) → suc k ≡ i → get_or edges k 0 < x) → (i < 58 → x ≤ get_or edges i 0) → first 59 edges x 1 ≡ 59 - i
first_at x zero g b h = reached edges x 1 edges_rise 0 g (λ l. omega (arith, h l))
first_at x (suc m) g b h =
    passed edges x 1 edges_rise 0 m (omega arith) (omega arith) (omega (arith, b m refl)) ∙ reached edges x 1 edges_rise (suc m) g (λ l. omega (arith, h l))

first_found : (x i : ℕ) (r : Result ℕ ℕ) → IsBinarySearchResult (λ y. nat_cmp y x) edges r → (r ≡ Ok i) ⊎ (r ≡ Err i) → (i ≤ 58) × (first 59 edges x 1 ≡ 59 - i)
first_found x i r h (inl e) =
    let s = searched edges x (Ok i) (subst (IsBinarySearchResult (λ y. nat_cmp y x) edges) e h) (λ i j. edges_climb i j 0) in (
      omega (arith, s.0, edges_rise.long),
      first_at x i (omega (arith, s.0, edges_rise.long)) (λ k q. omega (arith, edges_rise.rise k (omega (arith, s.0, edges_rise.long)), ap (λ j. get_or edges j 0) q, s.1)) (λ l. omega (arith, s.1)),
    )
first_found x i r h (inr e) =
    let s = searched edges x (Err i) (subst (IsBinarySearchResult (λ y. nat_cmp y x) edges) e h) (λ i j. edges_climb i j 0) in (
      omega (arith, s.0, edges_rise.long),
      first_at x i (omega (arith, s.0, edges_rise.long)) (λ k q. s.1 k (omega arith)) (λ l. omega (arith, s.2 i (omega arith) (omega (arith, edges_rise.long)))),
    )

-- the place of x, be it an entry or not, is the number of entries below it
pub search_is : (x i : ℕ) (es : List ℕ) (r : Result ℕ ℕ) → es ≡ edges → IsBinarySearchResult (λ y. nat_cmp y x) es r → (r ≡ Ok i) ⊎ (r ≡ Err i)
    → (59 - i ≡ first 59 edges x 1) × ((0 < 59 - i) × (59 - i ≤ 59))
search_is x i es r t h w =
    let s = first_found x i r (subst (λ (l : List ℕ). IsBinarySearchResult (λ y. nat_cmp y x) l r) t h) w in
    (sym s.1, (omega (arith, s.0), omega arith))

-- there is always a zone, and never more than 59
first_range : (n : ℕ) (es : List ℕ) (a d : ℕ) → length es < n → (0 < first n es a d) × (first n es a d ≤ n)
unfolding first
first_range n [] a d h = (omega arith, omega arith)
first_range n (e ∷ es) a d h = by (leb a (e * d)) (first_range (n - 1) es a d (omega arith))
  where
    by : (t : Bool) → (0 < first (n - 1) es a d) × (first (n - 1) es a d ≤ n - 1) → (0 < cond t n (first (n - 1) es a d)) × (cond t n (first (n - 1) es a d) ≤ n)
    by true r = (omega arith, omega arith)
    by false r = (omega arith, omega arith)

pub zones_range : (M : ℕ) (r : ℤ) → (0 < zone_count M r) × (zone_count M r ≤ 59)
unfolding zone_count latitudes
zones_range M r = first_range 59 latitudes (nat_abs r * 36000000000) M (lit< tt)

-- ---- the code's table for that of RULES 7.4

-- k units of the code are at most e of 10^-8 degree just where k is at most the code's entry for e, for all k and e
pub same_comparison : (k e : ℕ) → k ≤ edge e ↔ k * 36000000000 ≤ e * fine
same_comparison k e = le-div_iff_mul-le (lit< tt)

-- where f of the code's units make one of M, which make 360 degrees: whatever the zones and the count size
module _ (M f : ℕ) (some : 0 < f) (all : M * f ≡ fine) where
  same_test : (a e : ℕ) → leb (a * 36000000000) (e * M) ≡ leb (a * f) (edge e * 1)
  same_test a e =
      let over : e * (M * f) ≡ e * fine = ap (λ (x : ℕ). e * x) all in
      ⊎_elim
      (λ (h : a * 36000000000 ≤ e * M).
      le-leb (a * 36000000000) (e * M) h
      ∙ sym (le-leb (a * f) (edge e * 1) (omega (arith, (same_comparison (a * f) e).1 (omega (arith, mul-le-mul_right f h))))))
      (λ (h : e * M < a * 36000000000).
      lt-leb (a * 36000000000) (e * M) h
      ∙ sym (lt-leb (a * f) (edge e * 1) (omega (arith, (div-lt_iff_lt-mul {k = 36000000000} {x = e * fine} {y = a * f} (lit< tt)).1 (omega (arith, mul-lt-mul_of_pos_right h some))))))
      (order (e * M) (a * 36000000000))

  same_search : (n : ℕ) (es : List ℕ) (a : ℕ) → first n es (a * 36000000000) M ≡ first n (map edge es) (a * f) 1
  unfolding first
  same_search n [] a = refl
  same_search n (e ∷ es) a = ap₂ (λ (t : Bool) (x : ℕ). cond t n x) (same_test a e) (same_search (n - 1) es a)

  -- the search over the code's table is the zone count: 87 degrees exactly is an entry of both
  pub zone_count_is : (r : ℤ) → zone_count M r ≡ first 59 edges (nat_abs r * f) 1
  unfolding zone_count edges
  zone_count_is r = same_search 59 latitudes (nat_abs r)

-- ---- the latitudes that are compared

-- n zones of u units each
module _ (n u : ℕ) (all : n * u ≡ 14160) where
  pub some_units : 0 < u
  some_units = by u all
    where
      by : (v : ℕ) → n * v ≡ 14160 → 0 < v
      by zero e = omega arith
      by (suc v) e = omega arith

  pub all_units : n * 131072 * u ≡ fine
  all_units = omega arith

  -- from pole to pole they have 32 bits
  pub units_fit : (up : ℕ) → Polar (n * 131072) up → ((up - n * 131072) + (n * 131072 - up)) * u ≤ 463994880
  units_fit up p =
      let x : ℕ = (up - n * 131072) + (n * 131072 - up) in
      let h : 4 * x ≤ n * 131072 = omega (arith, p.south, p.north) in
      omega (arith, mul-le-mul_right u h)

pub zoned_most : (n : ℕ) → Zoned n → n ≤ 240
zoned_most n (inl e) = omega arith
zoned_most n (inr (inl e)) = omega arith
zoned_most n (inr (inr (inl e))) = omega arith
zoned_most n (inr (inr (inr e))) = omega arith

pub zoned : (k : Turn) (f : Format) → Zoned (all_round k (latitude_zones f))
unfolding all_round
zoned Airborne Even = inl refl
zoned Airborne Odd = inr (inl refl)
zoned Surface Even = inr (inr (inl refl))
zoned Surface Odd = inr (inr (inr refl))
