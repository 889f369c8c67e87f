-- What the count of 360s says of the number, on either side of zero; and which doubles have a pattern.
-- Assumes nothing.
use Rattle.std.proofs.Common.{◌≡◌, ℕ, suc, ◌-◌, ◌<◌, ◌≤◌, true, false, not, T, ℤ, pos, negsuc, nat_abs, sym, ap, ◌∙◌, true≢false, arith}
use mathlib.Core.Bool.{false≢true}
use lib.Signed.{mag, nat_abs-le}
use lib.Ieee.{Float, nan, inf, fin, binary64, mul, neg, lt, is_nan}
use Rattle.degrees.specs.Value.{under, Exactly, degrees_of}
use Rattle.degrees.specs.Code.{whole_of, Counted}
use Rattle.degrees.proofs.Return.{times_turn, neg_whole, side_pos, side_neg}

abbrev pub turns : Float → Float
turns x = mul binary64 x (fin false 1 (pos 32))

turned_is : (x : Float) (n : ℤ) → mag n < 2147483648 → x ≡ degrees_of n → turns x ≡ whole_of (under n) (nat_abs n)
turned_is x n h e = ap turns e ∙ times_turn n (nat_abs-le n h)

abbrev zero_f : Float
zero_f = fin false 0 (pos 0)

pub south : (x : Float) (k : ℕ) → lt (turns x) zero_f ≡ true → Counted (neg (turns x)) k → (n : ℤ) → mag n < 2147483648 → x ≡ degrees_of n
    → (n ≡ negsuc (k - 1)) × (0 < k) × (k ≤ 2147483648)
south x k t c (pos a) h e =
    absurd (true≢false (sym t ∙ ap (λ (y : Float). lt y zero_f) (turned_is x (pos a) h e) ∙ side_pos a (nat_abs-le (pos a) h)))
south x k t c (negsuc a) h e =
    let q : k ≡ suc a = c (suc a) h (ap neg (turned_is x (negsuc a) h e) ∙ neg_whole (suc a) h) in
    (ap negsuc {x = a} {y = k - 1} (omega arith), omega arith, omega arith)

pub north : (x : Float) (k : ℕ) → lt (turns x) zero_f ≡ false → Counted (turns x) k → (n : ℤ) → mag n < 2147483648 → x ≡ degrees_of n
    → (n ≡ pos k) × (k < 2147483648)
north x k t c (pos a) h e =
    let q : k ≡ a = c a (nat_abs-le (pos a) h) (turned_is x (pos a) h e) in
    (ap pos (sym q), omega arith)
north x k t c (negsuc a) h e =
    absurd (false≢true (sym t ∙ ap (λ (y : Float). lt y zero_f) (turned_is x (negsuc a) h e) ∙ side_neg (suc a) (omega arith) h))

pub valued : (x : Float) (n : ℤ) → Exactly x n → T (not (is_nan x))
unfolding is_nan
valued nan n v = absurd v
valued (inf s) n v = tt
valued (fin s m e) n v = tt
