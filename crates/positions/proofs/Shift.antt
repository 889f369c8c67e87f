-- A whole number as a difference of naturals, sub_ℕ a b: what each operation on it does to a and b, by which of the two is larger.
-- So every fact about a number below zero is proved as one about naturals.
-- Assumes nothing.
use mathlib.Core.Path.{◌≡◌, refl, sym, ap, ◌∙◌}
use mathlib.Core.Logic.{◌⊎◌, inl, inr, ⊎_elim}
use Prim.Native.Nat.{ℕ, zero, suc, ◌+◌, ◌-◌, ◌*◌, ◌/◌, ◌%◌, ◌≤◌, ◌<◌, zero-le, suc-le-suc}
use native.Mathlib.Nat.{add-mul-div_right, div-add-mod', mod-lt, div-eq_of_lt-le, mul-le-mul_right, mul_comm, mul-sub, div-lt_iff_lt-mul, add-mul-mod_self_right}
use native.Mathlib.Omega.{arith}
use lib.IntN.{ℤ, pos, negsuc, nat_abs, neg_ℤ, sub_ℕ, ◌+ℤ◌, ◌-ℤ◌, ◌*ℤ◌, *ℤ_comm}
use lib.Arith.{digits_mod}
use borrow.Author.Tests.{lt-ltb, le-ltb}
use Rattle.positions.specs.Whole.{floor, modulo, nearest}
use Rattle.positions.specs.Code.{nearestℕ}

-- by which of the two is larger
pub sub_pos : (a b : ℕ) → b ≤ a → sub_ℕ a b ≡ pos (a - b)
sub_pos a b h = simp (le-ltb a b h)

pub sub_neg : (a b : ℕ) → a < b → sub_ℕ a b ≡ negsuc (b - suc a)
sub_neg a b h = simp (lt-ltb a b h)

pub order : (a b : ℕ) → (b ≤ a) ⊎ (a < b)
order a zero = inl zero-le
order zero (suc b) = inr (suc-le-suc zero-le)
order (suc a) (suc b) = ⊎_elim (λ p. inl (suc-le-suc p)) (λ q. inr (suc-le-suc q)) (order a b)

-- a + c - (b + c) is a - b, put as an equation of sums
pub sub_eq : (a b c d : ℕ) → a + d ≡ c + b → sub_ℕ a b ≡ sub_ℕ c d
sub_eq a b c d e =
    ⊎_elim
    (λ (h : b ≤ a). sub_pos a b h ∙ ap pos {x = a - b} {y = c - d} (omega arith) ∙ sym (sub_pos c d (omega arith)))
    (λ (h : a < b). sub_neg a b h ∙ ap negsuc {x = b - suc a} {y = d - suc c} (omega arith) ∙ sym (sub_neg c d (omega arith)))
    (order a b)

-- a sum
pub sub_add : (a b c : ℕ) → sub_ℕ a b +ℤ pos c ≡ sub_ℕ (a + c) b
sub_add a b c =
    ⊎_elim
    (λ (h : b ≤ a). ap (λ (z : ℤ). z +ℤ pos c) (sub_pos a b h) ∙ ap pos {x = a - b + c} {y = a + c - b} (omega arith) ∙ sym (sub_pos (a + c) b (omega arith)))
    (λ (h : a < b). ap (λ (z : ℤ). z +ℤ pos c) (sub_neg a b h) ∙ sub_eq c (suc (b - suc a)) (a + c) b (omega arith))
    (order a b)

-- a difference of two naturals
pub pos_sub : (x y : ℕ) → pos x -ℤ pos y ≡ sub_ℕ x y
pos_sub x zero = ap pos {x = x + 0} {y = x - 0} (omega arith) ∙ sym (sub_pos x 0 (omega arith))
pos_sub x (suc y) = refl

-- a difference less a natural
pub sub_less : (a b c : ℕ) → sub_ℕ a b -ℤ pos c ≡ sub_ℕ a (b + c)
sub_less a b zero = sub_add a b 0 ∙ sub_eq (a + 0) b a (b + 0) (omega arith)
sub_less a b (suc c) =
    ⊎_elim
    (λ (h : b ≤ a). ap (λ (z : ℤ). z +ℤ negsuc c) (sub_pos a b h) ∙ sub_eq (a - b) (suc c) a (b + suc c) (omega arith))
    (λ (h : a < b).
    ap (λ (z : ℤ). z +ℤ negsuc c) (sub_neg a b h) ∙ ap negsuc {x = suc (b - suc a + c)} {y = b + suc c - suc a} (omega arith)
    ∙ sym (sub_neg a (b + suc c) (omega arith)))
    (order a b)

-- the difference of two differences
pub sub_minus : (a b c d : ℕ) → sub_ℕ a b -ℤ sub_ℕ c d ≡ sub_ℕ (a + d) (b + c)
sub_minus a b c d =
    ⊎_elim
    (λ (h : d ≤ c).
    ap (λ (z : ℤ). sub_ℕ a b -ℤ z) (sub_pos c d h) ∙ sub_less a b (c - d) ∙ sub_eq a (b + (c - d)) (a + d) (b + c) (omega arith))
    (λ (h : c < d).
    ap (λ (z : ℤ). sub_ℕ a b -ℤ z) (sub_neg c d h) ∙ sub_add a b (suc (d - suc c)) ∙ sub_eq (a + suc (d - suc c)) b (a + d) (b + c) (omega arith))
    (order c d)

neg_pos : (n : ℕ) → 0 < n → neg_ℤ (pos n) ≡ negsuc (n - 1)
neg_pos zero h = absurd (omega arith)
neg_pos (suc n) h = ap negsuc {x = n} {y = suc n - 1} (omega arith)

-- a multiple
pub sub_mul : (a b k : ℕ) → 0 < k → sub_ℕ a b *ℤ pos k ≡ sub_ℕ (a * k) (b * k)
sub_mul a b k p =
    ⊎_elim
    (λ (h : b ≤ a).
    let m : b * k ≤ a * k = mul-le-mul_right k h in
    ap (λ (z : ℤ). z *ℤ pos k) (sub_pos a b h) ∙ ap pos {x = (a - b) * k} {y = a * k - b * k} (sub_mul_nat a b k h) ∙ sym (sub_pos (a * k) (b * k) m))
    (λ (h : a < b).
    let m : suc a * k ≤ b * k = mul-le-mul_right k h in
    let e : suc (b - suc a) * k ≡ b * k - a * k = ap (λ (y : ℕ). y * k) {x = suc (b - suc a)} {y = b - a} (omega arith) ∙ sub_mul_nat b a k (omega arith) in
    ap (λ (z : ℤ). z *ℤ pos k) (sub_neg a b h) ∙ neg_pos (suc (b - suc a) * k) (omega arith)
    ∙ ap negsuc {x = suc (b - suc a) * k - 1} {y = b * k - suc (a * k)} (omega arith)
    ∙ sym (sub_neg (a * k) (b * k) (omega arith)))
    (order a b)
  where
    sub_mul_nat : (a b k : ℕ) → b ≤ a → (a - b) * k ≡ a * k - b * k
    sub_mul_nat a b k h = mul_comm (a - b) k ∙ mul-sub k a b ∙ ap (λ (y : ℕ). y - k * b) (mul_comm k a) ∙ ap (λ (y : ℕ). a * k - y) (mul_comm k b)

-- divided, rounded down: k whole divisors added to the number are k added to the quotient
pub sub_floor : (a k d : ℕ) → 0 < d → floor (sub_ℕ a (k * d)) d ≡ sub_ℕ (a / d) k
unfolding floor
sub_floor a k d p =
    ⊎_elim
    (λ (h : k * d ≤ a).
    let e : (a - k * d + k * d) / d ≡ (a - k * d) / d + k = add-mul-div_right (a - k * d) k p in
    let e' : a / d ≡ (a - k * d) / d + k = ap (λ (y : ℕ). y / d) {x = a} {y = a - k * d + k * d} (omega arith) ∙ e in
    ap (λ (z : ℤ). floor z d) (sub_pos a (k * d) h) ∙ ap pos {x = (a - k * d) / d} {y = a / d - k} (omega arith) ∙ sym (sub_pos (a / d) k (omega arith)))
    (λ (h : a < k * d).
    let q : a / d < k = (div-lt_iff_lt-mul p).1 h in
    let s : a / d * d + a % d ≡ a = div-add-mod' a d in
    let m : a % d < d = mod-lt a p in
    let kd : (suc (a / d) + (k - suc (a / d))) * d ≡ k * d = ap (λ (y : ℕ). y * d) {x = suc (a / d) + (k - suc (a / d))} {y = k} (omega arith) in
    let l : (k - suc (a / d)) * d ≤ k * d - suc a = omega arith in
    let u : k * d - suc a < (k - suc (a / d) + 1) * d = omega arith in
    ap (λ (z : ℤ). floor z d) (sub_neg a (k * d) h) ∙ ap negsuc {x = (k * d - suc a) / d} {y = k - suc (a / d)} (div-eq_of_lt-le d l u) ∙ sym (sub_neg (a / d) k q))
    (order a (k * d))

-- its remainder is below the divisor
pub modulo_lt : (z : ℤ) (d : ℕ) → 0 < d → modulo z d < d
unfolding modulo
modulo_lt (pos a) d p = mod-lt a p
modulo_lt (negsuc a) d p = omega arith

-- and whole divisors added change nothing
pub sub_modulo : (a k d : ℕ) → 0 < d → modulo (sub_ℕ a (k * d)) d ≡ a % d
unfolding modulo
sub_modulo a k d p =
    ⊎_elim
    (λ (h : k * d ≤ a).
    ap (λ (z : ℤ). modulo z d) (sub_pos a (k * d) h) ∙ sym (add-mul-mod_self_right (a - k * d) k d) ∙ ap (λ (y : ℕ). y % d) {x = a - k * d + k * d} {y = a} (omega arith))
    (λ (h : a < k * d).
    let q : a / d < k = (div-lt_iff_lt-mul p).1 h in
    let s : a / d * d + a % d ≡ a = div-add-mod' a d in
    let m : a % d < d = mod-lt a p in
    let kd : (suc (a / d) + (k - suc (a / d))) * d ≡ k * d = ap (λ (y : ℕ). y * d) {x = suc (a / d) + (k - suc (a / d))} {y = k} (omega arith) in
    let e : k * d - suc a ≡ (k - suc (a / d)) * d + (d - suc (a % d)) = omega arith in
    let f : (k * d - suc a) % d ≡ d - suc (a % d) = ap (λ (y : ℕ). y % d) e ∙ digits_mod (k - suc (a / d)) (omega arith) in
    ap (λ (z : ℤ). modulo z d) (sub_neg a (k * d) h) ∙ ap (λ (y : ℕ). d - suc y) f ∙ omega arith)
    (order a (k * d))

-- to nearest
pub sub_nearest : (a k d : ℕ) → 0 < d → nearest (sub_ℕ a (k * d)) d ≡ sub_ℕ (nearestℕ a d) k
unfolding nearest nearestℕ
sub_nearest a k d p =
    ap (λ (z : ℤ). floor (z +ℤ pos d) (2 * d)) (*ℤ_comm (pos 2) (sub_ℕ a (k * d)) ∙ sub_mul a (k * d) 2 (omega arith))
    ∙ ap (λ (z : ℤ). floor z (2 * d)) (sub_add (a * 2) (k * d * 2) d ∙ sub_eq (a * 2 + d) (k * d * 2) (2 * a + d) (k * (2 * d)) (omega arith))
    ∙ sub_floor (2 * a + d) k (2 * d) (omega arith)

-- how far it is from the equator
pub abs_north : (r M : ℕ) → M ≤ r → nat_abs (sub_ℕ r M) ≡ r - M
abs_north r M h = rw (sub_pos r M h)

pub abs_south : (r M : ℕ) → r < M → nat_abs (sub_ℕ r M) ≡ M - r
abs_south r M h = rw (sub_neg r M h) (omega arith)

pub abs_is : (r M : ℕ) → nat_abs (sub_ℕ r M) ≡ (r - M) + (M - r)
abs_is r M = ⊎_elim (λ (h : M ≤ r). abs_north r M h ∙ omega arith) (λ (h : r < M). abs_south r M h ∙ omega arith) (order r M)

-- any whole number, as a difference from any m that is large enough
abbrev pub lifted : ℤ → ℕ → ℕ
lifted (pos a) m = a + m
lifted (negsuc a) m = m - suc a

pub lifted_is : (z : ℤ) (m : ℕ) → nat_abs z ≤ m → sub_ℕ (lifted z m) m ≡ z
lifted_is (pos a) m h = sub_pos (a + m) m (omega arith) ∙ ap pos {x = a + m - m} {y = a} (omega arith)
lifted_is (negsuc a) m h = sub_neg (m - suc a) m (omega arith) ∙ ap negsuc {x = m - suc (m - suc a)} {y = a} (omega arith)

pub lifted_least : (z : ℤ) (m n : ℕ) → nat_abs z + n ≤ m → n ≤ lifted z m
lifted_least (pos a) m n h = omega arith
lifted_least (negsuc a) m n h = omega arith
