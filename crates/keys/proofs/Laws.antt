-- The laws of keys, once over the kind: a kind but C stands in the list at its number, and the keys of C are above all of these, so that a key's parts come back.
-- Assumes nothing.
use Prim.Native.Nat.{ℕ, zero, suc, ◌+◌, ◌*◌, ◌/◌, ◌%◌, ◌^◌, ◌≤◌, ◌<◌}
use native.Mathlib.Omega.{arith}
use mathlib.Core.Bool.{Bool, true, false, ◌&&◌, ◌||◌}
use mathlib.Core.Logic.{◌⊎◌, inl, inr, ⊎_elim}
use mathlib.Core.Path.{◌≡◌, refl, ap, sym, ◌∙◌}
use lib.Dec.{leb, ltb}
use lib.ListN.{length}
use borrow.Author.Tests.{le-leb, lt-leb, lt-ltb, leb-true, ltb-true}
use Rattle.fields.proofs.Bools.{each, both, either}
use Rattle.keys.specs.Keys.{kinds, number_of, kind_at, low24, low_kind, first_coarse, numbered, key_for, end_of_keys, is_key, flag_in, station_in, kind_in, address_in}
use Rattle.keys.specs.declared.Kind.{Kind}
use Rattle.keys.specs.declared.Kind.TheVariants.{I, O, T, M, N, C}

-- ---- the two ranges

-- the keys of I to N, and those of C
abbrev Fine : ℕ → Type 0
Fine key = (2 ^ 24 ≤ key) × (key < (length kinds + 1) * 2 ^ 24)

abbrev Coarse : ℕ → Type 0
Coarse key = (first_coarse ≤ key) × (key < end_of_keys)

or-true : (a : Bool) → a || true ≡ true
or-true true = refl
or-true false = refl

fine : (key : ℕ) → Fine key → is_key key ≡ true
fine key h = rw (both (le-leb (2 ^ 24) key h.0) (lt-ltb key ((length kinds + 1) * 2 ^ 24) h.1))

coarse : (key : ℕ) → Coarse key → is_key key ≡ true
coarse key h =
    rw (both (le-leb first_coarse key h.0) (lt-ltb key end_of_keys h.1))
    (or-true (leb (2 ^ 24) key && ltb key ((length kinds + 1) * 2 ^ 24)))

ranges : (key : ℕ) → is_key key ≡ true → Fine key ⊎ Coarse key
ranges key h =
    ⊎_elim
    (λ e.
    let b = each (leb (2 ^ 24) key) (ltb key ((length kinds + 1) * 2 ^ 24)) e in
    inl (leb-true (2 ^ 24) key b.0, ltb-true key ((length kinds + 1) * 2 ^ 24) b.1))
    (λ e.
    let b = each (leb first_coarse key) (ltb key end_of_keys) e in
    inr (leb-true first_coarse key b.0, ltb-true key end_of_keys b.1))
    (either (leb (2 ^ 24) key && ltb key ((length kinds + 1) * 2 ^ 24)) (leb first_coarse key && ltb key end_of_keys) h)

-- every key of a kind and an address is a key
pub key_range : (k : Kind) (a : ℕ) → is_key (key_for k a) ≡ true
key_range I a = fine (key_for I a) (omega arith, omega arith)
key_range O a = fine (key_for O a) (omega arith, omega arith)
key_range T a = fine (key_for T a) (omega arith, omega arith)
key_range M a = fine (key_for M a) (omega arith, omega arith)
key_range N a = fine (key_for N a) (omega arith, omega arith)
key_range (C f s) a = coarse (key_for (C f s) a) (omega arith, omega arith)

pub before_end : (key : ℕ) → is_key key ≡ true → key < end_of_keys
before_end key h = ⊎_elim (λ w. omega arith) (λ w. w.1) (ranges key h)

-- 0 is nobody's key
pub never_zero : (key : ℕ) → is_key key ≡ true → 0 < key
never_zero key h = ⊎_elim (λ w. omega arith) (λ w. omega arith) (ranges key h)

-- ---- a key's kind and address back

kind_above : (n a : ℕ) → n ≤ length kinds → kind_in (numbered n a) ≡ kind_at n
kind_above n a h =
    let e : (numbered n a) / 2 ^ 24 ≡ n = omega arith in
    rw (lt-leb first_coarse (numbered n a) (omega arith)) (ap kind_at e)

pub kind_back : (k : Kind) (a : ℕ) → kind_in (key_for k a) ≡ low_kind k
kind_back I a = kind_above 1 a (omega arith)
kind_back O a = kind_above 2 a (omega arith)
kind_back T a = kind_above 3 a (omega arith)
kind_back M a = kind_above 4 a (omega arith)
kind_back N a = kind_above 5 a (omega arith)
kind_back (C f s) a =
    let x : flag_in (key_for (C f s) a) ≡ f % 2 = omega arith in
    let y : station_in (key_for (C f s) a) ≡ s % 16 = omega arith in
    rw (le-leb first_coarse (key_for (C f s) a) (omega arith)) (cc)

address_above : (n a : ℕ) → n ≤ length kinds → address_in (numbered n a) ≡ low24 a
address_above n a h = rw (lt-leb first_coarse (numbered n a) (omega arith)) (omega arith)

pub address_back : (k : Kind) (a : ℕ) → address_in (key_for k a) ≡ low24 a
address_back I a = address_above 1 a (omega arith)
address_back O a = address_above 2 a (omega arith)
address_back T a = address_above 3 a (omega arith)
address_back M a = address_above 4 a (omega arith)
address_back N a = address_above 5 a (omega arith)
address_back (C f s) a = rw (le-leb first_coarse (key_for (C f s) a) (omega arith)) (omega arith)

-- equal keys have equal kinds, with flag and station, and equal addresses
pub keys_apart : (k l : Kind) (a b : ℕ) → key_for k a ≡ key_for l b → (low_kind k ≡ low_kind l) × (low24 a ≡ low24 b)
keys_apart k l a b e =
    (sym (kind_back k a) ∙ ap kind_in e ∙ kind_back l b, sym (address_back k a) ∙ ap address_in e ∙ address_back l b)

-- at a number of the list stands the kind with that number
pub listed : (n a : ℕ) → 1 ≤ n → n ≤ length kinds → key_for (kind_at n) a ≡ numbered n a
listed zero a l m = absurd (let z : ⊥ = omega arith in z)
listed (suc zero) a l m = refl
listed (suc (suc zero)) a l m = refl
listed (suc (suc (suc zero))) a l m = refl
listed (suc (suc (suc (suc zero)))) a l m = refl
listed (suc (suc (suc (suc (suc zero))))) a l m = refl
listed (suc (suc (suc (suc (suc (suc n)))))) a l m = absurd (let z : ⊥ = omega arith in z)

-- the low 5 bits of a key of C are its flag and its station, and the rest are its address
low5 : (key : ℕ) → 16 * (flag_in key % 2) + station_in key % 16 ≡ key % 32
low5 key = omega arith

high27 : (key : ℕ) → Coarse key → first_coarse + 32 * low24 (low24 (key / 32)) + key % 32 ≡ key
high27 key w = omega arith

pub key_back : (key : ℕ) → is_key key ≡ true → key_for (kind_in key) (address_in key) ≡ key
key_back key h =
    ⊎_elim
    (λ w. rw (lt-leb first_coarse key (omega arith)) (listed (key / 2 ^ 24) (low24 key) (omega arith) (omega arith) ∙ omega arith))
    (λ w. rw (le-leb first_coarse key w.0) (omega (arith, low5 key, high27 key w)))
    (ranges key h)

-- ---- the order: by kind, then by address, of C then by flag and by station

number_range : (k : Kind) → number_of k ≤ 128
number_range I = omega arith
number_range O = omega arith
number_range T = omega arith
number_range M = omega arith
number_range N = omega arith
number_range (C f s) = omega arith

from_number : (k : Kind) (a : ℕ) → number_of k * 2 ^ 24 ≤ key_for k a
from_number I a = omega arith
from_number O a = omega arith
from_number T a = omega arith
from_number M a = omega arith
from_number N a = omega arith
from_number (C f s) a = omega arith

pub by_kind : (k l : Kind) (a b : ℕ) → number_of k < number_of l → key_for k a < key_for l b
by_kind I l a b h = omega (arith, from_number l b)
by_kind O l a b h = omega (arith, from_number l b)
by_kind T l a b h = omega (arith, from_number l b)
by_kind M l a b h = omega (arith, from_number l b)
by_kind N l a b h = omega (arith, from_number l b)
by_kind (C f s) l a b h = omega (arith, number_range l)

pub by_address : (k : Kind) (a b : ℕ) → low24 a < low24 b → key_for k a < key_for k b
by_address I a b h = omega arith
by_address O a b h = omega arith
by_address T a b h = omega arith
by_address M a b h = omega arith
by_address N a b h = omega arith
by_address (C f s) a b h = omega arith

pub coarse_by_address : (f g s t a b : ℕ) → low24 a < low24 b → key_for (C f s) a < key_for (C g t) b
coarse_by_address f g s t a b h = omega arith

pub by_flag : (f g s t a : ℕ) → f % 2 < g % 2 → key_for (C f s) a < key_for (C g t) a
by_flag f g s t a h = omega arith

pub by_station : (f s t a : ℕ) → s % 16 < t % 16 → key_for (C f s) a < key_for (C f t) a
by_station f s t a h = omega arith
