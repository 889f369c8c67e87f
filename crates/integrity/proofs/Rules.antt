-- The rules of RULES 16, each by its definition or computed from the published rows.
-- Assumes nothing.
use Prim.Native.Nat.{ℕ, ◌<◌, ◌≤◌}
use mathlib.Core.Path.{◌≡◌, refl, ap, ◌∙◌}
use mathlib.Core.Bool.{Bool, true, false, cond, ◌&&◌, not}
use mathlib.Core.List.{List, []}
use native.Mathlib.Omega.{arith}
use borrow.Author.Tests.{ne_eqb}
use lib.Dec.{T, leb, leb→le}
use lib.ListN.{length, get_or}
use Rattle.fields.specs.Packing.{me}
use Rattle.fields.proofs.Bools.{and-false}
use Rattle.fields.proofs.Tables.{at}
use Rattle.keys.specs.declared.Kind.{Kind}
use Rattle.keys.specs.Keys.{is_traffic, is_coarse}
use Rattle.layouts.specs.Bodies.{layout_of}
use Rattle.layouts.specs.Layouts.{is_position}
use Rattle.readings.specs.Status.{has_a, has_c}
use Rattle.integrity.specs.declared.Integrity.TheVariants.{Unknown, Nuc, Nic}
use Rattle.integrity.specs.declared.standard.Bits.{Bits}
use Rattle.integrity.specs.Code.{nucs, nic1, nic2}
use Rattle.integrity.specs.Integrity.{integrity_by, integrity_in}
use Rattle.integrity.specs.Said.{is_number}
use Rattle.integrity.specs.Standard.{is_status, status_version, version_in, no_bits, status_bits, bits_in}
use Rattle.integrity.specs.Tables.{Row, nuc_rows, nic_rows1, nic_rows2, with_these, of_type, lowest, in_table}
use Rattle.integrity.proofs.Rows.{twice, with_all, left, rest, at_all, by_version}

-- ---- the version and the supplements

-- T, M, N and C are version 1 with supplements 0, whatever the ME and bit 8 are
pub traffic_version : (kind : Kind) → is_traffic kind ≡ true → (status : ℕ) (bit8 : Bool) → (version_in kind status ≡ 1) × (bits_in kind status bit8 ≡ no_bits)
unfolding version_in bits_in
traffic_version kind e status bit8 = (rw e, rw e)

-- no status heard is version 0: no ME, which is 0, or one that is no status
pub none_heard : (kind : Kind) → is_traffic kind ≡ false → (status : ℕ) → is_status (layout_of status) ≡ false → version_in kind status ≡ 0
unfolding version_in status_version
none_heard kind e status s = rw (e, s)

pub nothing_heard : is_status (layout_of 0) ≡ false
nothing_heard = refl

-- version 0 and those above 2 have no A
pub no_a_outside : (status : ℕ) (bit8 : Bool) → has_a (status_version status) ≡ false → (status_bits status bit8).a ≡ false
unfolding status_bits
no_a_outside status bit8 e = rw e

-- and none but 2 has B and C: bit 8 of a position and bit 20 of a status say something else there
pub no_b_before_two : (status : ℕ) (bit8 : Bool) → (status_version status ≡ 2 → ⊥) → ((status_bits status bit8).b ≡ false) × ((status_bits status bit8).c ≡ false)
unfolding status_bits
no_b_before_two status bit8 h = rw (ne_eqb (status_version status) 2 h) (refl, refl)

-- C is read of subtype 1 alone
pub no_c_in_the_air : (status : ℕ) (bit8 : Bool) → me 6 8 status ≡ 0 → (status_bits status bit8).c ≡ false
unfolding status_bits
no_c_in_the_air status bit8 e = rw e (and-false (has_c (status_version status)))

-- ---- the integrity

-- a version above 2 is unknown
pub above_two : (v type : ℕ) (s : Bits) → 2 < v → integrity_by Unknown Nuc Nic v type s ≡ Unknown
above_two v type s h = rw (ne_eqb v 0 (λ e. omega arith), ne_eqb v 1 (λ e. omega arith), ne_eqb v 2 (λ e. omega arith))

-- and so is C, whatever else is held
pub coarse_unknown : (kind : Kind) → is_coarse kind ≡ true → (status type : ℕ) (bit8 : Bool) → integrity_in Unknown Nuc Nic kind status type bit8 ≡ Unknown
coarse_unknown kind e status type bit8 = rw e

nuc_where : (p : Bool) (n : ℕ) → is_number (cond p (Nuc n) Unknown) ≡ p
nuc_where true n = refl
nuc_where false n = refl

nic_where : (p : Bool) (n : ℕ) → is_number (cond p (Nic n) Unknown) ≡ p
nic_where true n = refl
nic_where false n = refl

-- up to 2 every TYPE of a position message has a number, 0 among them, and no other TYPE has
pub number_exactly : (k : ℕ) → k < 32 → (s : Bits)
    → (is_number (integrity_by Unknown Nuc Nic 0 k s) ≡ is_position k)
    × (is_number (integrity_by Unknown Nuc Nic 1 k s) ≡ is_position k)
    × (is_number (integrity_by Unknown Nuc Nic 2 k s) ≡ is_position k)
number_exactly k h s = (
  ap is_number (by_version 0 k h s) ∙ nuc_where (is_position k) (get_or nucs k 0),
  ap is_number (by_version 1 k h s) ∙ nic_where (is_position k) (nic1 k s),
  ap is_number (by_version 2 k h s) ∙ nic_where (is_position k) (nic2 k s),
)

-- NUC 0 and NIC 0, of TYPEs that have them in more than one version
pub zero_is_a_number : (s : Bits) → (integrity_by Unknown Nuc Nic 0 18 s ≡ Nuc 0) × (integrity_by Unknown Nuc Nic 1 8 s ≡ Nic 0) × (integrity_by Unknown Nuc Nic 2 22 s ≡ Nic 0)
unfolding in_table
zero_is_a_number s = (refl, refl, refl)

-- supplements that no row of the TYPE has read as the largest radius, the lowest number of its rows
pub no_such_row : {X : Type 0} (number : ℕ → X) (none : X) (rows : List Row) (type : ℕ) (s : Bits)
    → with_these type s rows ≡ [] → in_table number rows type s none ≡ lowest number (of_type type rows) none
unfolding in_table
no_such_row number none rows type s e = rw e

-- .. which in version 2 are A and B unequal of TYPEs 11 and 16, A 1 with B 0 of TYPE 13, and C 1 of TYPE 7
pub no_such_pair : (a b : Bool) → (in_table Nic nic_rows2 11 (record { a = a; b = not a; c = b }) Unknown ≡ Nic 8)
    × (in_table Nic nic_rows2 16 (record { a = a; b = not a; c = b }) Unknown ≡ Nic 2)
    × (in_table Nic nic_rows2 13 (record { a = true; b = false; c = b }) Unknown ≡ Nic 6)
    × (in_table Nic nic_rows2 7 (record { a = a; b = b; c = true }) Unknown ≡ Nic 8)
unfolding in_table
no_such_pair true b = (refl, refl, refl, refl)
no_such_pair false b = (refl, refl, refl, refl)

-- no two rows of a TYPE have the same supplements, so that a row which has them is the one that is read
few : ℕ → Bits → Bool
few k s = leb (length (with_these k s nuc_rows)) 1 && (leb (length (with_these k s nic_rows1)) 1 && leb (length (with_these k s nic_rows2)) 1)

test : ℕ → ℕ → Bool
test k x = with_all (few k)

pub one_row : (k : ℕ) → k < 32 → (s : Bits) → (length (with_these k s nuc_rows) ≤ 1) × (length (with_these k s nic_rows1) ≤ 1) × (length (with_these k s nic_rows2) ≤ 1)
unfolding few test with_all twice
one_row k h s =
    let n : Bool = leb (length (with_these k s nuc_rows)) 1 in
    let one : Bool = leb (length (with_these k s nic_rows1)) 1 in
    let two : Bool = leb (length (with_these k s nic_rows2)) 1 in
    let t : T (few k s) = at_all (few k) (at test nucs tt k h) s in
    let r : T (one && two) = rest n (one && two) t in
    (leb→le _ _ (left n (one && two) t), leb→le _ _ (left one two r), leb→le _ _ (rest one two r))
