-- ME both ways: what is written is read back, and what is read is written back. A TYPE that has one layout has no other.
-- Assumes nothing.
use Rattle.std.specs.Prelude.{Result, Ok, Err}
use Prim.Native.Nat.{ℕ, ◌^◌, ◌<◌, ◌≤◌}
use mathlib.Core.Path.{◌≡◌, refl, sym, ap, subst, ◌∙◌}
use mathlib.Core.Bool.{Bool, true, false, cond, ◌&&◌, ◌||◌}
use mathlib.Core.List.{List}
use native.Mathlib.Nat.{mod-eq_of_lt}
use native.Mathlib.Omega.{arith}
use lib.Dec.{leb, eqb}
use lib.ListN.{get_or}
use borrow.Author.Tests.{leb-true, lt-leb, eqb-true}
use Rattle.refusals.specs.declared.Refusal.{Refusal}
use Rattle.refusals.specs.declared.Refusal.TheVariants.{Field}
use Rattle.fields.specs.Packing.{total, pack, unpack, Fit, fits, me}
use Rattle.fields.proofs.Bools.{and_left, and_right, both, by_test}
use Rattle.fields.proofs.Fits.{fits_fit, unpack_fits}
use Rattle.fields.proofs.Packing.{pack_unpack, pack_lt}
use Rattle.layouts.specs.Coarse.{coarse_widths}
use Rattle.layouts.specs.Layouts.{is_identification, is_surface, is_airborne, identification_widths, surface_widths, airborne_widths}
use Rattle.layouts.specs.Status.{is_status, status_widths}
use Rattle.layouts.specs.Velocity.{is_ground, is_air, velocity_widths}
use Rattle.layouts.specs.Bodies.{layout_at, type_in, layout_by, type_by, flag_by, flag_in, station_in, layout_widths, taken_as, taken_by, body_layout, body_coarse, body_type, flag_of, station_of, body_fields, body_widths, type_agrees, body_me, body_fits, written}
use Rattle.layouts.specs.declared.bodies.Body.{Body}
use Rattle.layouts.specs.declared.bodies.Body.TheVariants as body
use Rattle.layouts.specs.declared.bodies.Layout.{Layout}
use Rattle.layouts.specs.declared.bodies.Layout.TheVariants as layout
use Rattle.layouts.proofs.Layouts.{unpacked, back, identification, surface, airborne, ground, air, status, coarse}

-- ---- a body that fits

pub fitting : (b : Body) → body_fits b ≡ true → Fit (body_widths b) (body_fields b)
fitting b e = fits_fit (body_widths b) (body_fields b) (and_left (fits (body_widths b) (body_fields b)) (type_agrees b) e)

pub agreeing : (b : Body) → body_fits b ≡ true → type_agrees b ≡ true
agreeing b e = and_right (fits (body_widths b) (body_fields b)) (type_agrees b) e

all_56 : (b : Body) → total (body_widths b) ≡ 56
all_56 (body.Identification b) = refl
all_56 (body.Surface b) = refl
all_56 (body.Airborne b) = refl
all_56 (body.Ground b) = refl
all_56 (body.Air b) = refl
all_56 (body.Status b) = refl
all_56 (body.Coarse b) = refl

-- has 56 bits
pub me_lt : (b : Body) → body_fits b ≡ true → body_me b < 2 ^ 56
me_lt b e = subst (λ (k : ℕ). body_me b < 2 ^ k) (all_56 b) (pack_lt (body_widths b) (body_fields b) (fitting b e))

-- ---- a TYPE has one layout

-- what each layout that a TYPE can have has, where it is chosen: the layout of an ME by its TYPE has it
by_type : (P : Layout → Type 0) (t s : ℕ)
    → (is_identification t ≡ true → P layout.Identification)
    → (is_surface t ≡ true → P layout.Surface)
    → (is_airborne t ≡ true → P layout.Airborne)
    → (is_ground t s ≡ true → P layout.Ground)
    → (is_air t s ≡ true → P layout.Air)
    → (is_status t s ≡ true → P layout.Status)
    → P layout.NotTaken
    → P (layout_at t s)
by_type P t s i u a g r o n =
    by_test P (is_identification t) _ _ i
    (λ _. by_test P (is_surface t) _ _ u
    (λ _. by_test P (is_airborne t) _ _ a
    (λ _. by_test P (is_ground t s) _ _ g
    (λ _. by_test P (is_air t s) _ _ r
    (λ _. by_test P (is_status t s) _ _ o
    (λ _. n))))))

and-false : (a : Bool) → a && false ≡ false
and-false true = refl
and-false false = refl

above : (lo hi n : ℕ) → hi < n → leb lo n && leb n hi ≡ false
above lo hi n h = rw (lt-leb n hi h) (and-false (leb lo n))

from_low : (lo hi n : ℕ) → leb lo n && leb n hi ≡ true → lo ≤ n
from_low lo hi n e = leb-true lo n (and_left (leb lo n) (leb n hi) e)

from_nine : (n : ℕ) (a : Bool) → (leb 9 n && leb n 18) ≡ a → (leb 9 n && leb n 18) || (leb 20 n && leb n 22) ≡ true → 9 ≤ n
from_nine n true e q = from_low 9 18 n e
from_nine n false e q = let h : 20 ≤ n = from_low 20 22 n (rw e at q) in omega arith

-- a TYPE of the air is 0 or from 9, and so no identification's and no surface position's
no_other : (n : ℕ) (a : Bool) → eqb n 0 ≡ a → is_airborne n ≡ true → (is_identification n ≡ false) × (is_surface n ≡ false)
no_other n true e q = let z : n ≡ 0 = eqb-true n 0 e in (ap is_identification z, ap is_surface z)
no_other n false e q =
    let h : 9 ≤ n = from_nine n (leb 9 n && leb n 18) refl (rw e at q) in
    (above 1 4 n (omega arith), above 5 8 n h)

thirty_one : (n : ℕ) (a : Bool) → eqb n 31 && a ≡ true → n ≡ 31
thirty_one n a e = eqb-true n 31 (and_left (eqb n 31) a e)

nineteen : (n : ℕ) (a b : Bool) → eqb n 19 && a && b ≡ true → n ≡ 19
nineteen n a b e = eqb-true n 19 (and_left (eqb n 19) a (and_left (eqb n 19 && a) b e))

-- ---- what is written is read back

pub read_back : (b : Body) → body_fits b ≡ true → taken_by (body_coarse b) (body_me b) ≡ Ok b
read_back (body.Identification b) e =
    let n : ℕ = body_me (body.Identification b) in
    let f = fitting (body.Identification b) e in
    ap (λ (l : List ℕ). taken_as (layout_at (get_or l 0 0) (me 6 8 n)) n) (unpacked identification b f)
    ∙ simp (agreeing (body.Identification b) e) (ap (λ x. Ok (body.Identification x)) (back identification b f))
read_back (body.Surface b) e =
    let n : ℕ = body_me (body.Surface b) in
    let f = fitting (body.Surface b) e in
    let q = agreeing (body.Surface b) e in
    let h : 5 ≤ b.typecode = from_low 5 8 b.typecode q in
    ap (λ (l : List ℕ). taken_as (layout_at (get_or l 0 0) (me 6 8 n)) n) (unpacked surface b f)
    ∙ simp (above 1 4 b.typecode h, q) (ap (λ x. Ok (body.Surface x)) (back surface b f))
read_back (body.Airborne b) e =
    let n : ℕ = body_me (body.Airborne b) in
    let f = fitting (body.Airborne b) e in
    let q = agreeing (body.Airborne b) e in
    let h = no_other b.typecode (eqb b.typecode 0) refl q in
    ap (λ (l : List ℕ). taken_as (layout_at (get_or l 0 0) (me 6 8 n)) n) (unpacked airborne b f)
    ∙ simp (h.0, h.1, q) (ap (λ x. Ok (body.Airborne x)) (back airborne b f))
read_back (body.Ground b) e =
    let n : ℕ = body_me (body.Ground b) in
    let f = fitting (body.Ground b) e in
    let q = agreeing (body.Ground b) e in
    let h : b.typecode ≡ 19 = nineteen b.typecode (leb 1 b.subtype) (leb b.subtype 2) q in
    ap (λ (l : List ℕ). taken_as (layout_at (get_or l 0 0) (get_or l 1 0)) n) (unpacked ground b f)
    ∙ ap (λ (t : ℕ). taken_as (layout_at t b.subtype) n) h
    ∙ simp (ap (λ (t : ℕ). is_ground t b.subtype) (sym h) ∙ q) (ap (λ x. Ok (body.Ground x)) (back ground b f))
read_back (body.Air b) e =
    let n : ℕ = body_me (body.Air b) in
    let f = fitting (body.Air b) e in
    let q = agreeing (body.Air b) e in
    let h : b.typecode ≡ 19 = nineteen b.typecode (leb 3 b.subtype) (leb b.subtype 4) q in
    let r : leb 3 b.subtype && leb b.subtype 4 ≡ true = ap (λ (t : ℕ). is_air t b.subtype) (sym h) ∙ q in
    ap (λ (l : List ℕ). taken_as (layout_at (get_or l 0 0) (get_or l 1 0)) n) (unpacked air b f)
    ∙ ap (λ (t : ℕ). taken_as (layout_at t b.subtype) n) h
    ∙ simp (above 1 2 b.subtype (from_low 3 4 b.subtype r), r) (ap (λ x. Ok (body.Air x)) (back air b f))
read_back (body.Status b) e =
    let n : ℕ = body_me (body.Status b) in
    let f = fitting (body.Status b) e in
    let q = agreeing (body.Status b) e in
    let h : b.typecode ≡ 31 = thirty_one b.typecode (leb b.subtype 1) q in
    ap (λ (l : List ℕ). taken_as (layout_at (get_or l 0 0) (get_or l 1 0)) n) (unpacked status b f)
    ∙ ap (λ (t : ℕ). taken_as (layout_at t b.subtype) n) h
    ∙ simp (ap (λ (t : ℕ). is_status t b.subtype) (sym h) ∙ q) (ap (λ x. Ok (body.Status x)) (back status b f))
read_back (body.Coarse b) e = ap (λ x. Ok (body.Coarse x)) (back coarse b (fitting (body.Coarse b) e))

-- ---- the layout and the fields, by the bits

-- of what the bits n were read as, in a layout
abbrev Cut : Layout → ℕ → Result Body Refusal → Type 0
Cut l n (Ok b) = (body_layout b ≡ l) × (body_fields b ≡ unpack (layout_widths l) n)
Cut l n (Err r) = Unit

cut_as : (l : Layout) (n : ℕ) → Cut l n (taken_as l n)
cut_as layout.Identification n = (refl, refl)
cut_as layout.Surface n = (refl, refl)
cut_as layout.Airborne n = (refl, refl)
cut_as layout.Ground n = (refl, refl)
cut_as layout.Air n = (refl, refl)
cut_as layout.Status n = (refl, refl)
cut_as layout.Coarse n = (refl, refl)
cut_as layout.NotTaken n = tt

-- a body has the layout of its bits, and its fields are the bits by the layout's widths
pub fields_read : (coarse : Bool) (n : ℕ) (b : Body) → taken_by coarse n ≡ Ok b → (body_layout b ≡ layout_by coarse n) × (body_fields b ≡ unpack (layout_widths (layout_by coarse n)) n)
fields_read coarse n b e = subst (Cut (layout_by coarse n) n) e (cut_as (layout_by coarse n) n)

-- ---- whether it is coarse, TYPE, the flag and the station, by the bits

-- of what bits were read as
abbrev Marked : Bool → ℕ → ℕ → ℕ → Result Body Refusal → Type 0
Marked coarse type flag station (Ok b) = (body_coarse b ≡ coarse) × (body_type b ≡ type) × (flag_of b ≡ flag) × (station_of b ≡ station)
Marked coarse type flag station (Err r) = Unit

marked_as : (coarse : Bool) (n : ℕ) → Marked coarse (type_by coarse n) (flag_in coarse n) (station_in coarse n) (taken_by coarse n)
marked_as true n = (refl, refl, refl, refl)
marked_as false n =
    let As : Layout → Type 0 = λ l. Marked false (type_in n) (flag_by l (me 1 1 n) (me 21 21 n) (me 8 8 n) (me 9 9 n)) 0 (taken_as l n) in
    by_type As (type_in n) (me 6 8 n)
    (λ _. (refl, refl, refl, refl))
    (λ _. (refl, refl, refl, refl))
    (λ _. (refl, refl, refl, refl))
    (λ _. (refl, refl, refl, refl))
    (λ _. (refl, refl, refl, refl))
    (λ _. (refl, refl, refl, refl))
    tt

-- a layout's own fields are what the bits say of every layout
module _ (coarse : Bool) (n : ℕ) (b : Body) (e : taken_by coarse n ≡ Ok b) where
  marked : Marked coarse (type_by coarse n) (flag_in coarse n) (station_in coarse n) (Ok b)
  marked = subst (Marked coarse (type_by coarse n) (flag_in coarse n) (station_in coarse n)) e (marked_as coarse n)

  -- no TYPE makes a coarse body
  pub coarse_read : body_coarse b ≡ coarse
  coarse_read = marked.0

  pub type_read : body_type b ≡ type_by coarse n
  type_read = marked.1

  pub flag_read : flag_of b ≡ flag_in coarse n
  flag_read = marked.2

  pub station_read : station_of b ≡ station_in coarse n
  station_read = marked.3

-- ---- what is read is written back

-- of what the bits n were read as: it fits, and its bits are n
abbrev Good : ℕ → Result Body Refusal → Type 0
Good n (Ok b) = (body_fits b ≡ true) × (body_me b ≡ n)
Good n (Err r) = Unit

module _ (n : ℕ) (h : n < 2 ^ 56) where
  whole : (ws : List ℕ) → total ws ≡ 56 → pack ws (unpack ws n) ≡ n
  whole ws e = pack_unpack ws n ∙ mod-eq_of_lt (subst (λ (k : ℕ). n < 2 ^ k) (sym e) h)

  good : (coarse : Bool) → Good n (taken_by coarse n)
  good true = (both (unpack_fits coarse_widths n) refl, whole coarse_widths refl)
  good false =
      by_type (λ l. Good n (taken_as l n)) (type_in n) (me 6 8 n)
      (λ q. (both (unpack_fits identification_widths n) q, whole identification_widths refl))
      (λ q. (both (unpack_fits surface_widths n) q, whole surface_widths refl))
      (λ q. (both (unpack_fits airborne_widths n) q, whole airborne_widths refl))
      (λ q. (both (unpack_fits velocity_widths n) q, whole velocity_widths refl))
      (λ q. (both (unpack_fits velocity_widths n) q, whole velocity_widths refl))
      (λ q. (both (unpack_fits status_widths n) q, whole status_widths refl))
      tt

pub read_good : (coarse : Bool) (n : ℕ) (b : Body) → n < 2 ^ 56 → taken_by coarse n ≡ Ok b → (body_fits b ≡ true) × (body_me b ≡ n)
read_good coarse n b h e = subst (λ (x : Result Body Refusal). Good n x) e (good n h coarse)

-- ---- and so of the two public functions

-- what a choice between bits and the refusal says of its test
pub if_written : (t : Bool) (m n : ℕ) → cond t (Ok m) (Err Field) ≡ Ok n → (t ≡ true) × (m ≡ n)
if_written true m n e = (refl, cc)
if_written false m n e = let z : ◌≡◌ {A = ℕ} 0 1 = cc in let f : ⊥ = omega arith in absurd f

pub if_refused : (t : Bool) (m : ℕ) (r : Refusal) → cond t (Ok m) (Err Field) ≡ Err r → (t ≡ false) × (r ≡ Field)
if_refused true m r e = let z : ◌≡◌ {A = ℕ} 0 1 = cc in let f : ⊥ = omega arith in absurd f
if_refused false m r e = (refl, cc)

pub written_read : (n : ℕ) (b : Body) → written b ≡ Ok n → taken_by (body_coarse b) n ≡ Ok b
written_read n b e =
    let g = if_written (body_fits b) (body_me b) n e in
    ap (taken_by (body_coarse b)) (sym g.1) ∙ read_back b g.0

pub read_written : (coarse : Bool) (n : ℕ) (b : Body) → n < 2 ^ 56 → taken_by coarse n ≡ Ok b → written b ≡ Ok n
read_written coarse n b h e = let g = read_good coarse n b h e in rw g.0 (ap Ok g.1)

-- so no bit is dropped: MEs that say the same are the same
pub every_bit : (coarse coarse' : Bool) (m n : ℕ) (b : Body) → m < 2 ^ 56 → n < 2 ^ 56 → taken_by coarse m ≡ Ok b → taken_by coarse' n ≡ Ok b → m ≡ n
every_bit coarse coarse' m n b hm hn em en = sym (read_good coarse m b hm em).1 ∙ (read_good coarse' n b hn en).1
