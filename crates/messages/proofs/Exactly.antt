-- The decoder's answer is the table of RULES 3.2: each number exactly when it is earned and none before it is, else the layout and its fields by the layout's widths.
-- The definition's tests are the table's, one by one; a field of a part of the bits is a field of the whole.
-- Assumes nothing.
use Rattle.std.specs.Prelude.{Result, Ok, Err}
use Prim.Native.Nat.{ℕ, ◌+◌, ◌*◌, ◌/◌, ◌%◌, ◌^◌}
use mathlib.Core.Path.{◌≡◌, refl, sym, ap, ap₂, ◌∙◌}
use mathlib.Core.Bool.{Bool, true, false, cond, not, ◌&&◌, ◌||◌}
use mathlib.Core.List.{List, ◌∷◌, ◌++◌}
use mathlib.Core.Logic.{◌↔◌, ◌⊎◌, inl, inr, ⊎_elim}
use native.Mathlib.Omega.{arith}
use lib.Dec.{eqb}
use borrow.Author.Tests.{eq-eqb, eqb-true, not-true}
use Rattle.refusals.specs.Numbers.{number_of}
use Rattle.refusals.specs.Said.{Said, number, gives}
use Rattle.fields.specs.Packing.{field, total, unpack}
use Rattle.fields.specs.Bytes.{number as numeral}
use Rattle.fields.proofs.Bools.{each, either, both}
use Rattle.fields.proofs.Packing.{unpack_above}
use Rattle.layouts.specs.Coarse.{coarse_widths}
use Rattle.layouts.specs.Layouts.{identification_widths, surface_widths, airborne_widths}
use Rattle.layouts.specs.Status.{status_widths}
use Rattle.layouts.specs.Velocity.{ground_of, air_of, ground_fields, air_fields, velocity_widths}
use Rattle.layouts.specs.Bodies.{layout_by, is_taken, taken_as, layout_widths, body_layout}
use Rattle.layouts.specs.Said.{Values, values}
use Rattle.layouts.specs.declared.bodies.Body.TheVariants as body
use Rattle.layouts.specs.declared.bodies.Layout.{Layout}
use Rattle.layouts.specs.declared.bodies.Layout.TheVariants as layout
use Rattle.layouts.specs.declared.velocity.Ground.{Ground}
use Rattle.layouts.specs.declared.velocity.Air.{Air}
use Rattle.messages.specs.Accepted.{Acceptable}
use Rattle.messages.specs.Message.{bits, traffic_by, is_reserved, reserved_in, with_body, opened, decoded, head_widths}
use Rattle.messages.specs.Said.{said, earns1, earns3, earns4, coarse_at, layout_in, type_at, flag_at, earns5, values_in, table}
use Rattle.messages.specs.declared.Message.{Message}
use Rattle.messages.proofs.Flags.{layout_in_lem, reserved_in_lem}
use Rattle.refusals.specs.declared.Refusal.{Refusal}

-- ---- fields of a part of the bits

module _ (n : ℕ) where
  before_pi : field 112 1 88 n ≡ field 112 1 32 n * 2 ^ 56 + field 112 33 88 n
  before_pi = omega arith

  -- the fields of the bits before PI are DF, CA or CF, AA and those of ME
  all_fields : (ws : List ℕ) → total ws ≡ 56
      → field 112 1 5 n ∷ field 112 6 8 n ∷ field 112 9 32 n ∷ unpack ws (field 112 33 88 n) ≡ unpack (head_widths ++ ws) (field 112 1 88 n)
  all_fields ws e =
      let b : ℕ = field 112 1 88 n in
      let f : field 112 1 5 n ≡ b / 2 ^ (3 + (24 + total ws)) % 2 ^ 5 = rw e (omega arith) in
      let c : field 112 6 8 n ≡ b / 2 ^ (24 + total ws) % 2 ^ 3 = rw e (omega arith) in
      let a : field 112 9 32 n ≡ b / 2 ^ total ws % 2 ^ 24 = rw e (omega arith) in
      let m : unpack ws (field 112 33 88 n) ≡ unpack ws b =
      sym (unpack_above ws (field 112 1 32 n) (field 112 33 88 n))
      ∙ ap (unpack ws) (ap (λ (k : ℕ). field 112 1 32 n * 2 ^ k + field 112 33 88 n) e ∙ sym before_pi) in
      ap₂ (λ (x : ℕ) (l : List ℕ). x ∷ l) f (ap₂ (λ (x : ℕ) (l : List ℕ). x ∷ l) c (ap₂ (λ (x : ℕ) (l : List ℕ). x ∷ l) a m))

-- ---- what is said of a choice is the choice of what is said

said_of : (t : Bool) (x y : Result Message Refusal) → said (cond t x y) ≡ cond t (said x) (said y)
said_of true x y = refl
said_of false x y = refl

-- ---- ME: one layout, or none

abbrev by_widths : Layout → ℕ → Said Values
by_widths l n = cond (not (is_taken l)) (number 5) (gives (values l (unpack (head_widths ++ layout_widths l) (field 112 1 88 n))))

layout_says : (l : Layout) (n : ℕ) → said (with_body (field 112 1 5 n) (field 112 6 8 n) (field 112 9 32 n) (taken_as l (field 112 33 88 n))) ≡ by_widths l n
layout_says layout.Identification n = ap (λ (v : List ℕ). gives (values layout.Identification v)) (all_fields n identification_widths refl)
layout_says layout.Surface n = ap (λ (v : List ℕ). gives (values layout.Surface v)) (all_fields n surface_widths refl)
layout_says layout.Airborne n = ap (λ (v : List ℕ). gives (values layout.Airborne v)) (all_fields n airborne_widths refl)
layout_says layout.Ground n = ap (λ (v : List ℕ). gives (values layout.Ground v)) (all_fields n velocity_widths refl)
layout_says layout.Air n = ap (λ (v : List ℕ). gives (values layout.Air v)) (all_fields n velocity_widths refl)
layout_says layout.Status n = ap (λ (v : List ℕ). gives (values layout.Status v)) (all_fields n status_widths refl)
layout_says layout.Coarse n = ap (λ (v : List ℕ). gives (values layout.Coarse v)) (all_fields n coarse_widths refl)
layout_says layout.NotTaken n = refl

-- ---- the whole

-- 5 for either reason
for_either : (r t : Bool) (x : Said Values) → cond r (number 5) (cond t (number 5) x) ≡ cond (t || r) (number 5) x
for_either true true x = refl
for_either true false x = refl
for_either false true x = refl
for_either false false x = refl

opened_says : (s : List ℕ)
    → said (opened (bits 1 5 s) (bits 6 8 s) (bits 9 32 s) (bits 33 88 s)) ≡ cond (earns4 s) (number 4) (cond (earns5 s) (number 5) (gives (values_in s)))
unfolding opened
opened_says s =
    let l : Layout = layout_by (coarse_at s) (bits 33 88 s) in
    let r : Bool = reserved_in (bits 1 5 s) (bits 6 8 s) (bits 33 88 s) in
    said_of (earns4 s) _ _
    ∙ ap (cond (earns4 s) (number 4)) (said_of r _ _
    ∙ ap (cond r (number 5)) (layout_says l (numeral s))
    ∙ for_either r (not (is_taken l)) _
    ∙ ap₂ (λ (l : Layout) (b : Bool). cond (not (is_taken l) || b) (number 5) (gives (values l (unpack (head_widths ++ layout_widths l) (bits 1 88 s))))) (layout_in_lem s) (reserved_in_lem s))

-- what the decoder answers is what the table says
pub says_the_table : (s : List ℕ) → said (decoded s) ≡ table s
says_the_table s =
    said_of (earns1 s) _ _
    ∙ ap (cond (earns1 s) (number 1)) (said_of (earns3 s) _ _ ∙ ap (cond (earns3 s) (number 3)) (opened_says s))

-- ---- and so each number exactly when

differ : {A : Type 0} (m n : ℕ) → eqb m n ≡ false → ◌≡◌ {A = Said Values} (number m) (number n) → A
differ m n f e =
    let q : m ≡ n = cc in
    let z : ◌≡◌ {A = Bool} true false = sym (eq-eqb m n q) ∙ f in
    let y : ◌≡◌ {A = ℕ} 0 1 = cc in
    let w : ⊥ = omega arith in
    absurd w

no_number : {A : Type 0} (v : Values) (n : ℕ) → gives v ≡ number n → A
no_number v n e = let y : ◌≡◌ {A = ℕ} 0 1 = cc in let w : ⊥ = omega arith in absurd w

message_of_lem : (d : Result Message Refusal) (v : Values) → said d ≡ gives v → (m : Message) × (d ≡ Ok m)
message_of_lem (Ok m) v e = (m, refl)
message_of_lem (Err r) v e = no_number v (number_of r) (sym e)

abbrev chosen : Bool → Bool → Bool → Bool → Values → Said Values
chosen a b c d v = cond a (number 1) (cond b (number 3) (cond c (number 4) (cond d (number 5) (gives v))))

first : (a b c d : Bool) (v : Values) → chosen a b c d v ≡ number 1 → a ≡ true
first true b c d v e = refl
first false true c d v e = differ 3 1 refl e
first false false true d v e = differ 4 1 refl e
first false false false true v e = differ 5 1 refl e
first false false false false v e = no_number v 1 e

second : (a b c d : Bool) (v : Values) → chosen a b c d v ≡ number 3 → (a ≡ false) × (b ≡ true)
second true b c d v e = differ 1 3 refl e
second false true c d v e = (refl, refl)
second false false true d v e = differ 4 3 refl e
second false false false true v e = differ 5 3 refl e
second false false false false v e = no_number v 3 e

third : (a b c d : Bool) (v : Values) → chosen a b c d v ≡ number 4 → (a ≡ false) × (b ≡ false) × (c ≡ true)
third true b c d v e = differ 1 4 refl e
third false true c d v e = differ 3 4 refl e
third false false true d v e = (refl, refl, refl)
third false false false true v e = differ 5 4 refl e
third false false false false v e = no_number v 4 e

fourth : (a b c d : Bool) (v : Values) → chosen a b c d v ≡ number 5 → (a ≡ false) × (b ≡ false) × (c ≡ false) × (d ≡ true)
fourth true b c d v e = differ 1 5 refl e
fourth false true c d v e = differ 3 5 refl e
fourth false false true d v e = differ 4 5 refl e
fourth false false false true v e = (refl, refl, refl, refl)
fourth false false false false v e = no_number v 5 e

none : (a b c d : Bool) (v w : Values) → chosen a b c d v ≡ gives w → (a ≡ false) × (b ≡ false) × (c ≡ false) × (d ≡ false) × (v ≡ w)
none true b c d v w e = no_number w 1 (sym e)
none false true c d v w e = no_number w 3 (sym e)
none false false true d v w e = no_number w 4 (sym e)
none false false false true v w e = no_number w 5 (sym e)
none false false false false v w e = let q : v ≡ w = cc in (refl, refl, refl, refl, q)

air_ground : layout.Air ≡ layout.Ground → ⊥
air_ground e = let y : ◌≡◌ {A = ℕ} 0 1 = cc in omega arith

module _ (s : List ℕ) where
  -- 1 exactly when the message is not of 14 bytes
  pub one_exactly : said (decoded s) ≡ number 1 ↔ earns1 s ≡ true
  one_exactly = (
    λ e. first (earns1 s) (earns3 s) (earns4 s) (earns5 s) (values_in s) (sym (says_the_table s) ∙ e),
    λ a. says_the_table s ∙ rw a,
  )

  -- 3 exactly when it is, and its remainder is not 0
  pub three_exactly : said (decoded s) ≡ number 3 ↔ (earns1 s ≡ false) × (earns3 s ≡ true)
  three_exactly = (
    λ e. second (earns1 s) (earns3 s) (earns4 s) (earns5 s) (values_in s) (sym (says_the_table s) ∙ e),
    λ p. says_the_table s ∙ rw (p.0, p.1),
  )

  -- 4 exactly when it earns neither 1 nor 3, and its DF or CF is not taken
  pub four_exactly : said (decoded s) ≡ number 4 ↔ (earns1 s ≡ false) × (earns3 s ≡ false) × (earns4 s ≡ true)
  four_exactly = (
    λ e. third (earns1 s) (earns3 s) (earns4 s) (earns5 s) (values_in s) (sym (says_the_table s) ∙ e),
    λ p. says_the_table s ∙ rw (p.0, p.1, p.2),
  )

  -- 5 exactly when it earns none of 1, 3 and 4, and there is one of three reasons
  pub five_exactly : said (decoded s) ≡ number 5 ↔ (earns1 s ≡ false) × (earns3 s ≡ false) × (earns4 s ≡ false) × (earns5 s ≡ true)
  five_exactly = (
    λ e. fourth (earns1 s) (earns3 s) (earns4 s) (earns5 s) (values_in s) (sym (says_the_table s) ∙ e),
    λ p. says_the_table s ∙ rw (p.0, p.1, p.2, p.3),
  )

  -- CF 5 with the flag set
  abbrev FlagSet : Type 0
  FlagSet = (bits 1 5 s ≡ 18) × (bits 6 8 s ≡ 5) × (flag_at s ≡ 1)

  -- TYPE 31, at any subtype, of the traffic service
  abbrev ServedStatus : Type 0
  ServedStatus = (traffic_by (bits 1 5 s) (bits 6 8 s) ≡ true) × (type_at s ≡ 31)

  -- its TYPE or subtype is not taken, or it is DF 18 with CF 5 and the flag set, or with CF 2 or 5 and TYPE 31
  pub five_reasons : earns5 s ≡ true ↔ (is_taken (layout_in s) ≡ false) ⊎ (FlagSet ⊎ ServedStatus)
  five_reasons = (
    λ e. ⊎_elim (λ t. inl (not-true (is_taken (layout_in s)) t)) (λ r. inr (reserved r)) (either (not (is_taken (layout_in s))) _ e),
    ⊎_elim (λ t. rw t) (⊎_elim
        (λ p. or_right (not (is_taken (layout_in s))) _ (or_left _ _ (both (both (eq-eqb (bits 1 5 s) 18 p.0) (eq-eqb (bits 6 8 s) 5 p.1)) (eq-eqb (flag_at s) 1 p.2))))
        (λ p. or_right (not (is_taken (layout_in s))) _ (or_right (eqb (bits 1 5 s) 18 && eqb (bits 6 8 s) 5 && eqb (flag_at s) 1) _ (both p.0 (eq-eqb (type_at s) 31 p.1))))),
  )
    where
      reserved : is_reserved (bits 1 5 s) (bits 6 8 s) (type_at s) (flag_at s) ≡ true → FlagSet ⊎ ServedStatus
      reserved r = ⊎_elim
          (λ f.
          let p = each (eqb (bits 1 5 s) 18 && eqb (bits 6 8 s) 5) (eqb (flag_at s) 1) f in
          let q = each (eqb (bits 1 5 s) 18) (eqb (bits 6 8 s) 5) p.0 in
          inl (eqb-true (bits 1 5 s) 18 q.0, eqb-true (bits 6 8 s) 5 q.1, eqb-true (flag_at s) 1 p.1))
          (λ t.
          let p = each (traffic_by (bits 1 5 s) (bits 6 8 s)) (eqb (type_at s) 31) t in
          inr (p.0, eqb-true (type_at s) 31 p.1))
          (either (eqb (bits 1 5 s) 18 && eqb (bits 6 8 s) 5 && eqb (flag_at s) 1) _ r)

      or_left : (a b : Bool) → a ≡ true → a || b ≡ true
      or_left a b e = rw e

      or_right : (a b : Bool) → b ≡ true → a || b ≡ true
      or_right true b e = refl
      or_right false b e = e

  -- none of them is there of a coarse message, whatever its ME
  pub coarse_never_five : coarse_at s ≡ true → earns5 s ≡ false
  coarse_never_five e =
      let p = each (eqb (bits 1 5 s) 18) (eqb (bits 6 8 s) 3) e in
      rw (eqb-true (bits 1 5 s) 18 p.0, eqb-true (bits 6 8 s) 3 p.1)

  -- acceptable exactly when it earns none of the four
  pub accepted_exactly : Acceptable s ↔ (earns1 s ≡ false) × (earns3 s ≡ false) × (earns4 s ≡ false) × (earns5 s ≡ false)
  accepted_exactly = (
    λ p.
        let e = none (earns1 s) (earns3 s) (earns4 s) (earns5 s) (values_in s) _ (sym (says_the_table s) ∙ ap said p.1) in
        (e.0, e.1, e.2, e.3),
    λ p. message_of_lem (decoded s) (values_in s) (says_the_table s ∙ rw (p.0, p.1, p.2, p.3)),
  )

  -- ---- and so of the layout: only it tells the two velocities apart, whose fields are the same bits

  pub same_fields : ground_fields (ground_of (bits 33 88 s)) ≡ air_fields (air_of (bits 33 88 s))
  same_fields = refl

  -- a message that says what the table says has the layout of the bits
  pub layout_told : (m : Message) → said (Ok m) ≡ table s → body_layout m.body ≡ layout_in s
  layout_told m e = ap (λ (v : Values). v.layout) (sym (none (earns1 s) (earns3 s) (earns4 s) (earns5 s) (values_in s) _ (sym e)).4)

  -- so Air, whatever its fields, is not what the table says where the bits are Ground's, nor Ground where they are Air's
  pub ground_not_air : (format control address : ℕ) (a : Air) → layout_in s ≡ layout.Ground
      → said (Ok (record { format = format; control = control; address = address; body = body.Air a })) ≡ table s → ⊥
  ground_not_air format control address a h e =
      air_ground (layout_told (record { format = format; control = control; address = address; body = body.Air a }) e ∙ h)

  pub air_not_ground : (format control address : ℕ) (g : Ground) → layout_in s ≡ layout.Air
      → said (Ok (record { format = format; control = control; address = address; body = body.Ground g })) ≡ table s → ⊥
  air_not_ground format control address g h e =
      air_ground (sym (layout_told (record { format = format; control = control; address = address; body = body.Ground g }) e ∙ h))
