-- An acceptable message is one that is decoded: both go by the same tests, and TYPE and subtype choose a layout or none. What its ME is unpacked to is packed to the same ME.
-- Assumes nothing.
use Rattle.std.specs.Prelude.{Result, Ok, Err}
use Prim.Native.Nat.{ℕ, ◌/◌, ◌^◌}
use mathlib.Core.Path.{◌≡◌, refl, sym, ap, ap₂, subst, ◌∙◌}
use mathlib.Core.Bool.{Bool, true, false, cond, not, ◌||◌}
use mathlib.Core.List.{List}
use native.Mathlib.Omega.{arith}
use native.Mathlib.Nat.{mod-lt}
use lib.Dec.{eqb, lit<}
use lib.ListN.{length}
use Rattle.refusals.specs.declared.Refusal.{Refusal}
use Rattle.refusals.specs.declared.Refusal.TheVariants.{Length, Parity, Format, TypeCode}
use Rattle.refusals.specs.Said.{number}
use Rattle.fields.specs.Bytes.{number as numeral}
use Rattle.parity.specs.Parity.{remainder}
use Rattle.layouts.specs.Bodies.{layout_by, is_taken, taken_as, taken_by, body_me, body_fits}
use Rattle.layouts.specs.declared.bodies.Body.{Body}
use Rattle.layouts.specs.declared.bodies.Layout.{Layout}
use Rattle.layouts.specs.declared.bodies.Layout.TheVariants as layout
use Rattle.layouts.proofs.BothWays.{read_good}
use Rattle.messages.specs.Message.{bits, format_taken, opened, decoded}
use Rattle.messages.specs.Accepted.{frame_of, formed, unless, frame_coarse, frame_reserved, frame_refused, framed, accepted, headed, frame_in, frame_says, decoded_by, opened_as, IsAccepted, message_of, Opens}
use Rattle.messages.specs.Said.{accepted_said, earns1, earns3, earns4, accept_table}
use Rattle.messages.specs.declared.Frame.{Frame}
use Rattle.messages.proofs.Flags.{layout_in_lem, reserved_in_lem}

-- ---- a layout, or none

-- what a layout that is taken, or none, reads the bits as
abbrev Reads : Bool → Result Body Refusal → Type 0
Reads true x = (b : Body) × (x ≡ Ok b)
Reads false x = x ≡ Err TypeCode

reads : (l : Layout) (n : ℕ) → Reads (is_taken l) (taken_as l n)
reads layout.Identification n = (_, refl)
reads layout.Surface n = (_, refl)
reads layout.Airborne n = (_, refl)
reads layout.Ground n = (_, refl)
reads layout.Air n = (_, refl)
reads layout.Status n = (_, refl)
reads layout.Coarse n = (_, refl)
reads layout.NotTaken n = refl

-- ---- decoded is what was accepted, opened

module _ (f : Frame) where
  abbrev a : Bool
  a = format_taken f.format f.control

  abbrev t : Bool
  t = is_taken (layout_by (frame_coarse f) f.me)

  -- opened by 4, by what is reserved, or by ME: what `framed` refuses, and what it gives back
  opens : opened f.format f.control f.address f.me ≡ opened_as (framed f)
  unfolding opened framed
  opens = by_cases a t (frame_reserved f) refl refl refl (reads (layout_by (frame_coarse f) f.me) f.me)
    where
      by_cases : (x y z : Bool) → a ≡ x → t ≡ y → frame_reserved f ≡ z → Reads y (taken_by (frame_coarse f) f.me) → opened f.format f.control f.address f.me ≡ opened_as (framed f)
      by_cases false y z e k q r = rw e
      by_cases true true true e k q r = rw (e, k, q)
      by_cases true false true e k q r = rw (e, k, q)
      by_cases true false false e k q r = rw (e, k, q, r)
      by_cases true true false e k q r = let g : framed f ≡ Ok f = rw (e, k, q) in sym (ap opened_as g)

pub accepted_opened : (s : List ℕ) → decoded s ≡ opened_as (accepted s)
accepted_opened s = by_cases (eqb (length s) 14) (eqb (remainder s) 0)
  where
    by_cases : (l p : Bool)
        → cond (not l) (Err Length) (cond (not p) (Err Parity) (opened (bits 1 5 s) (bits 6 8 s) (bits 9 32 s) (bits 33 88 s)))
        ≡ opened_as (cond (not l) (Err Length) (cond (not p) (Err Parity) (framed (frame_of s))))
    by_cases false p = refl
    by_cases true false = refl
    by_cases true true = opens (frame_of s)

-- 1, 3 and 4 come first, whatever is asked for 5

pub accepted_by : (s : List ℕ) → accepted s ≡ unless frame_refused (formed s)
unfolding framed formed
accepted_by s = by_cases (eqb (length s) 14) (eqb (remainder s) 0) (format_taken (bits 1 5 s) (bits 6 8 s))
  where
    by_cases : (l p t : Bool)
        → cond (not l) (Err Length) (cond (not p) (Err Parity) (cond (not t) (Err Format) (cond (frame_refused (frame_of s)) (Err TypeCode) (Ok (frame_of s)))))
        ≡ unless frame_refused (cond (not l) (Err Length) (cond (not p) (Err Parity) (cond (not t) (Err Format) (Ok (frame_of s)))))
    by_cases false p t = refl
    by_cases true false t = refl
    by_cases true true false = refl
    by_cases true true true = refl

pub frame_in_by : (s : List ℕ) → frame_in s ≡ unless frame_reserved (formed s)
unfolding headed formed
frame_in_by s = by_cases (eqb (length s) 14) (eqb (remainder s) 0) (format_taken (bits 1 5 s) (bits 6 8 s))
  where
    by_cases : (l p t : Bool)
        → cond (not l) (Err Length) (cond (not p) (Err Parity) (cond (not t) (Err Format) (cond (frame_reserved (frame_of s)) (Err TypeCode) (Ok (frame_of s)))))
        ≡ unless frame_reserved (cond (not l) (Err Length) (cond (not p) (Err Parity) (cond (not t) (Err Format) (Ok (frame_of s)))))
    by_cases false p t = refl
    by_cases true false t = refl
    by_cases true true false = refl
    by_cases true true true = refl

-- .. and what was opened, by its layout

pub frame_says_lem : (s : List ℕ) → decoded s ≡ decoded_by (frame_in s)
unfolding opened headed
frame_says_lem s =
    let f : Frame = frame_of s in
    by_cases (eqb (length s) 14) (eqb (remainder s) 0) (format_taken f.format f.control) (frame_reserved f)
  where
    by_cases : (l p t r : Bool)
        → cond (not l) (Err Length) (cond (not p) (Err Parity) (cond (not t) (Err Format) (cond r (Err TypeCode) (frame_says (frame_of s)))))
        ≡ decoded_by (cond (not l) (Err Length) (cond (not p) (Err Parity) (cond (not t) (Err Format) (cond r (Err TypeCode) (Ok (frame_of s))))))
    by_cases false p t r = refl
    by_cases true false t r = refl
    by_cases true true false r = refl
    by_cases true true true true = refl
    by_cases true true true false = refl

-- ---- the message of a frame

no_frame : {A : Type 0} {r : Refusal} {f : Frame} → Err r ≡ Ok f → A
no_frame e = let z : ◌≡◌ {A = ℕ} 0 1 = cc in let w : ⊥ = omega arith in absurd w

module _ (g f : Frame) where
  tested : (l p : Bool) → cond (not l) (Err Length) (cond (not p) (Err Parity) (framed g)) ≡ Ok f → framed g ≡ Ok f
  tested false p e = no_frame e
  tested true false e = no_frame e
  tested true true e = e

  -- what `framed` asks of a frame that it gives back
  passed : (b t r : Bool) → cond (not b) (Err Format) (cond (not t || r) (Err TypeCode) (Ok g)) ≡ Ok f
      → (b ≡ true) × (t ≡ true) × (r ≡ false) × (g ≡ f)
  passed false t r e = no_frame e
  passed true false r e = no_frame e
  passed true true true e = no_frame e
  passed true true false e = (refl, refl, refl, cc)

opened_as_lem : (g : Frame) (b : Body) → format_taken g.format g.control ≡ true → frame_reserved g ≡ false → taken_by (frame_coarse g) g.me ≡ Ok b
    → opened_as (Ok g) ≡ Ok (message_of g b)
unfolding opened
opened_as_lem g b h q r = rw (h, q, r)

pub frame_opens : (f : Frame) → IsAccepted f → Opens f
unfolding framed
frame_opens f a =
    let s : List ℕ = a.0 in
    let g : Frame = frame_of s in
    let p = passed g f (format_taken g.format g.control) (is_taken (layout_by (frame_coarse g) g.me)) (frame_reserved g) (tested g f (eqb (length s) 14) (eqb (remainder s) 0) a.1) in
    let r : Reads true (taken_by (frame_coarse g) g.me) = subst (λ (t : Bool). Reads t (taken_by (frame_coarse g) g.me)) p.1 (reads (layout_by (frame_coarse g) g.me) g.me) in
    of_frame g p.0 p.2 r.0 r.1 (read_good (frame_coarse g) g.me r.0 (mod-lt (numeral s / 2 ^ 24) (lit< tt)) r.1) p.3
  where
    of_frame : (g : Frame) → format_taken g.format g.control ≡ true → frame_reserved g ≡ false → (b : Body) → taken_by (frame_coarse g) g.me ≡ Ok b
        → (body_fits b ≡ true) × (body_me b ≡ g.me) → g ≡ f → Opens f
    of_frame g h n b r good q = subst Opens q (record { body = b; reads = r; message = opened_as_lem g b h n r; fits = good.0; same = good.1 })

-- ---- the table of RULES 3.2

says : (t : Bool) (x y : Result Frame Refusal) → accepted_said (cond t x y) ≡ cond t (accepted_said x) (accepted_said y)
says true x y = refl
says false x y = refl

-- what `accept` answers is what the table says
pub accept_says_the_table : (s : List ℕ) → accepted_said (accepted s) ≡ accept_table s
unfolding framed
accept_says_the_table s =
    says (earns1 s) _ _
    ∙ ap (cond (earns1 s) (number 1)) (says (earns3 s) _ _
    ∙ ap (cond (earns3 s) (number 3)) (says (earns4 s) _ _
    ∙ ap (cond (earns4 s) (number 4)) (says (frame_refused (frame_of s)) _ _
    ∙ ap₂ (λ (l : Layout) (b : Bool). cond (not (is_taken l) || b) (number 5) (accepted_said (Ok (frame_of s)))) (layout_in_lem s) (reserved_in_lem s))))
