-- The ways through a call, and what the decoder can refuse: by the tests in their order.
-- Assumes nothing.
use Rattle.std.specs.Prelude.{Result, Ok, Err}
use Prim.Native.Nat.{ℕ, ◌/◌, ◌^◌, ◌≤◌, ◌<◌}
use native.Mathlib.Nat.{mod-lt}
use native.Mathlib.Omega.{arith}
use mathlib.Core.Bool.{Bool, true, false, not, false≢true}
use mathlib.Core.Logic.{inl, inr}
use mathlib.Core.Path.{◌≡◌, refl, ap, sym, ◌∙◌, subst}
use mathlib.Core.List.{List}
use lib.Dec.{eqb, ltb, lit<}
use lib.ListN.{length}
use borrow.Author.Tests.{ltb-true, ltb-false, le-ltb, eqb-true, eqb-false, eq-eqb, not-true, not-false}
use Rattle.refusals.specs.declared.Refusal.{Refusal}
use Rattle.refusals.specs.declared.Refusal.TheVariants.{Length, Late, TypeCode, Places}
use Rattle.refusals.specs.Numbers.{number_of}
use Rattle.fields.specs.Bytes.{number as numeral}
use Rattle.fields.proofs.Bools.{by_test}
use Rattle.parity.specs.Parity.{remainder}
use Rattle.layouts.specs.Bodies.{layout_by, taken_as, taken_by, body_fits}
use Rattle.layouts.specs.declared.bodies.Layout.{Layout}
use Rattle.layouts.specs.declared.bodies.Layout.TheVariants as layout
use Rattle.layouts.proofs.BothWays.{read_good}
use Rattle.messages.specs.declared.Message.{Message}
use Rattle.messages.specs.Message.{bits, format_taken, coarse_by, reserved_in, with_body, opened, decoded}
use Rattle.messages.proofs.Keys.{decoded_from}
use Rattle.rules.specs.Form.{Form}
use Rattle.rules.specs.Rules.{After, after, delivered, received}
use Rattle.rules.specs.View.{Early, Undecoded, Unplaced, Later}
use Rattle.layouts.specs.declared.bodies.Body.{Body}

-- ---- answers apart

abbrev is_refused : Result Message Refusal → Bool
is_refused (Ok m) = false
is_refused (Err r) = true

pub not_refused : {m : Message} {r : Refusal} → Ok m ≡ Err r → ⊥
not_refused e = false≢true (ap is_refused e)

abbrev reason : Result Message Refusal → Refusal
reason (Ok m) = Length
reason (Err r) = r

pub refused_as : {q r : Refusal} → ◌≡◌ {A = Result Message Refusal} (Err q) (Err r) → q ≡ r
refused_as e = ap reason e

-- 3, 4 and 5 are none of 6 and 12
decoder_number : (r : Refusal) → Undecoded r → (3 ≤ number_of r) × (number_of r ≤ 5)
decoder_number r (inl e) = let n = ap number_of e in (omega arith, omega arith)
decoder_number r (inr (inl e)) = let n = ap number_of e in (omega arith, omega arith)
decoder_number r (inr (inr e)) = let n = ap number_of e in (omega arith, omega arith)

pub not_unplaced : (r : Refusal) → Undecoded r → Unplaced r → ⊥
not_unplaced r h (inl e) = let n = ap number_of e in omega (arith, decoder_number r h)
not_unplaced r h (inr e) = let n = ap number_of e in omega (arith, decoder_number r h)

-- 1, 7 and 2 are none of 3, 4, 5, 6 and 12
later_number : (r : Refusal) → Later r → (number_of r ≡ 7 → ⊥) × (3 ≤ number_of r)
later_number r (inl h) = ((λ n. omega (arith, decoder_number r h)), (decoder_number r h).0)
later_number r (inr (inl e)) = let n = ap number_of e in ((λ m. omega arith), omega arith)
later_number r (inr (inr e)) = let n = ap number_of e in ((λ m. omega arith), omega arith)

pub not_both : (r : Refusal) → Early r → Later r → ⊥
not_both r (inl e) h = let n = ap number_of e in omega (arith, (later_number r h).1)
not_both r (inr (inl e)) h = (later_number r h).0 (ap number_of e)
not_both r (inr (inr e)) h = let n = ap number_of e in omega (arith, (later_number r h).1)

-- ---- the decoder

abbrev ByBody : Result Body Refusal → Type 0
ByBody (Ok b) = Unit
ByBody (Err r) = r ≡ TypeCode

body_refuses : (l : Layout) (n : ℕ) → ByBody (taken_as l n)
body_refuses layout.Identification n = tt
body_refuses layout.Surface n = tt
body_refuses layout.Airborne n = tt
body_refuses layout.Ground n = tt
body_refuses layout.Air n = tt
body_refuses layout.Status n = tt
body_refuses layout.Coarse n = tt
body_refuses layout.NotTaken n = refl

abbrev ByDecoder : Result Message Refusal → Type 0
ByDecoder (Ok m) = Unit
ByDecoder (Err r) = Undecoded r

with_body_lem : (format control address : ℕ) (b : Result Body Refusal) → ByBody b → ByDecoder (with_body format control address b)
with_body_lem format control address (Ok b) e = tt
with_body_lem format control address (Err r) e = inr (inr e)

module _ (message : List ℕ) where
  opened_refuses : ByDecoder (opened (bits 1 5 message) (bits 6 8 message) (bits 9 32 message) (bits 33 88 message))
  unfolding opened
  opened_refuses =
      let n : ℕ = bits 33 88 message in
      let coarse : Bool = coarse_by (bits 1 5 message) (bits 6 8 message) in
      by_test ByDecoder (not (format_taken (bits 1 5 message) (bits 6 8 message))) _ _ (λ _. inr (inl refl))
      (λ _. by_test ByDecoder (reserved_in (bits 1 5 message) (bits 6 8 message) n) _ _ (λ _. inr (inr refl))
      (λ _. with_body_lem (bits 1 5 message) (bits 6 8 message) (bits 9 32 message) (taken_by coarse n) (body_refuses (layout_by coarse n) n)))

  pub decoder_refuses : (r : Refusal) → length message ≡ 14 → decoded message ≡ Err r → Undecoded r
  decoder_refuses r l d =
      subst ByDecoder d
      (by_test ByDecoder (not (eqb (length message) 14)) _ _ (λ e. absurd (eqb-false (length message) 14 (not-true _ e) l))
      (λ _. by_test ByDecoder (not (eqb (remainder message) 0)) _ _ (λ _. inl refl) (λ _. opened_refuses)))

  pub decoded_14 : (m : Message) → decoded message ≡ Ok m → length message ≡ 14
  decoded_14 m d = by_cases (eqb (length message) 14) refl
    where
      by_cases : (b : Bool) → eqb (length message) 14 ≡ b → length message ≡ 14
      by_cases true e = eqb-true _ _ e
      by_cases false e = let short : decoded message ≡ Err Length = rw e in absurd (not_refused (sym d ∙ short))

  -- what it takes fits: each field is cut from its bits
  pub decoded_fits : (m : Message) → decoded message ≡ Ok m → body_fits m.body ≡ true
  decoded_fits m d = (read_good (coarse_by (bits 1 5 message) (bits 6 8 message)) (bits 33 88 message) m.body (mod-lt (numeral message / 2 ^ 24) (lit< tt)) (decoded_from message m d).0).0

-- ---- a call

pub data Way {S : Type 0} (F : Form S) (s : S) (message : List ℕ) (t : ℕ) : After S (Result Message Refusal) → Type 0 where
  short : (length message ≡ 14 → ⊥) → Way F s message t (after (Err Length) s)
  uneven : length message ≡ 14 → F.whole s ≡ false → Way F s message t (after (Err Places) s)
  late : length message ≡ 14 → F.whole s ≡ true → t < F.clock s → Way F s message t (after (Err Late) s)
  timely : length message ≡ 14 → F.whole s ≡ true → F.clock s ≤ t → Way F s message t (delivered F (F.moved s t) (decoded message) t)

module _ {S : Type 0} (F : Form S) (s : S) (message : List ℕ) (t : ℕ) where
  pub way : Way F s message t (received F s message t)
  unfolding received
  way =
      by_test (Way F s message t) (not (eqb (length message) 14)) _ _ (λ l. short (eqb-false (length message) 14 (not-true _ l)))
      (λ l. by_test (Way F s message t) (not (F.whole s)) _ _ (λ w. uneven (fourteen l) (not-true _ w))
      (λ w. by_test (Way F s message t) (ltb t (F.clock s)) _ _ (λ h. late (fourteen l) (not-false _ w) (ltb-true _ _ h))
      (λ h. timely (fourteen l) (not-false _ w) (ltb-false _ _ h))))
    where
      fourteen : not (eqb (length message) 14) ≡ false → length message ≡ 14
      fourteen e = eqb-true (length message) 14 (not-false _ e)

  -- a call in time is a delivery
  pub received_in_time : length message ≡ 14 → F.whole s ≡ true → F.clock s ≤ t → received F s message t ≡ delivered F (F.moved s t) (decoded message) t
  unfolding received
  received_in_time l w h = rw (eq-eqb (length message) 14 l, w, le-ltb t (F.clock s) h)
