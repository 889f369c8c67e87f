-- The ways out of a call with a stamp, by its tests; and that 1, 7, 2 and 13 leave the array and the table: the entries of a state are that state's again.
-- Assumes nothing.
use Rattle.std.specs.Prelude.{Result, Ok, Err}
use Prim.Native.Nat.{ℕ, zero, suc, ◌^◌, ◌<◌}
use mathlib.Core.Path.{◌≡◌, refl, sym, ap, ◌∙◌}
use mathlib.Core.Bool.{Bool, true, false, not, ◌||◌, true≢false}
use mathlib.Core.List.{List, [], ◌∷◌}
use native.Mathlib.Omega.{arith}
use borrow.Author.Tests.{eqb-true, leb-false, ltb-false, not-false}
use lib.Dec.{eqb, leb, ltb}
use lib.ListN.{length, get_or, set}
use Rattle.fields.proofs.Bools.{by_test, neither}
use Rattle.memory.specs.Offsets.{whole_places}
use Rattle.table.specs.Bytes.{bytes}
use Rattle.table.specs.Heard.{heard_as}
use Rattle.table.specs.Table.{After, after}
use Rattle.table.proofs.Lawful.{bytes_lawful}
use Rattle.stamps.specs.declared.Noted.{Noted}
use Rattle.stamps.specs.declared.Stamped.{Stamped}
use Rattle.stamps.specs.Heard.{heard}
use Rattle.stamps.specs.Stamps.{stamped}
use Rattle.stamps.specs.Times.{not_accepted, is_accepted}
use Rattle.stamps.proofs.Accepted.{not_accepted_leaves}
use Rattle.addercoil.specs.Blocks.{Both, both}
use Rattle.entries.specs.Sent.{Sent, sent}
use Rattle.addercoil.specs.Stamps.{state_in, state_row, no_state, noted_sent, noted_after, received_stamp}
use Rattle.entries.specs.Means.{bit}
use Rattle.addercoil.specs.Done.{done_number}
use Rattle.messages.specs.declared.Message.{Message}
use Rattle.refusals.specs.declared.Refusal.{Refusal}

-- two entries, both written
pub written : (l : List ℕ) (a b : ℕ) → length l ≡ 2 → set (set l 0 a) 1 b ≡ a ∷ b ∷ []
written (x ∷ y ∷ []) a b e = refl
written [] a b e = let n : ⊥ = omega (arith, e) in absurd n
written (x ∷ []) a b e = let n : ⊥ = omega (arith, e) in absurd n
written (x ∷ y ∷ z ∷ l) a b e = let n : ⊥ = omega (arith, e) in absurd n

pub two_entries : (m l : List ℕ) → not (eqb (length m) 14) || not (eqb (length l) 2) ≡ false → length l ≡ 2
two_entries m l h = eqb-true (length l) 2 (not-false _ (neither (not (eqb (length m) 14)) (not (eqb (length l) 2)) h).1)

-- a state in its entries: the second has 32 bits, and both are that state's again
pub last_fits : (l : List ℕ) → no_state l ≡ false → get_or l 1 0 < 2 ^ 32
last_fits l h = leb-false (2 ^ 32) (get_or l 1 0) (neither (ltb 1 (get_or l 0 0)) (leb (2 ^ 32) (get_or l 1 0)) h).1

flag : (a : ℕ) → a < 2 → bit (eqb a 1) ≡ a
flag zero h = refl
flag (suc zero) h = refl
flag (suc (suc a)) h = let n : ⊥ = omega arith in absurd n

pub row_again : (l : List ℕ) → length l ≡ 2 → no_state l ≡ false → state_row (state_in l) ≡ l
row_again (a ∷ b ∷ []) e h = ap (λ (x : ℕ). x ∷ b ∷ []) (flag a (omega (arith, ltb-false 1 a (neither (ltb 1 a) (leb (2 ^ 32) b) h).0)))
row_again [] e h = let n : ⊥ = omega (arith, e) in absurd n
row_again (x ∷ []) e h = let n : ⊥ = omega (arith, e) in absurd n
row_again (x ∷ y ∷ z ∷ l) e h = let n : ⊥ = omega (arith, e) in absurd n

module _ (s m : List ℕ) (stamp : ℕ) (l : List ℕ) where
  abbrev short : Bool
  short = not (eqb (length m) 14) || not (eqb (length l) 2)

  pub stamp_length : short ≡ true → both (sent 1 l) s ≡ received_stamp s m stamp l
  unfolding received_stamp
  stamp_length h = rw h

  module _ (h : short ≡ false) where
    module _ {t : Bool} (t_is : t ≡ whole_places (length s)) where
      pub stamp_places : not t ≡ true → both (sent 7 l) s ≡ received_stamp s m stamp l
      unfolding received_stamp
      stamp_places g = rw (h, ← t_is, g)

      module _ (g : not t ≡ false) where
        pub stamp_state : no_state l ≡ true → both (sent 8 l) s ≡ received_stamp s m stamp l
        unfolding received_stamp
        stamp_state f = rw (h, ← t_is, g, f)

        pub stamp_on : no_state l ≡ false → {n : Noted} {left : List ℕ} {x : Sent} → after n left ≡ heard (stamped bytes s (state_in l) m stamp) → x ≡ noted_sent n → both x left ≡ received_stamp s m stamp l
        unfolding received_stamp
        stamp_on f {left = left} e p = ap (λ (y : Sent). both y left) p ∙ ap noted_after e ∙ rw (h, ← t_is, g, f)

  -- ---- what is left by a stamp that is not accepted

  abbrev Leaves : Both → Type 0
  Leaves x = not_accepted x.sent.number ≡ true → x ≡ both (sent x.sent.number l) s

  not_accepted_lem : (d : Result Message Refusal) → not_accepted (done_number (heard_as d)) ≡ true → is_accepted d ≡ false
  not_accepted_lem (Ok n) h = absurd (true≢false (sym h))
  not_accepted_lem (Err r) h = ap not h

  stamped_leaves : stamp < 2 ^ 64 → state_row (state_in l) ≡ l → Leaves (noted_after (heard (stamped bytes s (state_in l) m stamp)))
  stamped_leaves fits e h =
      let a : Result Message Refusal = (stamped bytes s (state_in l) m stamp).answer.answer in
      ap (λ (x : After Stamped). noted_after (heard x)) (not_accepted_leaves bytes bytes_lawful s (state_in l) m stamp fits (not_accepted_lem a h))
      ∙ ap (λ (x : List ℕ). both (sent (done_number (heard_as a)) x) s) e

  pub stamp_leaves : stamp < 2 ^ 64 → Leaves (received_stamp s m stamp l)
  unfolding received_stamp
  stamp_leaves fits =
      by_test Leaves short _ _ (λ _ _. refl)
      (λ h. by_test Leaves (not (whole_places (length s))) _ _ (λ _ _. refl)
      (λ _. by_test Leaves (no_state l) _ _ (λ _ _. refl)
      (λ f. stamped_leaves fits (row_again l (two_entries m l h) f))))
