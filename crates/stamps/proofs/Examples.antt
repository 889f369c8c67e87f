-- Each of the three premises is needed: a run for each from a set-up, in any form of the table, in which the other two hold, and the clock is wrong or a message is late. And all three can hold where the counter starts again. The messages are 14 zero bytes, which earn 4: the stamps count all the same.
-- Assumes nothing.
use Rattle.std.specs.Prelude.{Ok, Err, Some, None}
use Rattle.std.proofs.Common.{◌≡◌, ℕ, ◌+◌, ◌^◌, ◌<◌, Bool, false, cond, List, [], ◌∷◌, replicate, sym, refl, ap, ◌∙◌, subst, true≢false, arith, lit<}
use Rattle.refusals.specs.declared.Refusal.TheVariants.{Late}
use Rattle.whereabouts.specs.declared.Site.{Site}
use Rattle.rules.specs.Form.{Form, Lawful}
use Rattle.rules.specs.Rules.{After}
use Rattle.rules.specs.View.{Fresh}
use Rattle.stamps.specs.declared.Stamps.{Stamps}
use Rattle.stamps.specs.declared.Stamped.{Stamped}
use Rattle.stamps.specs.Stamps.{fresh, last_is, distance, extended, stamped}
use Rattle.stamps.specs.Times.{is_accepted, IfElse, Call, stamp_of, Played, FirstTrue, NeverBack, NoneFar, Right}
use Rattle.stamps.proofs.Ways.{by_clock, stamped_by_lem}
use Rattle.stamps.proofs.Extension.{Moved, moves, first_is, right_from}

pub wide : (t : ℕ) → t < 2 ^ 32 → t < 2 ^ 64
wide t h = omega arith

abbrev at : (time : ℕ) → time < 2 ^ 64 → Call
at time fits = record { message = replicate 14 0; time = time; fits = fits }

-- two calls, the first before 2^32
abbrev pair : (a b : ℕ) → a < 2 ^ 32 → b < 2 ^ 64 → List Call
pair a b h g = at a (wide a h) ∷ at b g ∷ []

-- 2^32, whose stamp is 0; 5, then 4; 0, then 2^31; 2^32 - 1, then 2^32 + 5, whose stamp is 5
abbrev turned : List Call
turned = at 4294967296 (lit< tt) ∷ []

abbrev back : List Call
back = pair 5 4 (lit< tt) (lit< tt)

abbrev far : List Call
far = pair 0 2147483648 (lit< tt) (lit< tt)

abbrev again : List Call
again = pair 4294967295 4294967301 (lit< tt) (lit< tt)

back_late : extended (last_is 5) 5 (stamp_of 4) ≡ Err Late
unfolding extended distance
back_late = refl

far_late : extended (last_is 0) 0 (stamp_of 2147483648) ≡ Err Late
unfolding extended distance
far_late = refl

-- the table as a set-up leaves it
module _ {S : Type 0} (F : Form S) (L : Lawful F) (site : Site) (s : S) (x : Fresh F site s) where
  -- the run of the calls, in which the others of the premises hold and the times are not right
  abbrev pub Wrong : List Call → (List (After S Stamped) → Type 0) → Type 0
  Wrong cs Others = (rs : List (After S Stamped)) × (Played F s fresh cs rs × (Others rs × (Right F cs rs → ⊥)))

  abbrev first : ℕ → After S Stamped
  first stamp = stamped F s fresh (replicate 14 0) stamp

  module _ (a : ℕ) (h : a < 2 ^ 32) where
    low : stamp_of a ≡ a
    low = omega arith

    first_at : Moved F L s x.table.size fresh (at a (wide a h)) (first (stamp_of a))
    first_at =
        moves F L s x.table.size fresh (at a (wide a h)) refl (omega (arith, x.clock))
        (first_is (F.clock s) (stamp_of a) (omega (arith, x.clock)) ∙ ap Ok low)

  -- the first accepted stamp is not the true time
  pub first_needed : Wrong turned (λ rs. NeverBack 0 turned × NoneFar None turned rs)
  first_needed = (
    first 0 ∷ [],
    (
      (refl, tt),
      (
        ((omega arith, tt), (tt, tt)),
        λ r. let e : ◌≡◌ {A = ℕ} 0 4294967296 = sym (first_at 0 (lit< tt)).clock_is ∙ (r.0 refl).1 in omega arith,
      ),
    ),
  )

  module _ (a b : ℕ) (h : a < 2 ^ 32) (g : b < 2 ^ 64) where
    abbrev second : After S Stamped
    second = stamped F (first (stamp_of a)).table (first (stamp_of a)).answer.state (replicate 14 0) (stamp_of b)

    abbrev run : List (After S Stamped)
    run = first (stamp_of a) ∷ second ∷ []

    second_late : extended (last_is a) a (stamp_of b) ≡ Err Late → is_accepted second.answer.answer ≡ false
    second_late late =
        let m = first_at a h in
        ap (λ (y : After S Stamped). is_accepted y.answer.answer)
        (stamped_by_lem F (first (stamp_of a)).table (first (stamp_of a)).answer.state (replicate 14 0) (stamp_of b)
        (by_clock F (first (stamp_of a)).table (first (stamp_of a)).answer.state (replicate 14 0) (stamp_of b) refl m.whole
        ∙ ap (λ (k : ℕ). extended (first (stamp_of a)).answer.state k (stamp_of b)) m.clock_is
        ∙ ap (λ (o : Stamps). extended o a (stamp_of b)) (m.state_is ∙ ap last_is (low a h))
        ∙ late))

    second_wrong : extended (last_is a) a (stamp_of b) ≡ Err Late → (Others : List (After S Stamped) → Type 0) → Others run → Wrong (pair a b h g) Others
    second_wrong late Others o = (run, ((refl, (refl, tt)), (o, λ r. true≢false (sym (r.1.0 refl).0 ∙ second_late late))))

    first_true : FirstTrue (pair a b h g) run
    first_true = subst (λ (o : Bool). IfElse o (stamp_of a ≡ a) (FirstTrue (at b g ∷ []) (second ∷ []))) (sym (first_at a h).accepted) (low a h)

    none_far : b < a + 2 ^ 31 → NoneFar None (pair a b h g) run
    none_far n = (tt, subst (λ (o : Bool). NoneFar (cond o (Some a) None) (at b g ∷ []) (second ∷ [])) (sym (first_at a h).accepted) (n, tt))

  -- a true time goes back
  pub never_back_needed : Wrong back (λ rs. FirstTrue back rs × NoneFar None back rs)
  never_back_needed = second_wrong 5 4 (lit< tt) (lit< tt) back_late _ (first_true 5 4 (lit< tt) (lit< tt), none_far 5 4 (lit< tt) (lit< tt) (omega arith))

  -- a true time is 2^31 past the last accepted one
  pub none_far_needed : Wrong far (λ rs. FirstTrue far rs × NeverBack 0 far)
  none_far_needed = second_wrong 0 2147483648 (lit< tt) (lit< tt) far_late _ (first_true 0 2147483648 (lit< tt) (lit< tt), (omega arith, (omega arith, tt)))

  -- the counter starts again between two calls: the premises hold, and after the second call the clock is its true time
  pub across_a_turn : (rs : List (After S Stamped)) × (Played F s fresh again rs × ((FirstTrue again rs × (NeverBack 0 again × NoneFar None again rs)) × Right F again rs))
  across_a_turn =
      let rs : List (After S Stamped) = run 4294967295 4294967301 (lit< tt) (lit< tt) in
      let a : FirstTrue again rs = first_true 4294967295 4294967301 (lit< tt) (lit< tt) in
      let b : NeverBack 0 again = (omega arith, (omega arith, tt)) in
      let f : NoneFar None again rs = none_far 4294967295 4294967301 (lit< tt) (lit< tt) (omega arith) in
      (rs, ((refl, (refl, tt)), ((a, (b, f)), right_from F L again rs s fresh 0 x.table.size x.clock refl (refl, (refl, tt)) a b f)))
