-- Demand 3 of a run as it was played: what its calls answered and left is what a rule gives, so a theorem over the rule carries over.
-- Assumes nothing.
use Rattle.std.specs.Prelude.{Result, Ok, ⊤}
use Prim.Native.Nat.{ℕ}
use mathlib.Core.Path.{◌≡◌, refl, ap, ap₂, sym, ◌∙◌, subst}
use mathlib.Core.List.{List, [], ◌∷◌}
use Rattle.whereabouts.specs.declared.Site.{Site}
use Rattle.rules.specs.Form.{Form, East}
use Rattle.rules.specs.Rules.{After, set_up}
use Rattle.isolation.specs.Runs.{Call, Alike, Rule, NeverFull, Seen, saw, seen, Isolation}
use Rattle.isolation.specs.Played.{left_by, shown, NotFull}
use Rattle.isolation.specs.Code.{Played}
use Rattle.isolation.specs.Logs.{left}
use Rattle.messages.specs.declared.Message.{Message}
use Rattle.refusals.specs.declared.Refusal.{Refusal}

module _ {S : Type 0} (F : Form S) (rule : Rule S) (key : ℕ) where
  played_seen : (s : S) (cs : List Call) (rs : List (After S (Result Message Refusal))) → Played rule s cs rs → shown F key cs rs ≡ seen F rule key s cs
  played_seen s [] [] p = refl
  played_seen s (c ∷ cs) (r ∷ rs) p =
      ap₂ (λ (x : Seen) (xs : List Seen). x ∷ xs) (ap (saw F key c) p.0)
      (played_seen r.table cs rs p.1 ∙ ap (λ (x : After S (Result Message Refusal)). seen F rule key x.table cs) p.0)
  played_seen s [] (r ∷ rs) p = absurd p
  played_seen s (c ∷ cs) [] p = absurd p

  pub played_left : (s : S) (cs : List Call) (rs : List (After S (Result Message Refusal))) → Played rule s cs rs → left_by s rs ≡ left rule s cs
  played_left s [] [] p = refl
  played_left s (c ∷ cs) (r ∷ rs) p = played_left r.table cs rs p.1 ∙ ap (λ (x : After S (Result Message Refusal)). left rule x.table cs) p.0
  played_left s [] (r ∷ rs) p = absurd p
  played_left s (c ∷ cs) [] p = absurd p

  pub played_never : (s : S) (cs : List Call) (rs : List (After S (Result Message Refusal))) → Played rule s cs rs → NotFull key cs rs → NeverFull rule key s cs
  played_never s [] [] p n = tt
  played_never s (c ∷ cs) (r ∷ rs) p n = (
    λ o a. n.0 o (ap (λ (x : After S (Result Message Refusal)). x.answer) p.0 ∙ a),
    subst (λ (x : After S (Result Message Refusal)). NeverFull rule key x.table cs) p.0 (played_never r.table cs rs p.1 n.1),
  )
  played_never s [] (r ∷ rs) p n = absurd p
  played_never s (c ∷ cs) [] p n = absurd p

-- two runs from a set-up each, alike for an aircraft, show it the same
module _ {S T : Type 0} (F : Form S) (G : Form T) (rule : Rule S) (rule' : Rule T) (isolated : Isolation F G rule rule') where
  pub played_isolated : (key : ℕ) (site : Site) → East site → (s : S) (t : T) (a : After S (Result ⊤ Refusal)) (b : After T (Result ⊤ Refusal)) → a ≡ set_up F s site → b ≡ set_up G t site → a.answer ≡ Ok tt → b.answer ≡ Ok tt
      → (xs ys : List Call) → Alike key xs ys → (ps : List (After S (Result Message Refusal))) (qs : List (After T (Result Message Refusal))) → Played rule a.table xs ps → Played rule' b.table ys qs
      → NotFull key xs ps → NotFull key ys qs → shown F key xs ps ≡ shown G key ys qs
  played_isolated key site east s t a b d e p q xs ys alike ps qs x y f g =
      let x' : Played rule (set_up F s site).table xs ps = subst (λ (z : After S (Result ⊤ Refusal)). Played rule z.table xs ps) d x in
      let y' : Played rule' (set_up G t site).table ys qs = subst (λ (z : After T (Result ⊤ Refusal)). Played rule' z.table ys qs) e y in
      played_seen F rule key _ xs ps x'
      ∙ isolated key site east s t (sym (ap (λ (z : After S (Result ⊤ Refusal)). z.answer) d) ∙ p) (sym (ap (λ (z : After T (Result ⊤ Refusal)). z.answer) e) ∙ q) xs ys alike
      (played_never F rule key _ xs ps x' f) (played_never G rule' key _ ys qs y' g)
      ∙ sym (played_seen G rule' key _ ys qs y')
