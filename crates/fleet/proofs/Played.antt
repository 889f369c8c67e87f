-- Tables side by side, of runs as they were played: what its calls answered and left is what a rule gives, so the theorem over the rules carries over, in any two forms.
-- Assumes nothing.
use Rattle.std.specs.Prelude.{Result, Ok, ⊤}
use Prim.Native.Nat.{ℕ}
use mathlib.Core.Bool.{cond}
use mathlib.Core.Path.{◌≡◌, refl, ap, sym, ◌∙◌, subst}
use mathlib.Core.List.{List, [], ◌∷◌}
use Rattle.whereabouts.specs.declared.Site.{Site}
use Rattle.rules.specs.Form.{Form, East}
use Rattle.rules.specs.Rules.{After, set_up, looked_up}
use Rattle.isolation.specs.Runs.{Call, Rule}
use Rattle.isolation.specs.Code.{Played}
use Rattle.isolation.specs.Played.{left_by, NotFull}
use Rattle.isolation.specs.Logs.{left}
use Rattle.isolation.proofs.Played.{played_left, played_never}
use Rattle.fleet.specs.Sparse.{ticked, heeds, Sparse, told, told_by, SamePlayed, Shards}
use Rattle.messages.specs.declared.Message.{Message}
use Rattle.refusals.specs.declared.Refusal.{Refusal}

played_told : {S : Type 0} (rule : Rule S) (key n : ℕ) (s : S) (cs : List Call) (rs : List (After S (Result Message Refusal))) → Played rule s cs rs → told_by key n cs rs ≡ told rule key n s cs
played_told rule key n s [] [] p = refl
played_told {S} rule key n s (c ∷ cs) (r ∷ rs) p =
    ap (λ (l : List (Result Message Refusal)). cond (heeds key n c) (r.answer ∷ l) l) (played_told rule key (ticked n c) r.table cs rs p.1)
    ∙ ap (λ (x : After S (Result Message Refusal)). cond (heeds key n c) (x.answer ∷ told rule key (ticked n c) x.table cs) (told rule key (ticked n c) x.table cs)) p.0
played_told rule key n s [] (r ∷ rs) p = absurd p
played_told rule key n s (c ∷ cs) [] p = absurd p

module _ {S T : Type 0} (F : Form S) (G : Form T) {rule : Rule S} {rule' : Rule T} (side_by_side : Shards F G rule rule') where
  pub played_shards : (key : ℕ) (site : Site) → East site → (s : S) (t : T) (a : After S (Result ⊤ Refusal)) (b : After T (Result ⊤ Refusal)) → a ≡ set_up F s site → b ≡ set_up G t site → a.answer ≡ Ok tt → b.answer ≡ Ok tt
      → (xs ys : List Call) → Sparse key xs ys → (ps : List (After S (Result Message Refusal))) (qs : List (After T (Result Message Refusal))) → Played rule a.table xs ps → Played rule' b.table ys qs
      → NotFull key xs ps → NotFull key ys qs → SamePlayed F G key a.table b.table xs ys ps qs
  played_shards key site east s t a b d e p q xs ys sparse ps qs x y f g =
      let x' : Played rule (set_up F s site).table xs ps = subst (λ (z : After S (Result ⊤ Refusal)). Played rule z.table xs ps) d x in
      let y' : Played rule' (set_up G t site).table ys qs = subst (λ (z : After T (Result ⊤ Refusal)). Played rule' z.table ys qs) e y in
      let same = side_by_side key site east s t (sym (ap (λ (z : After S (Result ⊤ Refusal)). z.answer) d) ∙ p) (sym (ap (λ (z : After T (Result ⊤ Refusal)). z.answer) e) ∙ q) xs ys sparse
      (played_never F rule key _ xs ps x' f) (played_never G rule' key _ ys qs y' g) in
      record {
        answers = played_told rule key 0 _ xs ps x' ∙ same.answers ∙ sym (played_told rule' key 0 _ ys qs y');
        asked = ap (λ (z : S). looked_up F z key) (played_left F rule key _ xs ps x ∙ ap (λ (z : After S (Result ⊤ Refusal)). left rule z.table xs) d)
            ∙ same.asked
            ∙ sym (ap (λ (z : T). looked_up G z key) (played_left G rule' key _ ys qs y ∙ ap (λ (z : After T (Result ⊤ Refusal)). left rule' z.table ys) e));
      }
