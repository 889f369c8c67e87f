-- Tables side by side, of `hear`, which is what C calls: it answers that a message is done, or a number, and leaves what `receive` leaves.
-- Assumes nothing.
use Rattle.std.specs.Prelude.{Result, Ok, Err, Option, ⊤}
use Prim.Native.Nat.{ℕ}
use mathlib.Core.Bool.{Bool, true, false, cond}
use mathlib.Core.Path.{◌≡◌, refl, ap, sym, ◌∙◌, subst}
use mathlib.Core.List.{List, [], ◌∷◌, map}
use Rattle.refusals.specs.declared.Refusal.TheVariants.{Full}
use Rattle.positions.specs.declared.Spot.{Spot}
use Rattle.rules.specs.Form.{East}
use Rattle.rules.specs.Rules as rules
use Rattle.table.specs.Bytes.{bytes}
use Rattle.table.specs.Heard.{heard_as, heard}
use Rattle.table.specs.Table.{After, received, looked_up}
use Rattle.isolation.specs.Runs.{Call, own, call, NeverFull}
use Rattle.isolation.specs.Logs.{left}
use Rattle.isolation.proofs.OfCode.{Begun, given, begun_is}
use Rattle.isolation.proofs.OfReplay.{LookUpMet, look_up_is}
use Rattle.merging.proofs.OfCode.{HearMet, hear_is}
use Rattle.fleet.specs.Sparse.{ticked, heeds, Sparse, told, told_by}
use Rattle.fleet.proofs.OfCode.{bytes_shards}
use Rattle.messages.specs.declared.Message.{Message}
use Rattle.refusals.specs.declared.Refusal.{Refusal}
use Rattle.track.specs.declared.Track.{Track}

-- one after another, each lent the table that the one before left
pub data Heeded : List ℕ → List Call → List (After (Result ⊤ Refusal)) → Type 0 where
  stopped : (s : List ℕ) → Heeded s [] []
  then : {s : List ℕ} {c : Call} {r : After (Result ⊤ Refusal)} {cs : List Call} {rs : List (After (Result ⊤ Refusal))} → HearMet s c.message c.time r → Heeded r.table cs rs → Heeded s (c ∷ cs) (r ∷ rs)

-- the table that the last of them left, and that 6 was answered to none of its messages
abbrev pub last_by : List ℕ → List (After (Result ⊤ Refusal)) → List ℕ
last_by s [] = s
last_by s (r ∷ rs) = last_by r.table rs

abbrev pub NoneFull : ℕ → List Call → List (After (Result ⊤ Refusal)) → Type 0
NoneFull key (c ∷ cs) (r ∷ rs) = (own key c ≡ true → r.answer ≡ Err Full → ⊥) × NoneFull key cs rs
NoneFull key [] rs = Unit {0}
NoneFull key (c ∷ cs) [] = Unit {0}

-- ---- they did what the rules say

record ByRules (key : ℕ) (s : List ℕ) (cs : List Call) (rs : List (After (Result ⊤ Refusal))) : Type 0 where
  pub told_is : (n : ℕ) → told_by key n cs rs ≡ map heard_as (told received key n s cs)
  pub left_is : last_by s rs ≡ left received s cs
  pub never : NoneFull key cs rs → NeverFull received key s cs

mapped : (b : Bool) (d : Result Message Refusal) (ds : List (Result Message Refusal)) → cond b (heard_as d ∷ map heard_as ds) (map heard_as ds) ≡ map heard_as (cond b (d ∷ ds) ds)
mapped true d ds = refl
mapped false d ds = refl

first : (key : ℕ) (s : List ℕ) (c : Call) (cs : List Call) (r : After (Result ⊤ Refusal)) (rs : List (After (Result ⊤ Refusal))) → r ≡ heard (call received s c) → ByRules key r.table cs rs → ByRules key s (c ∷ cs) (r ∷ rs)
first key s c cs r rs e more =
    subst (λ (x : After (Result ⊤ Refusal)). ByRules key x.table cs rs → ByRules key s (c ∷ cs) (x ∷ rs)) (sym e)
    (λ rest. record {
      told_is = λ n. ap (λ (l : List (Result ⊤ Refusal)). cond (heeds key n c) (heard_as (call received s c).answer ∷ l) l) (rest.told_is (ticked n c)) ∙ mapped (heeds key n c) _ _;
      left_is = rest.left_is;
      never = λ f. (λ o a. f.0 o (ap heard_as a), rest.never f.1);
    })
    more

by_rules : (key : ℕ) {s : List ℕ} {cs : List Call} {rs : List (After (Result ⊤ Refusal))} → Heeded s cs rs → ByRules key s cs rs
by_rules key (stopped s) = record { told_is = λ n. refl; left_is = refl; never = λ f. tt }
by_rules key (then {s} {c} {r} {cs} {rs} b more) = first key s c cs r rs (hear_is b) (by_rules key more)

-- ---- two sparse runs

pub record SameHeard (key : ℕ) (s t : List ℕ) (xs ys : List Call) (ps qs : List (After (Result ⊤ Refusal))) : Type 0 where
  pub answers : told_by key 0 xs ps ≡ told_by key 0 ys qs
  pub asked : {x y : Result (Option Track) Refusal} → LookUpMet (last_by s ps) key x → LookUpMet (last_by t qs) key y → x ≡ y

pub hear_shards : (key : ℕ) (site : Option Spot) → East (given site) → (s t : List ℕ) (a b : After (Result ⊤ Refusal)) → Begun site s a → Begun site t b → a.answer ≡ Ok tt → b.answer ≡ Ok tt
    → {xs ys : List Call} → Sparse key xs ys → {ps qs : List (After (Result ⊤ Refusal))} → Heeded a.table xs ps → Heeded b.table ys qs
    → NoneFull key xs ps → NoneFull key ys qs → SameHeard key a.table b.table xs ys ps qs
hear_shards key site east s t a b u v p q {xs} {ys} sparse {ps} {qs} x y f g =
    let d : a ≡ rules.set_up bytes s (given site) = begun_is site s a u in
    let e : b ≡ rules.set_up bytes t (given site) = begun_is site t b v in
    let x' : ByRules key (rules.set_up bytes s (given site)).table xs ps = subst (λ (z : After (Result ⊤ Refusal)). ByRules key z.table xs ps) d (by_rules key x) in
    let y' : ByRules key (rules.set_up bytes t (given site)).table ys qs = subst (λ (z : After (Result ⊤ Refusal)). ByRules key z.table ys qs) e (by_rules key y) in
    let same = bytes_shards key (given site) east s t (sym (ap (λ (z : After (Result ⊤ Refusal)). z.answer) d) ∙ p) (sym (ap (λ (z : After (Result ⊤ Refusal)). z.answer) e) ∙ q) xs ys sparse (x'.never f) (y'.never g) in
    record {
      answers = x'.told_is 0 ∙ ap (map heard_as) same.answers ∙ sym (y'.told_is 0);
      asked = λ m n.
          look_up_is m
          ∙ ap (λ (z : List ℕ). looked_up z key) (ap (λ (z : After (Result ⊤ Refusal)). last_by z.table ps) d ∙ x'.left_is)
          ∙ same.asked
          ∙ sym (ap (λ (z : List ℕ). looked_up z key) (ap (λ (z : After (Result ⊤ Refusal)). last_by z.table qs) e ∙ y'.left_is))
          ∙ sym (look_up_is n);
    }
