-- What the rules answer, in the rules' terms: 7, for a set-up then 8, or what the table holds. Each by its tests; of a received message it is Exactly that says it.
-- Assumes nothing.
use Rattle.std.specs.Prelude.{Ok, Err, Option, Some, None, Result}
use Prim.Native.Nat.{ℕ}
use mathlib.Core.Bool.{Bool, true, false, cond, not}
use mathlib.Core.Path.{◌≡◌, refl, ap, ◌∙◌}
use lib.Dec.{eqb, ltb}
use Rattle.refusals.specs.declared.Refusal.TheVariants.{Places, Field}
use Rattle.refusals.specs.Said.{number, gives}
use Rattle.whereabouts.specs.declared.Site.{Site}
use Rattle.track.specs.declared.Track.{Track}
use Rattle.track.specs.Track.{new_track}
use Rattle.track.specs.Meaning.{NothingForeign}
use Rattle.track.specs.Held.{track_or_new}
use Rattle.track.specs.Said.{looked_said}
use Rattle.rules.specs.Form.{Form}
use Rattle.rules.specs.Rules.{after, set_up, place_of, looked_up, least_above, next_above}
use Rattle.rules.specs.View.{view}
use Rattle.rules.specs.Said.{done, set_up_said, next_said, key_above, earns7, earns8, set_up_table}
use Rattle.rules.proofs.Laws.{looked_up_lem}
use Rattle.refusals.specs.declared.Refusal.{Refusal}

module _ {S : Type 0} (F : Form S) (s : S) where
  pub set_up_says : (o : Site) → set_up_said (set_up F s o).answer ≡ set_up_table F s o
  unfolding set_up
  set_up_says o = by_tests (earns7 F s) (earns8 o) (F.emptied s o)
    where
      by_tests : (a b : Bool) (z : S)
          → set_up_said (cond a (after (Err Places) s) (cond b (after (Err Field) s) (after (Ok tt) z))).answer ≡ cond a (number 7) (cond b (number 8) done)
      by_tests true b z = refl
      by_tests false true z = refl
      by_tests false false z = refl

  viewed : (v : Option Track) → looked_said (Ok v) ≡ gives v
  viewed None = refl
  viewed (Some t) = refl

  look_refused : (key : ℕ) → F.whole s ≡ false → looked_said (looked_up F s key) ≡ number 7
  unfolding looked_up
  look_refused key e = rw e

  pub look_says : (key : ℕ) → looked_said (looked_up F s key) ≡ cond (earns7 F s) (number 7) (gives (view F s key))
  look_says key = by_whole (F.whole s) refl
    where
      by_whole : (w : Bool) → F.whole s ≡ w → looked_said (looked_up F s key) ≡ cond (not w) (number 7) (gives (view F s key))
      by_whole true e = ap looked_said (looked_up_lem F s key e) ∙ viewed (view F s key)
      by_whole false e = look_refused key e

  pub next_says : (above : ℕ) → next_said (next_above F s above) ≡ cond (earns7 F s) (number 7) (gives (key_above F s above))
  unfolding next_above
  next_says above = by_tests (earns7 F s) (eqb (least_above F s above) 0) (least_above F s above)
    where
      by_tests : (a b : Bool) (k : ℕ) → next_said (cond a (Err Places) (Ok (cond b None (Some k)))) ≡ cond a (number 7) (gives (cond b None (Some k)))
      by_tests true b k = refl
      by_tests false true k = refl
      by_tests false false k = refl

-- ---- what a look hands out: nothing of a foreign TYPE, and nothing where a mark is not set, if no place has such

new_nothing_foreign : NothingForeign new_track
new_nothing_foreign =
    record { identification = λ e. refl; velocity = λ e. refl; surface = λ e. refl; status = λ e. refl; position = λ e. refl; even = λ e. refl; odd = λ e. refl }

pub looked_nothing_foreign : {S : Type 0} (F : Form S) (s : S) (key : ℕ) → ((i : ℕ) → NothingForeign (F.cell s i).track) → NothingForeign (track_or_new (looked_up F s key))
unfolding looked_up
looked_nothing_foreign F s key all = by_cases (not (F.whole s)) (ltb (place_of F s (F.clock s) key) (F.count s))
  where
    by_cases : (a b : Bool)
        → let x : Result (Option Track) Refusal = cond a (Err Places)
        (cond b (Ok (Some ((F.cell s (place_of F s (F.clock s) key)).track))) (Ok None)) in
        NothingForeign (track_or_new x)
    by_cases true b = new_nothing_foreign
    by_cases false true = all (place_of F s (F.clock s) key)
    by_cases false false = new_nothing_foreign
