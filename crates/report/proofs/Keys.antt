-- From one key held to the next no row is added: what two keys enclose is not held, so the definitions over all keys skip it.
-- Assumes nothing.
use Rattle.std.specs.Prelude.{Option, Some, None, Result, Ok, Err}
use Prim.Native.Nat.{ℕ, zero, suc, ◌+◌, ◌-◌, ◌≤◌, ◌<◌}
use native.Mathlib.Nat.{add-zero, add-suc}
use native.Mathlib.Omega.{arith}
use mathlib.Core.Bool.{Bool, true}
use mathlib.Core.List.{List, [], ◌∷◌, ◌++◌, append-nil, append_assoc}
use mathlib.Core.Path.{◌≡◌, refl, sym, ap, ◌∙◌}
use lib.ListN.{length}
use Rattle.keys.specs.Keys.{end_of_keys}
use Rattle.keys.proofs.Laws.{never_zero}
use Rattle.track.specs.declared.Track.{Track}
use Rattle.text.specs.declared.Row.{Row}
use Rattle.text.specs.Lines.{row_text}
use Rattle.memory.specs.Offsets.{whole_places}
use Rattle.rules.proofs.KeyOrder.{next_follows}
use Rattle.table.specs.Bytes.{bytes}
use Rattle.table.specs.Table.{next_above}
use Rattle.table.specs.View.{view}
use Rattle.table.specs.Code.{Follows}
use Rattle.report.specs.Listing.{row_for, as_list, texts}
use Rattle.report.specs.Walked.{rows_below}
use Rattle.report.specs.Code.{key_or_limit}
use Rattle.report.proofs.Held.{unheld_unseen, held_is_key}
use Rattle.refusals.specs.declared.Refusal.{Refusal}

-- r is the least key held above one, or the limit
pub record Least (s : List ℕ) (above r : ℕ) : Type 0 where
  pub low : above < r
  pub between : (k : ℕ) → above < k → k < r → view s k ≡ None

by_answer : (s : List ℕ) (above : ℕ) → above < end_of_keys → (a : Result (Option ℕ) Refusal) → Follows s above a → Least s above (key_or_limit a)
unfolding key_or_limit
by_answer s above h (Ok (Some key)) f = record { low = f.1.0; between = λ k a b. unheld_unseen s k (λ w. omega (arith, f.1.1 k a w)) }
by_answer s above h (Ok None) f = record { low = h; between = λ k a b. unheld_unseen s k (λ w. f k a w) }
by_answer s above h (Err r) f = absurd f

pub least : (s : List ℕ) (above : ℕ) → whole_places (length s) ≡ true → above < end_of_keys → Least s above (key_or_limit (next_above s above))
least s above e h = by_answer s above h (next_above s above) (next_follows bytes s above e)

-- no key is 0
pub none_zero : (s : List ℕ) → view s 0 ≡ None
none_zero s = unheld_unseen s 0 (λ w. omega (arith, never_zero 0 (held_is_key s 0 w)))

-- what a key that is not held leaves as it is
module _ {A : Type 0} (g : ℕ → A) (s : List ℕ) (keeps : (k : ℕ) → view s k ≡ None → g (suc k) ≡ g k) where
  pub over : (from d : ℕ) → ((k : ℕ) → from ≤ k → k < from + d → view s k ≡ None) → g (from + d) ≡ g from
  over from zero n = ap g (add-zero from)
  over from (suc d) n = ap g (add-suc from d) ∙ keeps (from + d) (n (from + d) (omega arith) (omega arith)) ∙ over from d (λ k i j. n k i (omega arith))

  pub skipped : {above r : ℕ} → Least s above r → g (suc above) ≡ g r
  skipped {above} {r} p =
      let l = p.low in
      let e : suc above + (r - suc above) ≡ r = omega arith in
      sym (ap g (sym e) ∙ over (suc above) (r - suc above) (λ k i j. p.between k (omega arith) (omega arith)))

module _ (all : Bool) (s : List ℕ) where
  pub rows_none : rows_below all s 0 ≡ []
  unfolding rows_below
  rows_none = refl

  pub rows_next : (k : ℕ) → rows_below all s (suc k) ≡ rows_below all s k ++ as_list (row_for all k (view s k))
  unfolding rows_below
  rows_next k = refl

  pub rows_keep : (k : ℕ) → view s k ≡ None → rows_below all s (suc k) ≡ rows_below all s k
  unfolding row_for
  rows_keep k e = rows_next k ∙ ap (λ (v : Option Track). rows_below all s k ++ as_list (row_for all k v)) e ∙ append-nil (rows_below all s k)

-- the texts of two lists of rows
pub texts_append : (a b : List Row) → texts (a ++ b) ≡ texts a ++ texts b
unfolding texts
texts_append [] b = refl
texts_append (r ∷ a) b = ap (λ (l : List ℕ). row_text r ++ l) (texts_append a b) ∙ sym (append_assoc (row_text r) (texts a) (texts b))
