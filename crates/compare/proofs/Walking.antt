-- The laws of the walk: a line and a row passed, and the rest.
-- Assumes nothing.
use Rattle.std.specs.Prelude.{Option, Some, None, Result, Ok, Err}
use Prim.Native.Nat.{ℕ, zero, suc, ◌+◌, ◌-◌, ◌≤◌, ◌<◌}
use native.Mathlib.Omega.{arith}
use native.Mathlib.Nat.{add-zero}
use mathlib.Core.Path.{◌≡◌, refl, sym, ap, ap₂, ◌∙◌}
use mathlib.Core.Bool.{Bool, true, false, cond}
use mathlib.Core.List.{List, [], ◌∷◌, ◌++◌, append_assoc, append-nil}
use borrow.Author.Tests.{ltb-true, ltb-false}
use lib.Dec.{ltb}
use lib.ListN.{length}
use Rattle.keys.specs.Keys.{end_of_keys}
use Rattle.keys.proofs.Laws.{before_end}
use Rattle.track.specs.declared.Track.{Track}
use Rattle.track.specs.Held.{track_or_new}
use Rattle.text.specs.declared.Row.{Row}
use Rattle.text.specs.Lines.{newline}
use Rattle.memory.specs.Offsets.{whole_places}
use Rattle.rules.proofs.Laws.{looked_up_lem}
use Rattle.rules.proofs.KeyOrder.{next_follows}
use Rattle.table.specs.Bytes.{bytes}
use Rattle.table.specs.Table.{next_above, looked_up}
use Rattle.table.specs.View.{view}
use Rattle.table.specs.Code.{Follows}
use Rattle.report.specs.Listing.{row_of, row_for, as_list, rows_in}
use Rattle.report.specs.Walked.{rows_below}
use Rattle.report.specs.Code.{key_or_limit}
use Rattle.report.proofs.Gathered.{rows_walked}
use Rattle.report.proofs.Held.{held_seen, held_is_key}
use Rattle.report.proofs.Keys.{Least, least, none_zero, skipped, rows_none, rows_next}
use Rattle.agree.specs.Near.{agrees_of}
use Rattle.compare.specs.Compared.{compared}
use Rattle.compare.specs.Code.{rows_from, rows_left}
use Rattle.refusals.specs.declared.Refusal.{Refusal}

module _ (s : List ℕ) where
  -- ---- our rows

  rows_from_lem : (k d : ℕ) → rows_below true s (k + d) ≡ rows_below true s k ++ rows_from s k d
  unfolding rows_from
  rows_from_lem k zero = ap (rows_below true s) (add-zero k) ∙ sym (append-nil (rows_below true s k))
  rows_from_lem k (suc d) =
      ap (rows_below true s) (let e : k + suc d ≡ suc k + d = omega arith in e)
      ∙ rows_from_lem (suc k) d
      ∙ ap (λ (l : List Row). l ++ rows_from s (suc k) d) (rows_next true s k)
      ∙ append_assoc (rows_below true s k) (as_list (row_for true k (view s k))) (rows_from s (suc k) d)

  left_all : rows_in true s ≡ rows_left s 0
  left_all = rows_walked s true ∙ rows_from_lem 0 end_of_keys ∙ ap (λ (l : List Row). l ++ rows_left s 0) (rows_none true s)

  left_more : (k : ℕ) → k < end_of_keys → rows_left s k ≡ as_list (row_for true k (view s k)) ++ rows_left s (suc k)
  unfolding rows_from
  left_more k h = ap (rows_from s k) (let e : end_of_keys - k ≡ suc (end_of_keys - suc k) = omega arith in e)

  pub left_end : (k : ℕ) → end_of_keys ≤ k → rows_left s k ≡ []
  unfolding rows_from
  left_end k h = ap (rows_from s k) (let e : end_of_keys - k ≡ 0 = omega arith in e)

  left_keeps : (k : ℕ) → view s k ≡ None → rows_left s (suc k) ≡ rows_left s k
  unfolding row_for
  left_keeps k e = by_side (ltb k end_of_keys) refl
    where
      by_side : (t : Bool) → ltb k end_of_keys ≡ t → rows_left s (suc k) ≡ rows_left s k
      by_side true h = sym (left_more k (ltb-true k end_of_keys h) ∙ ap (λ (v : Option Track). as_list (row_for true k v) ++ rows_left s (suc k)) e)
      by_side false h = let l : end_of_keys ≤ k = ltb-false k end_of_keys h in left_end (suc k) (omega arith) ∙ sym (left_end k l)

  -- ---- from one key held to the next

  -- r is the next key that is held, or the end of the keys: it is held, and what is between has no row
  pub record Next (above r : ℕ) : Type 0 where
    pub low : above < r
    pub most : r ≤ end_of_keys
    pub held : r < end_of_keys → (t : Track) × (view s r ≡ Some t)
    pub rows : rows_left s (suc above) ≡ rows_left s r

  module _ (whole : whole_places (length s) ≡ true) where
    by_answer : (above : ℕ) → above < end_of_keys → (a : Result (Option ℕ) Refusal) → Follows s above a → Least s above (key_or_limit a) → Next above (key_or_limit a)
    unfolding key_or_limit
    by_answer above h (Ok (Some key)) f l =
        let k = before_end key (held_is_key s key f.0) in
        record { low = l.low; most = omega arith; held = λ _. held_seen s key f.0; rows = skipped (rows_left s) s left_keeps l }
    by_answer above h (Ok None) f l = record { low = l.low; most = omega arith; held = λ z. absurd (let w : ⊥ = omega arith in w); rows = skipped (rows_left s) s left_keeps l }
    by_answer above h (Err r) f l = absurd f

    pub next_key : (above : ℕ) {r : ℕ} → above < end_of_keys → r ≡ key_or_limit (next_above s above) → Next above r
    next_key above h e = rw e (by_answer above h (next_above s above) (next_follows bytes s above whole) (least s above whole h))

    -- the first has all rows before it
    pub first_key : {r : ℕ} → Next 0 r → rows_in true s ≡ rows_left s r
    first_key n = left_all ∙ sym (left_keeps 0 (none_zero s)) ∙ n.rows

    -- the row of a key that is held
    pub left_row : (k : ℕ) → k < end_of_keys → (t : Track) × (view s k ≡ Some t) → {r : Row} → r ≡ row_of k (track_or_new (looked_up s k)) → rows_left s k ≡ r ∷ rows_left s (suc k)
    unfolding row_for
    left_row k h v {r} e =
        let t : track_or_new (looked_up s k) ≡ v.0 = ap track_or_new (looked_up_lem bytes s k whole ∙ ap Ok v.1) in
        left_more k h
        ∙ ap (λ (o : Option Track). as_list (row_for true k o) ++ rows_left s (suc k)) v.1
        ∙ ap (λ (x : Row). x ∷ rows_left s (suc k)) (sym (e ∙ ap (row_of k) t))

-- ---- their lines and our rows

module _ (n : ℕ) {ls : List (List ℕ)} {rs : List Row} where
  pub both_end : ls ≡ [] → rs ≡ [] → Ok None ≡ compared n ls rs
  unfolding compared
  both_end p q = sym (ap₂ (compared n) p q)

  pub missing : ls ≡ [] → {r : Row} {more : List Row} → rs ≡ r ∷ more → Ok (Some n) ≡ compared n ls rs
  unfolding compared
  missing p q = sym (ap₂ (compared n) p q)

  pub surplus : {l : List ℕ} {more : List (List ℕ)} → ls ≡ l ∷ more → rs ≡ [] → Ok (Some n) ≡ compared n ls rs
  unfolding compared
  surplus p q = sym (ap₂ (compared n) p q)

  module _ {l : List ℕ} {ms : List (List ℕ)} {r : Row} {more : List Row} (p : ls ≡ l ∷ ms) (q : rs ≡ r ∷ more) where
    both_there : compared n ls rs ≡ cond (agrees_of (l ++ newline) r) (compared (suc n) ms more) (Ok (Some n))
    unfolding compared
    both_there = ap₂ (compared n) p q

    pub differs : agrees_of (l ++ newline) r ≡ false → Ok (Some n) ≡ compared n ls rs
    differs e = sym (both_there ∙ ap (λ (t : Bool). cond t (compared (suc n) ms more) (Ok (Some n))) e)

    pub goes_on : agrees_of (l ++ newline) r ≡ true → compared n ls rs ≡ compared (n + 1) ms more
    goes_on e = both_there ∙ ap (λ (t : Bool). cond t (compared (suc n) ms more) (Ok (Some n))) e ∙ ap (λ (k : ℕ). compared k ms more) (let g : suc n ≡ n + 1 = omega arith in g)
