-- What is listed after a run, in any form: each key is one that a message can have, since only messages start tracks; and each number fits, since each track has room in a body.
-- Assumes nothing.
use Rattle.std.specs.Prelude.{Result, Ok, Err, Option, Some, None}
use Prim.Native.Nat.{ℕ, zero, suc, ◌≤◌, ◌<◌, ◌^◌}
use native.Mathlib.Omega.{arith}
use mathlib.Core.Bool.{Bool, true, false, cond}
use mathlib.Core.Path.{◌≡◌, refl, ap, sym, ◌∙◌, subst}
use mathlib.Core.List.{List, [], ◌∷◌, ◌++◌}
use lib.Dec.{eqb, ltb}
use lib.ListN.{length, length-append}
use borrow.Author.Tests.{ltb-true, ne_eqb}
use Rattle.fields.proofs.Bools.{and_left, and_right}
use Rattle.keys.specs.Keys.{is_key}
use Rattle.messages.specs.Message.{decoded, key_of}
use Rattle.messages.proofs.Keys.{key_range}
use Rattle.whereabouts.specs.declared.Site.{Site}
use Rattle.track.specs.declared.Track.{Track}
use Rattle.track.specs.Held.{in_date}
use Rattle.place.specs.Place.{Fits}
use Rattle.text.specs.declared.Row.{Row}
use Rattle.form.specs.Own.{Fitting}
use Rattle.report.specs.Listing.{shown, row_of, row_for, as_list}
use Rattle.compare.proofs.Rows.{row_ours}
use Rattle.rules.specs.Form.{is_held, holds, Form, East, Lawful}
use Rattle.rules.specs.Rules.{set_up, received}
use Rattle.rules.specs.Search.{lowest}
use Rattle.rules.specs.View.{track_in, view_at, view, Table}
use Rattle.rules.proofs.Search.{clash, lowest_passes}
use Rattle.rules.proofs.Laws.{set_up_table_lem}
use Rattle.isolation.specs.Runs.{Call, is_of, own}
use Rattle.isolation.specs.Logs.{left}
use Rattle.isolation.proofs.Replayed.{table_left}
use Rattle.fleet.specs.Together.{rows_held}
use Rattle.fleet.proofs.Room.{some_held}
use Rattle.fleet.proofs.Shards.{Others, unheard, clock_from}
use Rattle.fleet.proofs.Fleet.{latest_fits}
use Rattle.c_fleet.specs.Listings.{rows_with}
use Rattle.messages.specs.declared.Message.{Message}
use Rattle.refusals.specs.declared.Refusal.{Refusal}

-- ---- a number that is no key is nobody's

not_its : (key : ℕ) → is_key key ≡ false → (d : Result Message Refusal) → is_of key d ≡ false
not_its key e (Err r) = refl
not_its key e (Ok m) = ne_eqb (key_of m) key (λ p. clash (sym (ap is_key p) ∙ key_range m) e)

nobody's : (key : ℕ) → is_key key ≡ false → (cs : List Call) → Others key cs
unfolding own
nobody's key e [] = tt
nobody's key e (c ∷ cs) = (not_its key e (decoded c.message), nobody's key e cs)

-- ---- rows

abbrev pub Sound : List Row → Type 0
Sound [] = Unit {0}
Sound (r ∷ rs) = ((is_key r.key ≡ true) × Fitting r) × Sound rs

sound_append : (xs ys : List Row) → Sound xs → Sound ys → Sound (xs ++ ys)
sound_append [] ys p q = q
sound_append (x ∷ xs) ys p q = (p.0, sound_append xs ys p.1 q)

pub sound_with : (is : ℕ → Bool) (xs : List Row) → Sound xs → Sound (rows_with is xs)
sound_with is [] p = tt
sound_with is (x ∷ xs) p = by_cases (is x.key) (sound_with is xs p.1)
  where
    by_cases : (b : Bool) → Sound (rows_with is xs) → Sound (cond b (x ∷ rows_with is xs) (rows_with is xs))
    by_cases true more = (p.0, more)
    by_cases false more = more

pub most_with : (is : ℕ → Bool) (xs : List Row) → length (rows_with is xs) ≤ length xs
most_with is [] = omega arith
most_with is (x ∷ xs) = by_cases (is x.key) (most_with is xs)
  where
    by_cases : (b : Bool) → length (rows_with is xs) ≤ length xs → length (cond b (x ∷ rows_with is xs) (rows_with is xs)) ≤ suc (length xs)
    by_cases true h = omega arith
    by_cases false h = omega arith

one_most : (r : Option Row) → length (as_list r) ≤ 1
one_most None = omega arith
one_most (Some r) = omega arith

pub most_held : (all : Bool) (held : ℕ → Option Track) (k : ℕ) → length (rows_held all held k) ≤ k
most_held all held zero = omega arith
most_held all held (suc k) =
    omega (arith, length-append (rows_held all held k) (as_list (row_for all k (held k))), most_held all held k, one_most (row_for all k (held k)))

-- ---- a run

module _ {S : Type 0} (F : Form S) (L : Lawful F) (site : Site) (east : East site) (s : S) (done : (set_up F s site).answer ≡ Ok tt) (cs : List Call) where
  abbrev end : S
  end = left (received F) (set_up F s site).table cs

  pub clock_fits : F.clock end < 2 ^ 64
  clock_fits = subst (λ (n : ℕ). n < 2 ^ 64) (sym (clock_from F L site east s done cs)) (latest_fits 0 cs (omega arith))

  in_end : Table F end
  in_end = table_left F L 0 cs (set_up F s site).table (set_up_table_lem F L s site east done).table

  held_key : (key : ℕ) (t : Track) → view F end key ≡ Some t → is_key key ≡ true
  held_key key t e = by_cases (is_key key) refl
    where
      by_cases : (b : Bool) → is_key key ≡ b → b ≡ true
      by_cases true p = refl
      by_cases false p = absurd (some_held (sym e ∙ unheard F L key site east s done cs (nobody's key p cs)))

  held_fits : (key : ℕ) (t : Track) → view F end key ≡ Some t → Fits t
  unfolding view_at holds is_held
  held_fits key t = by_cases (lowest (λ i. holds (F.clock end) key (F.cell end i)) (F.count end)) (lowest_passes (λ i. holds (F.clock end) key (F.cell end i)) (F.count end)) (ltb (lowest (λ i. holds (F.clock end) key (F.cell end i)) (F.count end)) (F.count end)) refl
    where
      by_cases : (i : ℕ) → (i < F.count end → holds (F.clock end) key (F.cell end i) ≡ true) → (b : Bool) → ltb i (F.count end) ≡ b → track_in (cond b (Some (F.cell end i)) None) ≡ Some t → Fits t
      by_cases i passes true l e =
          let h : i < F.count end = ltb-true i (F.count end) l in
          let same : (F.cell end i).track ≡ t = cc in
          subst Fits same
          (in_end.fit i h (and_left (F.cell end i).in_range (in_date (F.clock end) (F.cell end i).track.heard) (and_right (eqb (F.cell end i).key key) _ (passes h))))
      by_cases i passes false l e = absurd (some_held (sym e))

  row_sound : (all : Bool) (key : ℕ) → Sound (as_list (row_for all key (view F end key)))
  unfolding row_for row_of
  row_sound all key = by_held (view F end key) refl
    where
      by_shown : (t : Track) → view F end key ≡ Some t → (b : Bool) → Sound (as_list (cond b (Some (row_of key t)) None))
      by_shown t e true = ((held_key key t e, (row_ours key t (held_fits key t e)).0), tt)
      by_shown t e false = tt

      by_held : (v : Option Track) → view F end key ≡ v → Sound (as_list (row_for all key v))
      by_held None e = tt
      by_held (Some t) e = by_shown t e (shown all t.position)

  pub rows_sound : (all : Bool) (k : ℕ) → Sound (rows_held all (view F end) k)
  rows_sound all zero = tt
  rows_sound all (suc k) = sound_append (rows_held all (view F end) k) (as_list (row_for all k (view F end k))) (rows_sound all k) (row_sound all k)
