-- The key that `addercoil_key` gives is the one under which `addercoil_receive` keeps the track: both go by what the message is decoded as.
-- Assumes nothing.
use Rattle.std.specs.Prelude.{Result, Ok, Err, Option, Some, None}
use Prim.Native.Nat.{ℕ, ◌≤◌}
use mathlib.Core.Bool.{Bool, true, false, false≢true}
use mathlib.Core.Path.{◌≡◌, refl, ap, ap₂, sym, ◌∙◌, subst}
use mathlib.Core.Logic.{◌↔◌}
use mathlib.Core.List.{List, [], ◌∷◌}
use native.Mathlib.Omega.{arith}
use borrow.Author.Tests.{eq-eqb, eqb-true, ltb-true, ltb-false}
use lib.Dec.{ltb}
use lib.ListN.{length, get_or}
use Rattle.refusals.specs.declared.Refusal.{Refusal}
use Rattle.refusals.specs.declared.Refusal.TheVariants.{Late, Full, NoTrack}
use Rattle.refusals.specs.Numbers.{number_of}
use Rattle.entries.specs.Arrays.{filled}
use Rattle.entries.specs.Sent.{Sent, sent, into}
use Rattle.layouts.specs.Bodies.{body_me}
use Rattle.messages.specs.declared.Message.{Message}
use Rattle.messages.specs.Message.{decoded, key_of}
use Rattle.track.specs.declared.Track.{Track}
use Rattle.track.specs.Track.{step_body}
use Rattle.track.specs.Held.{later_at, found, stepped_from, answered_from}
use Rattle.track.proofs.Rules.{heard_at_its_time}
use Rattle.track_rows.specs.Tracks.{kept_row, track_row}
use Rattle.rules.specs.Rules as rules
use Rattle.rules.specs.View.{Table}
use Rattle.rules.proofs.Laws.{set_up_table_lem, late_exactly, steps_its_track}
use Rattle.table.specs.Bytes.{bytes}
use Rattle.table.specs.Heard.{heard_as}
use Rattle.table.specs.Table.{received}
use Rattle.table.specs.View.{view}
use Rattle.table.proofs.Lawful.{bytes_lawful}
use Rattle.isolation.specs.Runs.{Call, is_of}
use Rattle.isolation.proofs.Replayed.{table_left}
use Rattle.addercoil.specs.Done.{done_number}
use Rattle.addercoil.proofs.Laws.{some_number}
use Rattle.dealer.specs.Keys.{key_said}
use Rattle.c_promises.specs.Calls.{Receive, LookUp}
use Rattle.c_promises.specs.Flips.{Accepted.by_receive}
use Rattle.c_promises.specs.Runs.{Site, site_of, Run}
use Rattle.c_promises.specs.Logs.{left_of}
use Rattle.c_promises.proofs.Flipped.{acceptable}
use Rattle.c_promises.proofs.Followed.{row_of, writes}
use Rattle.c_promises.proofs.Isolated.{east, number_is, table_is, whole_left, run_done}
use Rattle.c_fleet.specs.Keys.{Key, KeyByKey, HeldAt, KeyIsKept}
use Rattle.c_fleet.proofs.Sides.{left_is, whole_in_end}

key_is : {message out : List ℕ} {back : Sent} → Key message out back → back ≡ into 1 out (key_said (decoded message))
key_is {message} {out} {back} b =
    ap (sent back.number) (sym b.leaves) ∙ b.meets ∙ ap₂ (λ (m : List ℕ) (l : List ℕ). into 1 l (key_said (decoded m))) b.brings b.into

module _ (out : List ℕ) (h : length out ≡ 1) where
  key_written : (m : Message) → into 1 out (key_said (Ok m)) ≡ sent 0 (key_of m ∷ [])
  unfolding into
  key_written m = rw (eq-eqb _ _ h) (ap (λ (n : ℕ). sent 0 (filled n (key_of m ∷ []))) h)

  refused_written : (r : Refusal) → into 1 out (key_said (Err r)) ≡ sent (number_of r) out
  unfolding into
  refused_written r = rw (eq-eqb _ _ h)

  by_decoded : (key : ℕ) (d : Result Message Refusal) → is_of key d ≡ true ↔ into 1 out (key_said d) ≡ sent 0 (key ∷ [])
  by_decoded key (Ok m) = (
    λ o. key_written m ∙ ap (λ (k : ℕ). sent 0 (k ∷ [])) (eqb-true (key_of m) key o),
    λ e. eq-eqb (key_of m) key (let l : ◌≡◌ {A = List ℕ} (key_of m ∷ []) (key ∷ []) = ap (λ (x : Sent). x.array) (sym (key_written m) ∙ e) in cc),
  )
  by_decoded key (Err r) = (
    λ o. absurd (false≢true o),
    λ e. absurd (some_number r (ap (λ (x : Sent). x.number) (sym (refused_written r) ∙ e))),
  )

pub key_by_key : KeyByKey
key_by_key key message out back h b = subst (λ (x : Sent). is_of key (decoded message) ≡ true ↔ x ≡ sent 0 (key ∷ [])) (sym (key_is b)) (by_decoded out h key (decoded message))

-- ---- what is held after a message that was taken

-- a row of a track that is held
held_row : (key time : ℕ) (v : Option Track) (t : Track) → v ≡ Some t → t.heard ≡ time → HeldAt time (sent 0 (filled 72 (row_of key v)))
unfolding track_row kept_row
held_row key time v t e h = subst (λ (w : Option Track). HeldAt time (sent 0 (filled 72 (row_of key w)))) (sym e) (refl, refl, h)

module _ (s : List ℕ) (tb : Table bytes s) (c : Call) (m : Message) (is : decoded c.message ≡ Ok m) where
  abbrev r : rules.After (List ℕ) (Result Message Refusal)
  r = received s c.message c.time

  module _ (zero : done_number (heard_as r.answer) ≡ 0) where
    not_refused : (x : Refusal) → r.answer ≡ Err x → ⊥
    not_refused x e = some_number x (sym (ap (λ (d : Result Message Refusal). done_number (heard_as d)) e) ∙ zero)

    in_time : bytes.clock s ≤ c.time
    in_time = by_test (ltb c.time (bytes.clock s)) refl
      where
        by_test : (b : Bool) → ltb c.time (bytes.clock s) ≡ b → bytes.clock s ≤ c.time
        by_test true e = absurd (not_refused Late ((late_exactly bytes bytes_lawful s c.message c.time).1 (c.whole, (tb.size, ltb-true c.time (bytes.clock s) e))))
        by_test false e = ltb-false c.time (bytes.clock s) e

    now_held : (t : Track) × ((view r.table (key_of m) ≡ Some t) × (t.heard ≡ c.time))
    now_held =
        let both = steps_its_track bytes bytes_lawful s c.message c.time tb c.fits m is in_time (not_refused Full) in
        by_found (found m (later_at c.time (view s (key_of m)))) both.0 both.1
      where
        by_found : (v : Option Track) → r.answer ≡ answered_from m v → view r.table (key_of m) ≡ stepped_from m (bytes.site s) c.time v
            → (t : Track) × ((view r.table (key_of m) ≡ Some t) × (t.heard ≡ c.time))
        by_found None a e = absurd (not_refused NoTrack a)
        by_found (Some t) a e = (step_body t m.body (body_me m.body) (bytes.site s) c.time, (e, heard_at_its_time t m.body (body_me m.body) (bytes.site s) c.time))

-- the table that a run leaves has each key once
left_table : (site : Option Site) {cs : List Call} {xs : List Sent} (run : Run site cs xs) → Table bytes (left_of run)
left_table site {cs} run =
    subst (Table bytes) (sym (left_is site run))
    (table_left bytes bytes_lawful 0 cs _ (set_up_table_lem bytes bytes_lawful run.table (site_of site) (east site) (run_done site run)).table)

pub key_is_kept : KeyIsKept
key_is_kept site cs xs run c back b zero out said h k =
    let a = acceptable (by_receive b zero) in
    let m : Message = a.0 in
    let n = now_held (left_of run) (left_table site run) c m a.1 (sym (number_is b) ∙ zero) in (
      key_of m,
      (
        key_is k ∙ ap (λ (d : Result Message Refusal). into 1 out (key_said d)) a.1 ∙ key_written out h m,
        λ track x l look.
            subst (HeldAt c.time) (sym (writes (whole_left b (whole_in_end site run)) l look))
            (held_row (key_of m) c.time _ n.0 (ap (λ (z : List ℕ). view z (key_of m)) (table_is b) ∙ n.1.0) n.1.1),
      ),
    )
