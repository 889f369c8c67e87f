-- How coarse an altitude is, from a message to its line: the track keeps the code, from which feet and step are read, so both are the message's; and no line has one without the other. Each by the rules of a track.
-- Assumes nothing.
use Rattle.std.specs.Prelude.{None, Result, Ok, Err, Option, Some}
use Prim.Native.Nat.{ℕ, ◌^◌, ◌≤◌, ◌<◌}
use native.Mathlib.Omega.{arith}
use mathlib.Core.Path.{◌≡◌, refl, sym, ap, ap₂, subst, ◌∙◌}
use mathlib.Core.Bool.{Bool, true, false, cond, ◌&&◌}
use mathlib.Core.List.{List}
use mathlib.Core.Logic.{⊎_elim, ◌↔◌}
use lib.Dec.{leb, eqb}
use contract.Lifetimes.{Lfts}
use denote.Triple.Clauses.{AtExit}
use borrow.Fn.Kinds.{Dens, res_t, ended_of}
use borrow.Author.Tests.{leb-true, eqb-true, lt-leb, le-ltb}
use Rattle.refusals.specs.declared.Refusal.TheVariants.{Full}
use Rattle.fields.specs.Bytes.{Bytes}
use Rattle.fields.specs.Packing.{fits}
use Rattle.fields.proofs.Bools.{either, each, and_right}
use Rattle.layouts.specs.declared.airborne.Airborne.{Airborne}
use Rattle.layouts.specs.declared.bodies.Body.{Body}
use Rattle.layouts.specs.declared.bodies.Body.TheVariants as body
use Rattle.layouts.specs.Layouts.{is_airborne}
use Rattle.layouts.specs.Bodies.{body_widths, body_fields, body_me, body_fits}
use Rattle.messages.specs.declared.Message.{Message}
use Rattle.messages.specs.Message.{decoded, key_of}
use Rattle.readings.specs.Altitude.{altitude_at, altitude_of}
use Rattle.readings.proofs.Promised.{altitude_fits}
use Rattle.layouts.proofs.BothWays.{fitting}
use Rattle.readings.specs.Bodies.{is_gnss}
use Rattle.readings.specs.declared.altitude.Altitude.{Altitude}
use Rattle.whereabouts.specs.declared.Site.{Site}
use Rattle.track.specs.declared.Track.{Track}
use Rattle.track.specs.Track.{step_body}
use Rattle.track.specs.Held.{found, stepped_from, answered_from}
use Rattle.track.proofs.Rules.{pressure_replaces, height_replaces, no_position_leaves, coarse_replaces}
use Rattle.rules.specs.Form.{Form, Lawful}
use Rattle.rules.specs.Rules.{After, delivered, received}
use Rattle.rules.specs.View.{view_at, view, AllFit}
use Rattle.rules.proofs.Delivered.{sorted}
use Rattle.rules.proofs.Laws.{clock_after, effect}
use Rattle.rules.proofs.Ways.{not_refused, decoded_14, decoded_fits, received_in_time, Way, short, uneven, late, timely, way}
use Rattle.table.specs.Bytes.{bytes}
use Rattle.table.proofs.Lawful.{bytes_lawful, all_fit}
use Rattle.table.proofs.receive.Kinds as receive-kinds
use Rattle.table.proofs.receive.Reads as receive
use Rattle.report.specs.Listing.{feet, step_in, row_of}
use Rattle.report.specs.Told.{altitude_in, left_out, Tells, in_the_air, coarsely, Kept}
use Rattle.refusals.specs.declared.Refusal.{Refusal}

-- ---- the listing

-- a line has a step just when it has an altitude
pub unknown_no_step : (key : ℕ) (t : Track) → (row_of key t).altitude ≡ None ↔ (row_of key t).step ≡ None
unfolding row_of feet step_in
unknown_no_step key t = together (altitude_of t.groups.pressure)
  where
    together : (a : Result (Option Altitude) Refusal) → feet a ≡ None ↔ step_in a ≡ None
    together (Ok None) = (λ e. refl, λ e. refl)
    together (Ok (Some a)) = (λ e. cc, λ e. cc)
    together (Err r) = (λ e. refl, λ e. refl)

-- what a line says is decided by when the track was last heard, its position and its pressure altitude: no GNSS height, and no step of one
pub row_by_pressure : (key : ℕ) (t u : Track) → t.heard ≡ u.heard → t.position ≡ u.position → t.groups.pressure ≡ u.groups.pressure → row_of key t ≡ row_of key u
unfolding row_of
row_by_pressure key t u h p g = rw (h, p, g)

-- ---- the track

module _ (t : Track) (b : Airborne) (me : ℕ) (site : Site) (time : ℕ) where
  abbrev next : Track
  next = step_body t (body.Airborne b) me site time

  -- TYPE 0, 9-18, 20-22
  by_type : is_airborne b.typecode ≡ true → left_out b ≡ false → altitude_in (is_gnss b.typecode) next ≡ altitude_of b.altitude
  by_type airborne told =
      ⊎_elim none_found_lem
      (λ e. ⊎_elim pressure height (either _ _ e))
      (either (eqb b.typecode 0) _ airborne)
    where
      none_found_lem : eqb b.typecode 0 ≡ true → altitude_in (is_gnss b.typecode) next ≡ altitude_of b.altitude
      none_found_lem e =
          let z : b.typecode ≡ 0 = eqb-true b.typecode 0 e in
          let code : eqb b.altitude 0 ≡ false = rw e at told in
          rw (lt-leb 20 b.typecode (omega arith), (no_position_leaves t me site time b z).pressure, code)

      pressure : leb 9 b.typecode && leb b.typecode 18 ≡ true → altitude_in (is_gnss b.typecode) next ≡ altitude_of b.altitude
      pressure e =
          let low : 9 ≤ b.typecode = leb-true 9 b.typecode (each (leb 9 b.typecode) (leb b.typecode 18) e).0 in
          let high : b.typecode ≤ 18 = leb-true b.typecode 18 (each (leb 9 b.typecode) (leb b.typecode 18) e).1 in
          rw (lt-leb 20 b.typecode (omega arith), pressure_replaces t me site time b low high)

      height : leb 20 b.typecode && leb b.typecode 22 ≡ true → altitude_in (is_gnss b.typecode) next ≡ altitude_of b.altitude
      height e =
          let low : leb 20 b.typecode ≡ true = (each (leb 20 b.typecode) (leb b.typecode 22) e).0 in
          let above : 18 < b.typecode = omega (arith, leb-true 20 b.typecode low) in
          rw (low, height_replaces t me site time b above)

  -- TYPE 0 with a field of zero leaves both readings as they were
  pub zero_leaves : left_out b ≡ true → (gnss : Bool) → altitude_in gnss next ≡ altitude_in gnss t
  zero_leaves e gnss =
      let is = each (eqb b.typecode 0) (eqb b.altitude 0) e in
      let after = no_position_leaves t me site time b (eqb-true b.typecode 0 is.0) in
      let pressure : next.groups.pressure ≡ t.groups.pressure = after.pressure ∙ ap (λ (x : Bool). cond x t.groups.pressure b.altitude) is.1 in
      rw (after.height, pressure)

-- the step of a body that fits leaves the altitude that it tells
stepped_tells : (t : Track) (b : Body) (me : ℕ) (site : Site) (time : ℕ) {gnss : Bool} {a : Option Altitude} → body_fits b ≡ true → Tells b gnss a → altitude_in gnss (step_body t b me site time) ≡ Ok a
stepped_tells t b me site time f (in_the_air {b = x} told) =
    by_type t x me site time (and_right (fits (body_widths (body.Airborne x)) (body_fields (body.Airborne x))) (is_airborne x.typecode) f) told
    ∙ altitude_fits x.altitude (fitting (body.Airborne x) f).1.1.1.0
stepped_tells t b me site time f (coarsely {b = x}) =
    ap altitude_of (coarse_replaces t me site time x).pressure ∙ altitude_fits x.altitude (fitting (body.Coarse x) f).1.1.1.0

module _ {S : Type 0} (F : Form S) (L : Lawful F) (s : S) (message : List ℕ) (time : ℕ) where
  abbrev call : After S (Result Message Refusal)
  call = received F s message time

  -- a message that is accepted is the decoder's, and in time
  delivered_is : (d : Result Message Refusal) → decoded message ≡ d → (m : Message) → (delivered F (F.moved s time) d time).answer ≡ Ok m → decoded message ≡ Ok m
  unfolding delivered
  delivered_is (Err r) e m a = absurd (not_refused (sym a))
  delivered_is (Ok n) e m a =
      ⊎_elim
      (λ y. e ∙ sym y ∙ a)
      (λ y. absurd (not_refused (sym a ∙ ap (λ (x : After S (Result Message Refusal)). x.answer) y.1.1)))
      (sorted F time (F.moved s time) n (decoded_fits message n e))

  accepted_by : (m : Message) {x : After S (Result Message Refusal)} → Way F s message time x → x.answer ≡ Ok m → (F.whole s ≡ true) × (F.clock s ≤ time) × (decoded message ≡ Ok m)
  accepted_by m (short l) a = absurd (not_refused (sym a))
  accepted_by m (uneven l w) a = absurd (not_refused (sym a))
  accepted_by m (late l w h) a = absurd (not_refused (sym a))
  accepted_by m (timely l w h) a = (w, h, delivered_is (decoded message) refl m a)

  module _ (fit : AllFit F s) (small : time < 2 ^ 64) (m : Message) {gnss : Bool} {told : Option Altitude} (tells : Tells m.body gnss told) where
    by_found : (v w : Option Track) (site : Site) → body_fits m.body ≡ true → Ok m ≡ answered_from m v → w ≡ stepped_from m site time v → Kept gnss told w
    by_found None w site f a e = absurd (not_refused a)
    by_found (Some x) w site f a e = (step_body x m.body (body_me m.body) site time, e, stepped_tells x m.body (body_me m.body) site time f tells)

    -- after an accepted message the track's reading is the message's, step included, though a key be held twice
    pub step_kept : call.answer ≡ Ok m → Kept gnss told (view F call.table (key_of m))
    step_kept a =
        let by = accepted_by m (way F s message time) a in
        let l = decoded_14 message m by.2 in
        let moved = F.moved s time in
        let is : call ≡ delivered F moved (Ok m) time = received_in_time F s message time l by.0 by.1 ∙ ap (λ (d : Result Message Refusal). delivered F moved d time) by.2 in
        let clock : F.clock call.table ≡ time = clock_after F L s message time by.0 small l ∙ ap (λ (b : Bool). cond b (F.clock s) time) (le-ltb time (F.clock s) by.1) in
        let answer = sym a ∙ ap (λ (r : After S (Result Message Refusal)). r.answer) is in
        let done = effect F L s message time fit small by.0 m by.2 in
        let un : (delivered F moved (Ok m) time).answer ≡ Err Full → ⊥ = λ full. not_refused (answer ∙ full) in
        by_found (found m (view_at F time moved (key_of m))) _ (F.site moved) (decoded_fits message m by.2) (answer ∙ done.told un)
        (ap₂ (λ (c : ℕ) (r : After S (Result Message Refusal)). view_at F c r.table (key_of m)) clock is ∙ done.own un)

-- and so of whatever meets the contract of `table::receive`
pub step_kept_promised : (κs : Lfts 2) (args : Dens κs receive-kinds.ps) (x : (res_t receive-kinds.r κs).Denot)
    (left : AtExit (ended_of 2 receive-kinds.ps receive-kinds.r) κs) → receive.Post κs args x left
    → Bytes args.0.now → args.1.1.0 < 2 ^ 64 → (m : Message) {gnss : Bool} {told : Option Altitude} → Tells m.body gnss told
    → x ≡ Ok m → Kept gnss told (view bytes left.0.now (key_of m))
step_kept_promised κs args x left p b small m {gnss} {told} tells e =
    let answer = ap (λ (r : After (List ℕ) (Result Message Refusal)). r.answer) p in
    subst (λ (r : After (List ℕ) (Result Message Refusal)). Kept gnss told (view bytes r.table (key_of m))) (sym p)
    (step_kept bytes bytes_lawful args.0.now args.1.0.now args.1.1.0 (all_fit args.0.now b) small m tells (sym answer ∙ e))
