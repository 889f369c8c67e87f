-- The row of a frame: that of its ME, with DF, CA or CF, AA and the key set before it, is the row of the message that it says; an ME without a layout is 5.
-- Assumes nothing.
use Rattle.std.specs.Prelude.{Result, Ok, Err}
use Prim.Native.Nat.{ℕ}
use mathlib.Core.Path.{◌≡◌, refl, sym, ap, ap₂, ◌∙◌}
use mathlib.Core.Bool.{Bool, true, false, true≢false}
use mathlib.Core.List.{List, [], ◌∷◌}
use lib.Dec.{eqb}
use lib.ListN.{length, set}
use borrow.Author.Tests.{eq-eqb}
use Rattle.refusals.specs.declared.Refusal.TheVariants.{TypeCode}
use Rattle.refusals.specs.Said.{gives}
use Rattle.fields.specs.Packing.{unpack}
use Rattle.entries.specs.Arrays.{filled}
use Rattle.keys.specs.declared.Kind.{Kind}
use Rattle.keys.specs.Keys.{key_for}
use Rattle.layouts.specs.declared.bodies.Body.{Body}
use Rattle.layouts.specs.declared.bodies.Layout.{Layout}
use Rattle.layouts.specs.declared.bodies.Layout.TheVariants as layout
use Rattle.layouts.specs.Bodies.{layout_by, is_taken, layout_widths, taken_as, body_layout, body_fields, flag_of, station_of}
use Rattle.layouts.proofs.BothWays.{fields_read, flag_read, station_read}
use Rattle.messages.specs.declared.Frame.{Frame}
use Rattle.messages.specs.Message.{kind_of, message_kind, key_of, traffic_by, with_body}
use Rattle.messages.specs.Accepted.{frame_coarse, frame_kind, frame_key, frame_says, message_of}
use Rattle.messages.proofs.Flags.{traffic_is}
use Rattle.readings.specs.Bodies.{readings_of}
use Rattle.rows.specs.Rows.{row_of, four_of, four_in, message_four, message_row, me_row, row_into}
use Rattle.rows.proofs.Cutting.{chosen, filled_all}
use Rattle.rows.proofs.Laid.{row_length}
use Rattle.rows.proofs.Refusing.{by_layout}
use Rattle.entries.specs.Sent.{Sent, sent, given}
use Rattle.addercoil.specs.Messages.{message_said}
use Rattle.refusals.specs.declared.Refusal.{Refusal}

-- a row of 28 entries fills an array of 28
pub row_given : (out row new : List ℕ) → length out ≡ 28 → length row ≡ 28 → new ≡ row → sent 0 new ≡ given out (gives row)
row_given out row new h k p = ap (sent 0) (p ∙ sym (filled_all row) ∙ ap (λ (n : ℕ). filled n row) (k ∙ sym h))

pub row_in_lem : (out row new : List ℕ) → length out ≡ 28 → new ≡ row_into out row → new ≡ row
row_in_lem out row new h p = p ∙ chosen (eqb (length out) 28) row out (eq-eqb (length out) 28 h)

pub me_length : (l : Layout) (n : ℕ) (traffic : Bool) → length (me_row l n traffic) ≡ 28
me_length l n traffic = row_length l 0 0 0 0 (unpack (layout_widths l) n) (four_in (taken_as l n) traffic)

not_taken : (l : Layout) (n : ℕ) → is_taken l ≡ false → taken_as l n ≡ Err TypeCode
not_taken layout.Identification n e = absurd (true≢false e)
not_taken layout.Surface n e = absurd (true≢false e)
not_taken layout.Airborne n e = absurd (true≢false e)
not_taken layout.Ground n e = absurd (true≢false e)
not_taken layout.Air n e = absurd (true≢false e)
not_taken layout.Status n e = absurd (true≢false e)
not_taken layout.Coarse n e = absurd (true≢false e)
not_taken layout.NotTaken n e = refl

module _ (f : Frame) (out : List ℕ) where
  abbrev n : ℕ
  n = f.me

  abbrev l : Layout
  l = layout_by (frame_coarse f) n

  abbrev says : Result Body Refusal → Sent
  says t = given out (message_said (with_body f.format f.control f.address t))

  pub frame_refused_lem : is_taken l ≡ false → sent 5 out ≡ given out (message_said (frame_says f))
  frame_refused_lem e = sym (ap says (not_taken l n e))

  -- the head is set before the row of ME
  headed : (b : Body) (k : ℕ) (t : Bool) → taken_as l n ≡ Ok b → k ≡ frame_key f → t ≡ traffic_by f.format f.control
      → row_of l (f.format ∷ f.control ∷ f.address ∷ k ∷ []) (unpack (layout_widths l) n) (four_in (taken_as l n) t) ≡ message_row (message_of f b)
  headed b k t e p q =
      let x : Bool = frame_coarse f in
      let c = fields_read x n b e in
      let kind : frame_kind f ≡ message_kind (message_of f b) = sym (ap₂ (kind_of f.format f.control) (flag_read x n b e) (station_read x n b e)) in
      let key : k ≡ key_of (message_of f b) = p ∙ ap (λ (x : Kind). key_for x f.address) kind in
      ap₂ (λ (l : Layout) (v : List ℕ). row_of l (f.format ∷ f.control ∷ f.address ∷ k ∷ []) v (four_in (taken_as (layout_by x n) n) t)) (sym c.0) (sym c.1)
      ∙ ap₂ (λ (x : ℕ) (y : Result Body Refusal). row_of (body_layout b) (f.format ∷ f.control ∷ f.address ∷ x ∷ []) (body_fields b) (four_in y t)) key e
      ∙ ap (λ (u : Bool). row_of (body_layout b) (f.format ∷ f.control ∷ f.address ∷ key_of (message_of f b) ∷ []) (body_fields b) (four_of (readings_of b u)))
      (q ∙ sym (traffic_is f.format f.control (flag_of b) (station_of b)))

  pub frame_given : (row new : List ℕ) (k : ℕ) (t : Bool) → length out ≡ 28 → is_taken l ≡ true → row ≡ me_row l n t → k ≡ frame_key f
      → t ≡ traffic_by f.format f.control → new ≡ set (set (set (set row 1 f.format) 2 f.control) 3 f.address) 4 k
      → sent 0 new ≡ given out (message_said (frame_says f))
  unfolding row_of
  frame_given row new k t h e r p q s =
      let b = by_layout l n e in
      let m = message_of f b.0 in
      row_given out (message_row m) new h (row_length (body_layout b.0) f.format f.control f.address (key_of m) (body_fields b.0) (message_four m))
      (s ∙ ap (λ (x : List ℕ). set (set (set (set x 1 f.format) 2 f.control) 3 f.address) 4 k) r ∙ headed b.0 k t b.1 p q)
      ∙ sym (ap says b.1)
