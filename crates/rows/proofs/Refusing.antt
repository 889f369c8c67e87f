-- No reading in a row is a refusal, of a decoded message or of an ME of 56 bits: the fields fit, so each reading gives something, and only a refusal is 5.
-- Assumes nothing.
use Rattle.std.specs.Prelude.{Option, Result, Ok}
use Prim.Native.Nat.{ℕ, ◌^◌, ◌<◌}
use mathlib.Core.Path.{◌≡◌, refl, sym, ap, ap₂, subst, subst⁻¹, ◌∙◌}
use mathlib.Core.Bool.{Bool, true, false≢true}
use mathlib.Core.List.{List, [], ◌∷◌}
use native.Mathlib.Omega.{arith}
use Rattle.fields.specs.Bytes.{Bytes}
use Rattle.fields.specs.Packing.{unpack}
use Rattle.layouts.specs.declared.bodies.Body.{Body}
use Rattle.layouts.specs.declared.bodies.Body.TheVariants as body
use Rattle.layouts.specs.declared.bodies.Layout.{Layout}
use Rattle.layouts.specs.declared.bodies.Layout.TheVariants as layout
use Rattle.layouts.specs.Bodies.{layout_by, is_taken, layout_widths, taken_as, taken_by, body_layout, body_fields, body_fits}
use Rattle.layouts.proofs.BothWays.{read_good, fields_read}
use Rattle.readings.specs.Bodies.{identification_means, surface_means, airborne_means, ground_means, air_means, status_means, coarse_means, body_readings, readings_of}
use Rattle.readings.specs.declared.bodies.Readings.{Readings}
use Rattle.readings.specs.declared.altitude.Altitude.{Altitude}
use Rattle.entries.specs.Means.{altitude_reading, step_reading}
use Rattle.readings.proofs.Promised.{fitting_given}
use Rattle.readings.proofs.Whole.{read}
use Rattle.entries.proofs.Refusing.{altitude_given, unknown_no_step, speed_given, rate_given, difference_given, heading_given, movement_given, coarse_speed_given, set_given, text_given, version_given, supplement_given}
use Rattle.messages.specs.declared.Message.{Message}
use Rattle.messages.specs.Message.{key_of, traffic, decoded}
use Rattle.messages.proofs.BothWays.{decoded_good}
use Rattle.messages.proofs.Fitting.{fits_body}
use Rattle.rows.specs.declared.message.Four.{Four}
use Rattle.rows.specs.Rows.{row_of, me_row, four_of, four_in, message_four, message_row, NoneRefused}
use Rattle.refusals.specs.declared.Refusal.{Refusal}

-- what each of four readings is
abbrev Given4 : Four → Type 0
Given4 f = (f.first.what < 5) × (f.second.what < 5) × (f.third.what < 5) × (f.fourth.what < 5)

-- a step is refused just when its altitude is
pub step_given : (a : Result (Option Altitude) Refusal) → (altitude_reading a).what < 5 → (step_reading a).what < 5
step_given a g = subst⁻¹ (λ (n : ℕ). n < 5) (unknown_no_step a).0 g

given : (b : Body) (traffic : Bool) → body_fits b ≡ true → Given4 (four_of (Ok (body_readings b traffic)))
given (body.Identification b) traffic e =
    let g = fitting_given (body.Identification b) traffic e in
    let r = identification_means b in
    (set_given (Ok r.set) g.0, text_given (Ok r.text) g.1, omega arith, omega arith)
given (body.Surface b) traffic e =
    let g = fitting_given (body.Surface b) traffic e in
    let r = surface_means b in
    (movement_given (Ok r.movement) g.0, heading_given (Ok r.heading) g.1, omega arith, omega arith)
given (body.Airborne b) traffic e =
    let a = Ok (airborne_means b).altitude in
    let g = altitude_given a (fitting_given (body.Airborne b) traffic e) in
    (g, omega arith, step_given a g, omega arith)
given (body.Ground b) traffic e =
    let g = fitting_given (body.Ground b) traffic e in
    let r = ground_means b traffic in
    (speed_given (Ok r.east) g.0, speed_given (Ok r.north) g.1, rate_given (Ok r.rate) g.2, difference_given (Ok r.difference) g.3)
given (body.Air b) traffic e =
    let g = fitting_given (body.Air b) traffic e in
    let r = air_means b traffic in
    (heading_given (Ok r.heading) g.0, speed_given (Ok r.airspeed) g.1, rate_given (Ok r.rate) g.2, difference_given (Ok r.difference) g.3)
given (body.Status b) traffic e =
    let r = status_means b in
    (version_given r.version, supplement_given r.supplementa, supplement_given r.supplementc, omega arith)
given (body.Coarse b) traffic e =
    let g = fitting_given (body.Coarse b) traffic e in
    let r = coarse_means b in
    let a = altitude_given (Ok r.altitude) g.0 in
    (a, step_given (Ok r.altitude) a, heading_given (Ok r.angle) g.1, coarse_speed_given (Ok r.speed) g.2)

-- where the readings stand in a row
in_row : (b : Body) (format control address key : ℕ) (f : Four) → Given4 f → NoneRefused (row_of (body_layout b) (format ∷ control ∷ address ∷ key ∷ []) (body_fields b) f)
unfolding row_of
in_row (body.Identification b) format control address key f g = g
in_row (body.Surface b) format control address key f g = g
in_row (body.Airborne b) format control address key f g = g
in_row (body.Ground b) format control address key f g = g
in_row (body.Air b) format control address key f g = g
in_row (body.Status b) format control address key f g = g
in_row (body.Coarse b) format control address key f g = g

-- a body that fits
four_given : (b : Body) (traffic : Bool) → body_fits b ≡ true → Given4 (four_of (readings_of b traffic))
four_given b traffic e = subst⁻¹ (λ (r : Result Readings Refusal). Given4 (four_of r)) (read b _ true (sym e) refl) (given b traffic e)

pub never_refused : (s : List ℕ) (m : Message) → Bytes s → decoded s ≡ Ok m → NoneRefused (message_row m)
never_refused s m h d =
    in_row m.body m.format m.control m.address (key_of m) (message_four m) (four_given m.body (traffic m) (fits_body m (decoded_good s m h d).0))

-- .. nor of an ME of 56 bits by itself, which has a layout

me_row_of : (coarse : Bool) (n : ℕ) (traffic : Bool) (b : Body) → taken_by coarse n ≡ Ok b
    → row_of (body_layout b) (0 ∷ 0 ∷ 0 ∷ 0 ∷ []) (body_fields b) (four_of (readings_of b traffic)) ≡ me_row (layout_by coarse n) n traffic
me_row_of coarse n traffic b e =
    let c = fields_read coarse n b e in
    let l : Layout = layout_by coarse n in
    ap₂ (λ (l : Layout) (v : List ℕ). row_of l (0 ∷ 0 ∷ 0 ∷ 0 ∷ []) v (four_of (readings_of b traffic))) c.0 c.1
    ∙ ap (λ (t : Result Body Refusal). row_of l (0 ∷ 0 ∷ 0 ∷ 0 ∷ []) (unpack (layout_widths l) n) (four_in t traffic)) (sym e)

pub by_layout : (l : Layout) (n : ℕ) → is_taken l ≡ true → (b : Body) × (taken_as l n ≡ Ok b)
by_layout layout.Identification n e = (_, refl)
by_layout layout.Surface n e = (_, refl)
by_layout layout.Airborne n e = (_, refl)
by_layout layout.Ground n e = (_, refl)
by_layout layout.Air n e = (_, refl)
by_layout layout.Status n e = (_, refl)
by_layout layout.Coarse n e = (_, refl)
by_layout layout.NotTaken n e = absurd (false≢true e)

pub me_never_refused : (coarse : Bool) (n : ℕ) (traffic : Bool) → n < 2 ^ 56 → is_taken (layout_by coarse n) ≡ true → NoneRefused (me_row (layout_by coarse n) n traffic)
me_never_refused coarse n traffic h t =
    let r = by_layout (layout_by coarse n) n t in
    subst NoneRefused (me_row_of coarse n traffic r.0 r.1)
    (in_row r.0 0 0 0 0 (four_of (readings_of r.0 traffic)) (four_given r.0 traffic (read_good coarse n r.0 h r.1).0))
