-- RULES 2.4, 2.11 and 2.12: ME as a whole: its layout, by TYPE and subtype or that of a coarse message, or the refusal.
use Rattle.std.specs.Prelude.{ℕ, List, [], Bool, true, false, cond, ◌&&◌, Result, Ok, Err}
use Rattle.refusals.specs.declared.Refusal.TheVariants.{TypeCode, Field}
use Rattle.fields.specs.Packing.{pack, fits, me}
use Rattle.layouts.specs.declared.bodies.Body.{Body}
use Rattle.layouts.specs.declared.bodies.Body.TheVariants as body
use Rattle.layouts.specs.declared.bodies.Layout.{Layout}
use Rattle.layouts.specs.declared.bodies.Layout.TheVariants as layout
use Rattle.layouts.specs.Coarse.{coarse_of, coarse_fields, coarse_widths}
use Rattle.layouts.specs.Layouts.{is_identification, is_surface, is_airborne, identification_of, surface_of, airborne_of, identification_fields, surface_fields, airborne_fields, identification_widths, surface_widths, airborne_widths}
use Rattle.layouts.specs.Status.{is_status, status_of, status_fields, status_widths}
use Rattle.layouts.specs.Velocity.{is_ground, is_air, ground_of, air_of, ground_fields, air_fields, velocity_widths}
use Rattle.refusals.specs.declared.Refusal.{Refusal}

-- RULES 2.4 and 17.2: by TYPE and subtype; any other is not taken
abbrev pub layout_at : ℕ → ℕ → Layout
layout_at type subtype =
    cond (is_identification type) layout.Identification
    (cond (is_surface type) layout.Surface
    (cond (is_airborne type) layout.Airborne
    (cond (is_ground type subtype) layout.Ground
    (cond (is_air type subtype) layout.Air
    (cond (is_status type subtype) layout.Status
    layout.NotTaken)))))

-- TYPE is bits 1-5, the subtype bits 6-8
abbrev pub type_in : ℕ → ℕ
type_in n = me 1 5 n

abbrev pub layout_of : ℕ → Layout
layout_of n = layout_at (type_in n) (me 6 8 n)

-- RULES 2.4: that of a coarse message, whatever its bits; of any other by TYPE and subtype
abbrev pub layout_by : Bool → ℕ → Layout
layout_by coarse n = cond coarse layout.Coarse (layout_of n)

-- a coarse message has no TYPE, which counts as 0
abbrev pub type_by : Bool → ℕ → ℕ
type_by coarse n = cond coarse 0 (type_in n)

abbrev pub is_taken : Layout → Bool
is_taken layout.Identification = true
is_taken layout.Surface = true
is_taken layout.Airborne = true
is_taken layout.Ground = true
is_taken layout.Air = true
is_taken layout.Status = true
is_taken layout.Coarse = true
is_taken layout.NotTaken = false

-- what the bits say in a layout
abbrev pub taken_as : Layout → ℕ → Result Body Refusal
taken_as layout.Identification n = Ok (body.Identification (identification_of n))
taken_as layout.Surface n = Ok (body.Surface (surface_of n))
taken_as layout.Airborne n = Ok (body.Airborne (airborne_of n))
taken_as layout.Ground n = Ok (body.Ground (ground_of n))
taken_as layout.Air n = Ok (body.Air (air_of n))
taken_as layout.Status n = Ok (body.Status (status_of n))
taken_as layout.Coarse n = Ok (body.Coarse (coarse_of n))
taken_as layout.NotTaken n = Err TypeCode

abbrev pub taken_by : Bool → ℕ → Result Body Refusal
taken_by coarse n = taken_as (layout_by coarse n) n

-- RULES 2.12 and 17.4: the flag that tells the address of a traffic service's message, as source 002 has it: a bit of its own of a coarse message, on the surface, in the air and of a velocity. Identification and status have none, which counts as 0
abbrev pub flag_by : Layout → ℕ → ℕ → ℕ → ℕ → ℕ
flag_by layout.Identification coarse surface air velocity = 0
flag_by layout.Surface coarse surface air velocity = surface
flag_by layout.Airborne coarse surface air velocity = air
flag_by layout.Ground coarse surface air velocity = velocity
flag_by layout.Air coarse surface air velocity = velocity
flag_by layout.Status coarse surface air velocity = 0
flag_by layout.Coarse coarse surface air velocity = coarse
flag_by layout.NotTaken coarse surface air velocity = 0

-- RULES 2.12: bit 1 of a coarse message, 21 on the surface, 8 in the air, 9 of a velocity
abbrev pub flag_in : Bool → ℕ → ℕ
flag_in coarse n = flag_by (layout_by coarse n) (me 1 1 n) (me 21 21 n) (me 8 8 n) (me 9 9 n)

-- the station, bits 4-7 of a coarse message; no other has one, which counts as 0
abbrev pub station_in : Bool → ℕ → ℕ
station_in coarse n = cond coarse (me 4 7 n) 0

-- how many bits each field of a layout has, in the order of their bits
abbrev pub layout_widths : Layout → List ℕ
layout_widths layout.Identification = identification_widths
layout_widths layout.Surface = surface_widths
layout_widths layout.Airborne = airborne_widths
layout_widths layout.Ground = velocity_widths
layout_widths layout.Air = velocity_widths
layout_widths layout.Status = status_widths
layout_widths layout.Coarse = coarse_widths
layout_widths layout.NotTaken = []

-- a body's layout, whether it is the coarse one, its TYPE, its flag, its station, its fields in the order of their bits, how many bits each has, and whether TYPE and subtype are those of the layout
abbrev pub body_layout : Body → Layout
body_layout (body.Identification b) = layout.Identification
body_layout (body.Surface b) = layout.Surface
body_layout (body.Airborne b) = layout.Airborne
body_layout (body.Ground b) = layout.Ground
body_layout (body.Air b) = layout.Air
body_layout (body.Status b) = layout.Status
body_layout (body.Coarse b) = layout.Coarse

abbrev pub body_coarse : Body → Bool
body_coarse (body.Identification b) = false
body_coarse (body.Surface b) = false
body_coarse (body.Airborne b) = false
body_coarse (body.Ground b) = false
body_coarse (body.Air b) = false
body_coarse (body.Status b) = false
body_coarse (body.Coarse b) = true

abbrev pub body_type : Body → ℕ
body_type (body.Identification b) = b.typecode
body_type (body.Surface b) = b.typecode
body_type (body.Airborne b) = b.typecode
body_type (body.Ground b) = b.typecode
body_type (body.Air b) = b.typecode
body_type (body.Status b) = b.typecode
body_type (body.Coarse b) = 0

-- RULES 2.12: the flag by the names of its fields
abbrev pub flag_of : Body → ℕ
flag_of (body.Identification b) = 0
flag_of (body.Surface b) = b.t
flag_of (body.Airborne b) = b.bit8
flag_of (body.Ground b) = b.bit9
flag_of (body.Air b) = b.bit9
flag_of (body.Status b) = 0
flag_of (body.Coarse b) = b.flag

abbrev pub station_of : Body → ℕ
station_of (body.Identification b) = 0
station_of (body.Surface b) = 0
station_of (body.Airborne b) = 0
station_of (body.Ground b) = 0
station_of (body.Air b) = 0
station_of (body.Status b) = 0
station_of (body.Coarse b) = b.station

abbrev pub body_fields : Body → List ℕ
body_fields (body.Identification b) = identification_fields b
body_fields (body.Surface b) = surface_fields b
body_fields (body.Airborne b) = airborne_fields b
body_fields (body.Ground b) = ground_fields b
body_fields (body.Air b) = air_fields b
body_fields (body.Status b) = status_fields b
body_fields (body.Coarse b) = coarse_fields b

abbrev pub body_widths : Body → List ℕ
body_widths b = layout_widths (body_layout b)

abbrev pub type_agrees : Body → Bool
type_agrees (body.Identification b) = is_identification b.typecode
type_agrees (body.Surface b) = is_surface b.typecode
type_agrees (body.Airborne b) = is_airborne b.typecode
type_agrees (body.Ground b) = is_ground b.typecode b.subtype
type_agrees (body.Air b) = is_air b.typecode b.subtype
type_agrees (body.Status b) = is_status b.typecode b.subtype
type_agrees (body.Coarse b) = true

-- RULES 2.11: the 56 bits that hold the fields
abbrev pub body_me : Body → ℕ
body_me b = pack (body_widths b) (body_fields b)

-- RULES 2.16: whether each field fits its bits, in a message that would be taken as this layout
abbrev pub body_fits : Body → Bool
body_fits b = fits (body_widths b) (body_fields b) && type_agrees b

-- the 56 bits; fields wider than their bits, or with a TYPE or subtype of another layout, are refused
abbrev pub written : Body → Result ℕ Refusal
written b = cond (body_fits b) (Ok (body_me b)) (Err Field)
