-- Each layout both ways, by one law: a struct is its list of fields, so what is packed and unpacked comes back by the law of packing.
-- Assumes nothing.
use Prim.Native.Nat.{ℕ}
use mathlib.Core.Path.{◌≡◌, refl, ap, ◌∙◌}
use mathlib.Core.List.{List}
use lib.ListN.{get_or}
use Rattle.fields.specs.Packing.{pack, unpack, Fit}
use Rattle.fields.proofs.Packing.{unpack_pack}
use Rattle.layouts.specs.Coarse.{coarse_fields, coarse_widths}
use Rattle.layouts.specs.Layouts.{identification_fields, surface_fields, airborne_fields, identification_widths, surface_widths, airborne_widths}
use Rattle.layouts.specs.Status.{status_fields, status_widths}
use Rattle.layouts.specs.Velocity.{ground_fields, air_fields, velocity_widths}
use Rattle.layouts.specs.declared.coarse.Coarse.{Coarse}
use Rattle.layouts.specs.declared.identification.Identification.{Identification}
use Rattle.layouts.specs.declared.surface.Surface.{Surface}
use Rattle.layouts.specs.declared.airborne.Airborne.{Airborne}
use Rattle.layouts.specs.declared.status.Status.{Status}
use Rattle.layouts.specs.declared.velocity.Vertical.{Vertical}
use Rattle.layouts.specs.declared.velocity.Ground.{Ground}
use Rattle.layouts.specs.declared.velocity.Air.{Air}

-- a layout: a struct with its widths, its fields, and the struct that a list of fields makes
pub record Layout (B : Type 0) : Type 0 where
  pub widths : List ℕ
  pub fields : B → List ℕ
  pub from : List ℕ → B
  pub again : (b : B) → from (fields b) ≡ b

-- the fields of what is packed are the struct's
pub unpacked : {B : Type 0} (l : Layout B) (b : B) → Fit l.widths (l.fields b) → unpack l.widths (pack l.widths (l.fields b)) ≡ l.fields b
unpacked l b f = unpack_pack l.widths (l.fields b) f

-- and so is the struct
pub back : {B : Type 0} (l : Layout B) (b : B) → Fit l.widths (l.fields b) → l.from (unpack l.widths (pack l.widths (l.fields b))) ≡ b
back l b f = ap l.from (unpacked l b f) ∙ l.again b

abbrev pub identification : Layout Identification
identification = record {
  widths = identification_widths;
  fields = identification_fields;
  from = λ l. record { typecode = get_or l 0 0; category = get_or l 1 0; characters = get_or l 2 0 };
  again = λ b. refl;
}

abbrev pub surface : Layout Surface
surface = record {
  widths = surface_widths;
  fields = surface_fields;
  from = λ l. record {
    typecode = get_or l 0 0;
    movement = get_or l 1 0;
    status = get_or l 2 0;
    heading = get_or l 3 0;
    t = get_or l 4 0;
    f = get_or l 5 0;
    latitude = record { 0 = get_or l 6 0 };
    longitude = record { 0 = get_or l 7 0 };
  };
  again = λ b. refl;
}

abbrev pub airborne : Layout Airborne
airborne = record {
  widths = airborne_widths;
  fields = airborne_fields;
  from = λ l. record {
    typecode = get_or l 0 0;
    surveillance = get_or l 1 0;
    bit8 = get_or l 2 0;
    altitude = get_or l 3 0;
    t = get_or l 4 0;
    f = get_or l 5 0;
    latitude = record { 0 = get_or l 6 0 };
    longitude = record { 0 = get_or l 7 0 };
  };
  again = λ b. refl;
}

-- the end of both velocities
abbrev pub vertical : List ℕ → Vertical
vertical l = record {
  source = get_or l 9 0;
  down = get_or l 10 0;
  rate = get_or l 11 0;
  reserved = get_or l 12 0;
  below = get_or l 13 0;
  difference = get_or l 14 0;
}

abbrev pub ground : Layout Ground
ground = record {
  widths = velocity_widths;
  fields = ground_fields;
  from = λ l. record {
    typecode = get_or l 0 0;
    subtype = get_or l 1 0;
    bit9 = get_or l 2 0;
    bit10 = get_or l 3 0;
    nacv = get_or l 4 0;
    west = get_or l 5 0;
    eastward = get_or l 6 0;
    south = get_or l 7 0;
    northward = get_or l 8 0;
    vertical = vertical l;
  };
  again = λ b. refl;
}

abbrev pub air : Layout Air
air = record {
  widths = velocity_widths;
  fields = air_fields;
  from = λ l. record {
    typecode = get_or l 0 0;
    subtype = get_or l 1 0;
    bit9 = get_or l 2 0;
    bit10 = get_or l 3 0;
    nacv = get_or l 4 0;
    status = get_or l 5 0;
    heading = get_or l 6 0;
    airspeedkind = get_or l 7 0;
    airspeed = get_or l 8 0;
    vertical = vertical l;
  };
  again = λ b. refl;
}

abbrev pub status : Layout Status
status = record {
  widths = status_widths;
  fields = status_fields;
  from = λ l. record {
    typecode = get_or l 0 0;
    subtype = get_or l 1 0;
    class = get_or l 2 0;
    bit20 = get_or l 3 0;
    width = get_or l 4 0;
    mode = get_or l 5 0;
    version = get_or l 6 0;
    supplementa = get_or l 7 0;
    nacp = get_or l 8 0;
    bits49 = get_or l 9 0;
    sil = get_or l 10 0;
    bit53 = get_or l 11 0;
    bit54 = get_or l 12 0;
    bits55 = get_or l 13 0;
  };
  again = λ b. refl;
}

abbrev pub coarse : Layout Coarse
coarse = record {
  widths = coarse_widths;
  fields = coarse_fields;
  from = λ l. record {
    flag = get_or l 0 0;
    surveillance = get_or l 1 0;
    station = get_or l 2 0;
    altitude = get_or l 3 0;
    status = get_or l 4 0;
    angle = get_or l 5 0;
    speed = get_or l 6 0;
    f = get_or l 7 0;
    latitude = record { 0 = get_or l 8 0 };
    longitude = record { 0 = get_or l 9 0 };
  };
  again = λ b. refl;
}
