-- Published MEs with their fields, a coarse one, and what is not taken: T and F, the two speeds, latitude and longitude are unlike, so none could be swapped. Each is computed.
-- Assumes nothing.
use Rattle.std.specs.Prelude.{Ok, Err}
use mathlib.Core.Bool.{true, false}
use mathlib.Core.Path.{◌≡◌, refl}
use Rattle.refusals.specs.declared.Refusal.TheVariants.{TypeCode}
use Rattle.layouts.specs.Bodies.{taken_by}
use Rattle.layouts.specs.declared.bodies.Body.TheVariants as body

-- of the message 8C4841753A8A35323FAEBDAC702D
pub surface : taken_by false 0x3A8A35323FAEBD
    ≡ Ok (body.Surface (record {
      typecode = 7;
      movement = 40;
      status = 1;
      heading = 35;
      t = 0;
      f = 1;
      latitude = record { 0 = 39199 };
      longitude = record { 0 = 110269 };
    }))
surface = refl

-- of the message 8D485020994409940838175B284F
pub ground : taken_by false 0x99440994083817
    ≡ Ok (body.Ground (record {
      typecode = 19;
      subtype = 1;
      bit9 = 0;
      bit10 = 1;
      nacv = 0;
      west = 1;
      eastward = 9;
      south = 1;
      northward = 160;
      vertical = record { source = 0; down = 1; rate = 14; reserved = 0; below = 0; difference = 23 };
    }))
ground = refl

-- the same but for the second direction bit: west and not south, so that neither bit is taken for the other
pub west_not_south : taken_by false 0x99440914083817
    ≡ Ok (body.Ground (record {
      typecode = 19;
      subtype = 1;
      bit9 = 0;
      bit10 = 1;
      nacv = 0;
      west = 1;
      eastward = 9;
      south = 0;
      northward = 160;
      vertical = record { source = 0; down = 1; rate = 14; reserved = 0; below = 0; difference = 23 };
    }))
west_not_south = refl

-- TYPE 0, with no other field 0: none is dropped
pub no_position_lem : taken_by false 0x07381ED690C8AC
    ≡ Ok (body.Airborne (record {
      typecode = 0;
      surveillance = 3;
      bit8 = 1;
      altitude = 897;
      t = 1;
      f = 1;
      latitude = record { 0 = 93000 };
      longitude = record { 0 = 51372 };
    }))
no_position_lem = refl

-- status on the surface, of version 2, with supplement C and not A, so that neither bit is taken for the other
pub status : taken_by false 0xF954B912344AB5
    ≡ Ok (body.Status (record {
      typecode = 31;
      subtype = 1;
      class = 677;
      bit20 = 1;
      width = 9;
      mode = 4660;
      version = 2;
      supplementa = 0;
      nacp = 10;
      bits49 = 2;
      sil = 3;
      bit53 = 0;
      bit54 = 1;
      bits55 = 1;
    }))
status = refl

-- a coarse message whose first five bits are 19, and the next three 4: by its TYPE it would be a velocity through air
pub coarse : taken_by true 0x9CB46ACDABC567
    ≡ Ok (body.Coarse (record {
      flag = 1;
      surveillance = 0;
      station = 14;
      altitude = 1443;
      status = 0;
      angle = 21;
      speed = 38;
      f = 1;
      latitude = record { 0 = 2748 };
      longitude = record { 0 = 1383 };
    }))
coarse = refl

-- TYPE 23, TYPE 19 with subtypes 0 and 5, and TYPE 31 with subtypes 2 and 7
pub not_taken : (taken_by false 0xB8000000000000 ≡ Err TypeCode)
    × (taken_by false 0x98000000000000 ≡ Err TypeCode)
    × (taken_by false 0x9D000000000000 ≡ Err TypeCode)
    × (taken_by false 0xFA000000000000 ≡ Err TypeCode)
    × (taken_by false 0xFF000000000000 ≡ Err TypeCode)
not_taken = (refl, refl, refl, refl, refl)
