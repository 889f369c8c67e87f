-- Published messages with their fields, and what is refused; so the decoder neither refuses all nor gives one message for all. Each is computed.
-- Assumes nothing.
use Rattle.std.specs.Prelude.{Ok}
use Prim.Native.Nat.{ℕ}
use mathlib.Core.Path.{◌≡◌, refl, sym, ap, ◌∙◌}
use mathlib.Core.Bool.{true, false}
use mathlib.Core.List.{List, [], ◌∷◌}
use native.Mathlib.Omega.{arith}
use lib.Dec.{lit≤}
use Rattle.refusals.specs.Said.{Said, number, gives}
use Rattle.parity.specs.Division.{remainder_from, reduce}
use Rattle.parity.specs.Parity.{remainder, seal, flipped}
use Rattle.layouts.specs.Said.{Values, values}
use Rattle.layouts.specs.declared.bodies.Body.TheVariants as body
use Rattle.layouts.specs.declared.bodies.Layout.TheVariants as layout
use Rattle.messages.specs.declared.Message.{Message}
use Rattle.messages.specs.Damaged.{Damaged}
use Rattle.messages.specs.Message.{decoded, opened, kind_of, message_fits, message_bytes}
use Rattle.messages.specs.Said.{said, key_in, starts_in}
use Rattle.messages.proofs.Exactly.{accepted_exactly}

-- 8D4840D6202CC371C32CE0576098
abbrev identification : List ℕ
identification = 0x8D ∷ 0x48 ∷ 0x40 ∷ 0xD6 ∷ 0x20 ∷ 0x2C ∷ 0xC3 ∷ 0x71 ∷ 0xC3 ∷ 0x2C ∷ 0xE0 ∷ 0x57 ∷ 0x60 ∷ 0x98 ∷ []

-- 8D40621D58C382D690C8AC2863A7
abbrev airborne : List ℕ
airborne = 0x8D ∷ 0x40 ∷ 0x62 ∷ 0x1D ∷ 0x58 ∷ 0xC3 ∷ 0x82 ∷ 0xD6 ∷ 0x90 ∷ 0xC8 ∷ 0xAC ∷ 0x28 ∷ 0x63 ∷ 0xA7 ∷ []

-- 8D485020994409940838175B284F
abbrev ground : List ℕ
ground = 0x8D ∷ 0x48 ∷ 0x50 ∷ 0x20 ∷ 0x99 ∷ 0x44 ∷ 0x09 ∷ 0x94 ∷ 0x08 ∷ 0x38 ∷ 0x17 ∷ 0x5B ∷ 0x28 ∷ 0x4F ∷ []

-- 8DA05F219B06B6AF189400CBC33F
abbrev air : List ℕ
air = 0x8D ∷ 0xA0 ∷ 0x5F ∷ 0x21 ∷ 0x9B ∷ 0x06 ∷ 0xB6 ∷ 0xAF ∷ 0x18 ∷ 0x94 ∷ 0x00 ∷ 0xCB ∷ 0xC3 ∷ 0x3F ∷ []

-- 8D40621D07381ED690C8ACC1E21C: TYPE 0, and no other field 0
abbrev no_position_lem : List ℕ
no_position_lem = 0x8D ∷ 0x40 ∷ 0x62 ∷ 0x1D ∷ 0x07 ∷ 0x38 ∷ 0x1E ∷ 0xD6 ∷ 0x90 ∷ 0xC8 ∷ 0xAC ∷ 0xC1 ∷ 0xE2 ∷ 0x1C ∷ []

-- DF is 0 and TYPE 30, which earn 4 and 5: it is 4
abbrev format_0 : List ℕ
format_0 = 0 ∷ 0 ∷ 0 ∷ 0 ∷ 0xF0 ∷ 0 ∷ 0 ∷ 0 ∷ 0 ∷ 0 ∷ 0 ∷ 0x97 ∷ 0x14 ∷ 0xF8 ∷ []

-- the same with bit 88 set: 3 comes before 4
abbrev bit_88 : List ℕ
bit_88 = 0 ∷ 0 ∷ 0 ∷ 0 ∷ 0xF0 ∷ 0 ∷ 0 ∷ 0 ∷ 0 ∷ 0 ∷ 1 ∷ 0x97 ∷ 0x14 ∷ 0xF8 ∷ []

pub examples : (said (decoded identification) ≡ gives (values layout.Identification (17 ∷ 5 ∷ 0x4840D6 ∷ 4 ∷ 0 ∷ 49217938861280 ∷ [])))
    × (said (decoded airborne) ≡ gives (values layout.Airborne (17 ∷ 5 ∷ 0x40621D ∷ 11 ∷ 0 ∷ 0 ∷ 3128 ∷ 0 ∷ 0 ∷ 93000 ∷ 51372 ∷ [])))
    × (said (decoded ground) ≡ gives (values layout.Ground (17 ∷ 5 ∷ 0x485020 ∷ 19 ∷ 1 ∷ 0 ∷ 1 ∷ 0 ∷ 1 ∷ 9 ∷ 1 ∷ 160 ∷ 0 ∷ 1 ∷ 14 ∷ 0 ∷ 0 ∷ 23 ∷ [])))
    × (said (decoded air) ≡ gives (values layout.Air (17 ∷ 5 ∷ 0xA05F21 ∷ 19 ∷ 3 ∷ 0 ∷ 0 ∷ 0 ∷ 1 ∷ 694 ∷ 1 ∷ 376 ∷ 1 ∷ 1 ∷ 37 ∷ 0 ∷ 0 ∷ 0 ∷ [])))
    × (said (decoded no_position_lem) ≡ gives (values layout.Airborne (17 ∷ 5 ∷ 0x40621D ∷ 0 ∷ 3 ∷ 1 ∷ 897 ∷ 1 ∷ 1 ∷ 93000 ∷ 51372 ∷ [])))
    × (said (decoded format_0) ≡ number 4)
    × (said (decoded bit_88) ≡ number 3)
    × (said (decoded []) ≡ number 1)
unfolding remainder remainder_from reduce opened
examples = (refl, refl, refl, refl, refl, refl, refl, refl)

-- 9240621D58C382D690C8ACE58DA2: CF 2, airborne, even, the flag not set
abbrev traffic : List ℕ
traffic = 0x92 ∷ 0x40 ∷ 0x62 ∷ 0x1D ∷ 0x58 ∷ 0xC3 ∷ 0x82 ∷ 0xD6 ∷ 0x90 ∷ 0xC8 ∷ 0xAC ∷ 0xE5 ∷ 0x8D ∷ 0xA2 ∷ []

-- 9240621D59C386435CC41278BE24: CF 2, airborne, odd, the flag set: the same AA says a Mode A code and a track number
abbrev traffic_mode_a : List ℕ
traffic_mode_a = 0x92 ∷ 0x40 ∷ 0x62 ∷ 0x1D ∷ 0x59 ∷ 0xC3 ∷ 0x86 ∷ 0x43 ∷ 0x5C ∷ 0xC4 ∷ 0x12 ∷ 0x78 ∷ 0xBE ∷ 0x24 ∷ []

-- 9540621D58C382D690C8AC932FC3: CF 5, airborne, the flag not set
abbrev traffic_other : List ℕ
traffic_other = 0x95 ∷ 0x40 ∷ 0x62 ∷ 0x1D ∷ 0x58 ∷ 0xC3 ∷ 0x82 ∷ 0xD6 ∷ 0x90 ∷ 0xC8 ∷ 0xAC ∷ 0x93 ∷ 0x2F ∷ 0xC3 ∷ []

-- 9540621D59C382D690C8AC4F5534: CF 5, airborne, the flag set
abbrev traffic_reserved : List ℕ
traffic_reserved = 0x95 ∷ 0x40 ∷ 0x62 ∷ 0x1D ∷ 0x59 ∷ 0xC3 ∷ 0x82 ∷ 0xD6 ∷ 0x90 ∷ 0xC8 ∷ 0xAC ∷ 0x4F ∷ 0x55 ∷ 0x34 ∷ []

-- 9240621D3A8A3D323FAEBDB411E3: CF 2, on the surface, the flag set, which is bit 53
abbrev traffic_surface : List ℕ
traffic_surface = 0x92 ∷ 0x40 ∷ 0x62 ∷ 0x1D ∷ 0x3A ∷ 0x8A ∷ 0x3D ∷ 0x32 ∷ 0x3F ∷ 0xAE ∷ 0xBD ∷ 0xB4 ∷ 0x11 ∷ 0xE3 ∷ []

-- 9240621D99C409940838171979CB: CF 2, a velocity, the flag set, which is bit 41
abbrev traffic_velocity : List ℕ
traffic_velocity = 0x92 ∷ 0x40 ∷ 0x62 ∷ 0x1D ∷ 0x99 ∷ 0xC4 ∷ 0x09 ∷ 0x94 ∷ 0x08 ∷ 0x38 ∷ 0x17 ∷ 0x19 ∷ 0x79 ∷ 0xCB ∷ []

-- 9240621D212CC371C32CE03F92AE: CF 2, identification, which has no flag: bits 40, 41 and 53 decide nothing
abbrev traffic_name : List ℕ
traffic_name = 0x92 ∷ 0x40 ∷ 0x62 ∷ 0x1D ∷ 0x21 ∷ 0x2C ∷ 0xC3 ∷ 0x71 ∷ 0xC3 ∷ 0x2C ∷ 0xE0 ∷ 0x3F ∷ 0x92 ∷ 0xAE ∷ []

-- 8D40621D59C382D690C8ACF41950: DF 17 with CA 5, and bit 40 set
abbrev transponder : List ℕ
transponder = 0x8D ∷ 0x40 ∷ 0x62 ∷ 0x1D ∷ 0x59 ∷ 0xC3 ∷ 0x82 ∷ 0xD6 ∷ 0x90 ∷ 0xC8 ∷ 0xAC ∷ 0xF4 ∷ 0x19 ∷ 0x50 ∷ []

-- 9340621D58C382D690C8ACBDFCDA: CF 3, a coarse message, the flag not set, station 12
abbrev coarse : List ℕ
coarse = 0x93 ∷ 0x40 ∷ 0x62 ∷ 0x1D ∷ 0x58 ∷ 0xC3 ∷ 0x82 ∷ 0xD6 ∷ 0x90 ∷ 0xC8 ∷ 0xAC ∷ 0xBD ∷ 0xFC ∷ 0xDA ∷ []

-- 9340621D9CB46ACDABC56766CD3C: CF 3, the flag set, station 14; its first five bits are 19, and the next three 4
abbrev coarse_mode_a : List ℕ
coarse_mode_a = 0x93 ∷ 0x40 ∷ 0x62 ∷ 0x1D ∷ 0x9C ∷ 0xB4 ∷ 0x6A ∷ 0xCD ∷ 0xAB ∷ 0xC5 ∷ 0x67 ∷ 0x66 ∷ 0xCD ∷ 0x3C ∷ []

-- 9340621DF954B912344AB546978F: CF 3, the flag set, station 12; the first five bits are 31, the TYPE that CF 2 and 5 may not have
abbrev coarse_station : List ℕ
coarse_station = 0x93 ∷ 0x40 ∷ 0x62 ∷ 0x1D ∷ 0xF9 ∷ 0x54 ∷ 0xB9 ∷ 0x12 ∷ 0x34 ∷ 0x4A ∷ 0xB5 ∷ 0x46 ∷ 0x97 ∷ 0x8F ∷ []

-- 9440621D58C382D690C8ACCB5EBB: CF 4
abbrev rebroadcast : List ℕ
rebroadcast = 0x94 ∷ 0x40 ∷ 0x62 ∷ 0x1D ∷ 0x58 ∷ 0xC3 ∷ 0x82 ∷ 0xD6 ∷ 0x90 ∷ 0xC8 ∷ 0xAC ∷ 0xCB ∷ 0x5E ∷ 0xBB ∷ []

-- 9140621D58C382D690C8AC0D1E2A: CF 1
abbrev other : List ℕ
other = 0x91 ∷ 0x40 ∷ 0x62 ∷ 0x1D ∷ 0x58 ∷ 0xC3 ∷ 0x82 ∷ 0xD6 ∷ 0x90 ∷ 0xC8 ∷ 0xAC ∷ 0x0D ∷ 0x1E ∷ 0x2A ∷ []

-- 9540621D00381ED690C8AC6FD6A6: CF 5, TYPE 0
abbrev traffic_altitude : List ℕ
traffic_altitude = 0x95 ∷ 0x40 ∷ 0x62 ∷ 0x1D ∷ 0x00 ∷ 0x38 ∷ 0x1E ∷ 0xD6 ∷ 0x90 ∷ 0xC8 ∷ 0xAC ∷ 0x6F ∷ 0xD6 ∷ 0xA6 ∷ []

-- 8D4840D6F954B912344AB5AA6E36: DF 17, status
abbrev status : List ℕ
status = 0x8D ∷ 0x48 ∷ 0x40 ∷ 0xD6 ∷ 0xF9 ∷ 0x54 ∷ 0xB9 ∷ 0x12 ∷ 0x34 ∷ 0x4A ∷ 0xB5 ∷ 0xAA ∷ 0x6E ∷ 0x36 ∷ []

-- 9140621DF954B912344AB5F6757F: CF 1, the same ME
abbrev other_status : List ℕ
other_status = 0x91 ∷ 0x40 ∷ 0x62 ∷ 0x1D ∷ 0xF9 ∷ 0x54 ∷ 0xB9 ∷ 0x12 ∷ 0x34 ∷ 0x4A ∷ 0xB5 ∷ 0xF6 ∷ 0x75 ∷ 0x7F ∷ []

-- 9240621DF954B912344AB51EE6F7 and 9540621DF954B912344AB5684496: CF 2 and 5, the same ME
abbrev traffic_status : List ℕ
traffic_status = 0x92 ∷ 0x40 ∷ 0x62 ∷ 0x1D ∷ 0xF9 ∷ 0x54 ∷ 0xB9 ∷ 0x12 ∷ 0x34 ∷ 0x4A ∷ 0xB5 ∷ 0x1E ∷ 0xE6 ∷ 0xF7 ∷ []

abbrev traffic_other_status : List ℕ
traffic_other_status = 0x95 ∷ 0x40 ∷ 0x62 ∷ 0x1D ∷ 0xF9 ∷ 0x54 ∷ 0xB9 ∷ 0x12 ∷ 0x34 ∷ 0x4A ∷ 0xB5 ∷ 0x68 ∷ 0x44 ∷ 0x96 ∷ []

-- the kinds by their keys; one AA has one of each, and of C one for each flag and station, so no two of them are one track
pub six_kinds : (key_in airborne ≡ 0x140621D)
    × (key_in traffic ≡ 0x340621D)
    × (key_in traffic_mode_a ≡ 0x440621D)
    × (key_in traffic_surface ≡ 0x440621D)
    × (key_in traffic_velocity ≡ 0x440621D)
    × (key_in traffic_name ≡ 0x340621D)
    × (key_in traffic_other ≡ 0x540621D)
    × (key_in transponder ≡ 0x140621D)
    × (key_in other ≡ 0x240621D)
    × (key_in coarse ≡ 0x880C43AC)
    × (key_in coarse_mode_a ≡ 0x880C43BE)
    × (key_in coarse_station ≡ 0x880C43BC)
unfolding kind_of
six_kinds = (refl, refl, refl, refl, refl, refl, refl, refl, refl, refl, refl, refl)

-- what earns 5 and 4
pub traffic_refused : (said (decoded traffic_reserved) ≡ number 5)
    × (said (decoded traffic_status) ≡ number 5)
    × (said (decoded traffic_other_status) ≡ number 5)
    × (said (decoded rebroadcast) ≡ number 4)
unfolding remainder remainder_from reduce opened
traffic_refused = (refl, refl, refl, refl)

-- a coarse message is read by its own layout, whatever TYPE its bits would be
pub coarse_read : said (decoded coarse_station) ≡ gives (values layout.Coarse (18 ∷ 3 ∷ 0x40621D ∷ 1 ∷ 3 ∷ 12 ∷ 2725 ∷ 1 ∷ 18 ∷ 9 ∷ 0 ∷ 836 ∷ 2741 ∷ []))
unfolding remainder remainder_from reduce opened
coarse_read = refl

-- what may start a track: of the traffic service positions alone, as every coarse message is
pub traffic_starts : (starts_in traffic ≡ true)
    × (starts_in traffic_surface ≡ true)
    × (starts_in traffic_velocity ≡ false)
    × (starts_in traffic_other ≡ true)
    × (starts_in traffic_name ≡ false)
    × (starts_in traffic_altitude ≡ false)
    × (starts_in ground ≡ true)
    × (starts_in identification ≡ true)
    × (starts_in coarse_mode_a ≡ true)
    × (starts_in coarse_station ≡ true)
unfolding kind_of
traffic_starts = (refl, refl, refl, refl, refl, refl, refl, refl, refl, refl)

-- a status starts a track of I and of O
pub status_starts : (starts_in status ≡ true) × (key_in status ≡ 0x14840D6) × (starts_in other_status ≡ true) × (key_in other_status ≡ 0x240621D)
unfolding kind_of
status_starts = (refl, refl, refl, refl)

-- an even message of T and an odd one of M, of one AA, are never a pair: their keys differ
pub never_paired : key_in traffic ≡ key_in traffic_mode_a → ⊥
never_paired e = let z : ◌≡◌ {A = ℕ} 0x340621D 0x440621D = sym six_kinds.1 ∙ e ∙ six_kinds.2 in omega arith

-- ---- both ways: the bytes are decoded to these fields, which are taken and give the same bytes

abbrev BothWays : List ℕ → Message → Type 0
BothWays bytes m = (decoded bytes ≡ Ok m) × (message_fits m ≡ true) × (message_bytes m ≡ bytes)

-- TYPE 0
abbrev no_position_fields : Message
no_position_fields = record {
  format = 17;
  control = 5;
  address = 0x40621D;
  body = body.Airborne (record { typecode = 0; surveillance = 3; bit8 = 1; altitude = 897; t = 1; f = 1; latitude = record { 0 = 93000 }; longitude = record { 0 = 51372 } });
}

pub no_position_both_ways : BothWays no_position_lem no_position_fields
unfolding seal remainder remainder_from reduce opened
no_position_both_ways = (refl, refl, refl)

-- the traffic service, with the flag set
abbrev mode_a_fields : Message
mode_a_fields = record {
  format = 18;
  control = 2;
  address = 0x40621D;
  body = body.Airborne (record { typecode = 11; surveillance = 0; bit8 = 1; altitude = 3128; t = 0; f = 1; latitude = record { 0 = 74158 }; longitude = record { 0 = 50194 } });
}

pub traffic_both_ways : BothWays traffic_mode_a mode_a_fields
unfolding seal remainder remainder_from reduce opened
traffic_both_ways = (refl, refl, refl)

-- status
abbrev status_fields_lem : Message
status_fields_lem = record {
  format = 17;
  control = 5;
  address = 0x4840D6;
  body = body.Status (record { typecode = 31; subtype = 1; class = 677; bit20 = 1; width = 9; mode = 4660; version = 2; supplementa = 0; nacp = 10; bits49 = 2; sil = 3; bit53 = 0; bit54 = 1; bits55 = 1 });
}

pub status_both_ways : BothWays status status_fields_lem
unfolding seal remainder remainder_from reduce opened
status_both_ways = (refl, refl, refl)

-- coarse
abbrev coarse_fields_lem : Message
coarse_fields_lem = record {
  format = 18;
  control = 3;
  address = 0x40621D;
  body = body.Coarse (record { flag = 1; surveillance = 0; station = 14; altitude = 1443; status = 0; angle = 21; speed = 38; f = 1; latitude = record { 0 = 2748 }; longitude = record { 0 = 1383 } });
}

pub coarse_both_ways : BothWays coarse_mode_a coarse_fields_lem
unfolding seal remainder remainder_from reduce opened
coarse_both_ways = (refl, refl, refl)

-- the same under CF 2, and a body with a TYPE under CF 3, do not fit: CF 3 and a coarse body go together
abbrev under : ℕ → Message → Message
under control m = record { format = 18; control = control; address = m.address; body = m.body }

pub coarse_with_its_own : (message_fits (under 2 coarse_fields_lem) ≡ false) × (message_fits (under 3 mode_a_fields) ≡ false)
coarse_with_its_own = (refl, refl)

-- so two accepted messages are told apart
abbrev fields_in : Said Values → List ℕ
fields_in (number n) = []
fields_in (gives v) = v.fields

pub told_apart : decoded identification ≡ decoded airborne → ⊥
told_apart e =
    let p : ◌≡◌ {A = List ℕ} (17 ∷ 5 ∷ 0x4840D6 ∷ 4 ∷ 0 ∷ 49217938861280 ∷ []) (17 ∷ 5 ∷ 0x40621D ∷ 11 ∷ 0 ∷ 0 ∷ 3128 ∷ 0 ∷ 0 ∷ 93000 ∷ 51372 ∷ []) =
    ap fields_in (sym examples.0 ∙ ap said e ∙ examples.1) in
    let z : ◌≡◌ {A = ℕ} 4 11 = cc in
    omega arith

-- a damaged message: the first of them with bit 88 flipped
pub damaged : Damaged (flipped 88 identification)
unfolding remainder remainder_from reduce
damaged =
    record {
      sent = identification;
      acceptable = (accepted_exactly identification).1 (refl, refl, refl, refl);
      bit = 88;
      from = lit≤ tt;
      to = lit≤ tt;
      heard = refl;
    }
