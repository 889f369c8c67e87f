-- RULES 16.2 to 16.4: the version of the standard that an aircraft's messages are of, and its supplements: by its kind, the ME of the status that was last heard, and bit 8 of ME of the latest position message, which is 0 of one from the surface.
use Rattle.std.specs.Prelude.{ℕ, Bool, true, false, cond, ◌&&◌, eqb, Result, Ok, Err}
use Rattle.refusals.specs.declared.Refusal.TheVariants.{Field}
use Rattle.fields.specs.Packing.{wider}
use Rattle.keys.specs.declared.Kind.{Kind}
use Rattle.keys.specs.Keys.{is_traffic}
use Rattle.layouts.specs.declared.bodies.Layout.{Layout}
use Rattle.layouts.specs.declared.bodies.Layout.TheVariants as layout
use Rattle.layouts.specs.Bodies.{layout_of}
use Rattle.layouts.specs.Status.{status_of}
use Rattle.readings.specs.Status.{has_a, has_c, bit_c}
use Rattle.integrity.specs.declared.standard.Bits.{Bits}
use Rattle.refusals.specs.declared.Refusal.{Refusal}

-- an ME of another layout is no status, and counts as none heard
abbrev pub is_status : Layout → Bool
is_status layout.Status = true
is_status layout.Identification = false
is_status layout.Surface = false
is_status layout.Airborne = false
is_status layout.Ground = false
is_status layout.Air = false
is_status layout.Coarse = false
is_status layout.NotTaken = false

-- what the status says; without one the version is 0
unfoldable pub status_version : ℕ → ℕ
status_version status = cond (is_status (layout_of status)) (status_of status).version 0

-- T, M, N and C are version 1
unfoldable pub version_in : Kind → ℕ → ℕ
version_in kind status = cond (is_traffic kind) 1 (status_version status)

abbrev pub no_bits : Bits
no_bits = record { a = false; b = false; c = false }

-- the supplements that a version has are read, and the others are 0: A and C of the status, B, which version 2 alone has, of the position
unfoldable pub status_bits : ℕ → Bool → Bits
status_bits status bit8 =
    let v : ℕ = status_version status in
    record {
      a = has_a v && eqb (status_of status).supplementa 1;
      b = eqb v 2 && bit8;
      c = has_c v && eqb (bit_c (status_of status).subtype (status_of status).bit20) 1;
    }

-- T, M, N and C have supplements 0
unfoldable pub bits_in : Kind → ℕ → Bool → Bits
bits_in kind status bit8 = cond (is_traffic kind) no_bits (status_bits status bit8)

-- an ME wider than its 56 bits is refused
abbrev pub version_of : Kind → ℕ → Result ℕ Refusal
version_of kind status = cond (wider 56 status) (Err Field) (Ok (version_in kind status))

abbrev pub supplements_of : Kind → ℕ → Bool → Result Bits Refusal
supplements_of kind status bit8 = cond (wider 56 status) (Err Field) (Ok (bits_in kind status bit8))
