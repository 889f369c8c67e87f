-- RULES 20.5: the integrity of a track as 6 numbers: the version of the standard, supplements A, B and C, and the integrity as a reading, 0 unknown, 1 NUC, 2 NIC.
use Rattle.std.specs.Prelude.{ℕ, List, [], ◌∷◌, ◌++◌, Result, Ok, Err}
use Rattle.keys.specs.declared.Kind.{Kind}
use Rattle.integrity.specs.declared.Integrity.{Integrity}
use Rattle.integrity.specs.declared.Integrity.TheVariants as integrity
use Rattle.integrity.specs.Standard.{version_of, supplements_of}
use Rattle.integrity.specs.Integrity.{integrity_of}
use Rattle.track.specs.declared.Track.{Track}
use Rattle.entries.specs.declared.Reading.{Reading}
use Rattle.entries.specs.Means.{reading, bit}
use Rattle.integrity.specs.declared.standard.Bits.{Bits}
use Rattle.refusals.specs.declared.Refusal.{Refusal}

abbrev pub version_number : Result ℕ Refusal → ℕ
version_number (Ok n) = n
version_number (Err r) = 0

abbrev pub supplement_bits : Result Bits Refusal → List ℕ
supplement_bits (Ok s) = bit s.a ∷ bit s.b ∷ bit s.c ∷ []
supplement_bits (Err r) = 0 ∷ 0 ∷ 0 ∷ []

-- what was refused has the number that every reading has for it
abbrev pub integrity_reading : Result Integrity Refusal → Reading
integrity_reading (Ok integrity.Unknown) = reading 0 0
integrity_reading (Ok (integrity.Nuc n)) = reading 1 n
integrity_reading (Ok (integrity.Nic n)) = reading 2 n
integrity_reading (Err r) = reading 5 0

-- of a track of a kind
unfoldable pub standard_row : Kind → Track → List ℕ
standard_row kind t =
    let r : Reading = integrity_reading (integrity_of kind t.groups.status t.groups.typecode t.groups.bit8) in
    version_number (version_of kind t.groups.status) ∷ (supplement_bits (supplements_of kind t.groups.status t.groups.bit8) ++ (r.what ∷ r.value ∷ []))
