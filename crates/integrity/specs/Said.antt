-- RULES 16.5 and 19.3: what each answer says in the rules' terms: a number, or the version, the supplements or the integrity.
use Rattle.std.specs.Prelude.{ℕ, Bool, true, false, Result, Ok, Err}
use Rattle.refusals.specs.Numbers.{number_of}
use Rattle.refusals.specs.Said.{Said, number, gives}
use Rattle.keys.specs.declared.Kind.{Kind}
use Rattle.integrity.specs.declared.Integrity.{Integrity}
use Rattle.integrity.specs.declared.Integrity.TheVariants as integrity
use Rattle.integrity.specs.declared.standard.Bits.{Bits}
use Rattle.integrity.specs.Integrity.{integrity_in}
use Rattle.refusals.specs.declared.Refusal.{Refusal}

-- what a TYPE can say
pub data Level : Type 0 where
  unknown : Level
  nuc nic : ℕ → Level

abbrev pub version_said : Result ℕ Refusal → Said ℕ
version_said (Ok n) = gives n
version_said (Err r) = number (number_of r)

abbrev pub supplements_said : Result Bits Refusal → Said Bits
supplements_said (Ok s) = gives s
supplements_said (Err r) = number (number_of r)

abbrev pub integrity_said : Result Integrity Refusal → Said Level
integrity_said (Ok integrity.Unknown) = gives unknown
integrity_said (Ok (integrity.Nuc n)) = gives (nuc n)
integrity_said (Ok (integrity.Nic n)) = gives (nic n)
integrity_said (Err r) = number (number_of r)

-- NUC or NIC
abbrev pub is_number : Integrity → Bool
is_number integrity.Unknown = false
is_number (integrity.Nuc n) = true
is_number (integrity.Nic n) = true

-- what is due by the kind, the status, TYPE and bit 8
abbrev pub integrity_means : Kind → ℕ → ℕ → Bool → Level
integrity_means kind status type bit8 = integrity_in unknown nuc nic kind status type bit8
