-- RULES 16.5 and 16.6: the integrity of the latest position message: by its TYPE, with the version and the supplements that are held now.
use Rattle.std.specs.Prelude.{ℕ, Bool, cond, ◌||◌, eqb, Result, Ok, Err}
use Rattle.refusals.specs.declared.Refusal.TheVariants.{Field}
use Rattle.refusals.specs.declared.Refusal.{Refusal}
use Rattle.fields.specs.Packing.{wider}
use Rattle.keys.specs.declared.Kind.{Kind}
use Rattle.keys.specs.Keys.{is_coarse}
use Rattle.integrity.specs.declared.Integrity.{Integrity}
use Rattle.integrity.specs.declared.Integrity.TheVariants as integrity
use Rattle.integrity.specs.declared.standard.Bits.{Bits}
use Rattle.integrity.specs.Standard.{version_in, bits_in}
use Rattle.integrity.specs.Tables.{nuc_rows, nic_rows1, nic_rows2, in_table}

-- NUC at version 0, NIC at versions 1 and 2; unknown above them, and of a TYPE without a row, which is no position message's
abbrev pub integrity_by : {X : Type 0} → (unknown : X) (nuc nic : ℕ → X) (version type : ℕ) (s : Bits) → X
integrity_by unknown nuc nic version type s =
    cond (eqb version 0) (in_table nuc nuc_rows type s unknown)
    (cond (eqb version 1) (in_table nic nic_rows1 type s unknown)
    (cond (eqb version 2) (in_table nic nic_rows2 type s unknown)
    unknown))

-- by the version and the supplements of the kind; a coarse message has no TYPE, so that of C it is unknown whatever else is held
abbrev pub integrity_in : {X : Type 0} → (unknown : X) (nuc nic : ℕ → X) → Kind → ℕ → ℕ → Bool → X
integrity_in unknown nuc nic kind status type bit8 =
    cond (is_coarse kind) unknown
    (integrity_by unknown nuc nic (version_in kind status) type (bits_in kind status bit8))

-- a TYPE wider than its 5 bits is refused, and an ME wider than its 56
unfoldable pub integrity_of : Kind → ℕ → ℕ → Bool → Result Integrity Refusal
integrity_of kind status type bit8 =
    cond (wider 5 type || wider 56 status) (Err Field)
    (Ok (integrity_in integrity.Unknown integrity.Nuc integrity.Nic kind status type bit8))
