-- What the contracts promise in the rules' terms: whatever meets one says 8 where an ME or a TYPE is wider than its bits, and else what the published tables give. The definitions of specs/Said carry each case over.
-- Assumes nothing.
use Rattle.std.specs.Prelude.{Ok}
use Prim.Native.Nat.{ℕ}
use mathlib.Core.Path.{◌≡◌, refl, ap, ◌∙◌}
use mathlib.Core.Bool.{Bool, cond, ◌||◌}
use mathlib.Core.List.{List, [], ◌∷◌}
use lib.Dec.{eqb}
use contract.Lifetimes.{Lfts}
use denote.Triple.Clauses.{AtExit}
use borrow.Fn.Kinds.{Dens, res_t, ended_of}
use Rattle.refusals.specs.Said.{number, gives}
use Rattle.fields.specs.Packing.{wider}
use Rattle.fields.proofs.Bools.{through}
use Rattle.keys.specs.declared.Kind.{Kind}
use Rattle.keys.specs.Keys.{is_coarse}
use Rattle.integrity.specs.declared.Integrity.{Integrity}
use Rattle.integrity.specs.declared.Integrity.TheVariants.{Unknown, Nuc, Nic}
use Rattle.integrity.specs.declared.standard.Bits.{Bits}
use Rattle.integrity.specs.Integrity.{integrity_by, integrity_of}
use Rattle.integrity.specs.Said.{Level, unknown, nuc, nic, version_said, supplements_said, integrity_said, integrity_means}
use Rattle.integrity.specs.Standard.{version_in, bits_in, version_of, supplements_of}
use Rattle.integrity.specs.Tables.{Row, nuc_rows, nic_rows1, nic_rows2, lowest, with_these, of_type, in_table}
use Rattle.integrity.proofs.standard.version_of.Kinds as version-of-kinds
use Rattle.integrity.proofs.standard.version_of.Reads as version_of
use Rattle.integrity.proofs.standard.supplements_of.Kinds as supplements-of-kinds
use Rattle.integrity.proofs.standard.supplements_of.Reads as supplements-of
use Rattle.integrity.proofs.integrity_of.Kinds as integrity-of-kinds
use Rattle.integrity.proofs.integrity_of.Reads as integrity-of

-- ---- the definitions say so

pub version_says : (kind : Kind) (status : ℕ) → version_said (version_of kind status) ≡ cond (wider 56 status) (number 8) (gives (version_in kind status))
version_says kind status = through version_said (λ s. s) (wider 56 status) refl refl

pub supplements_say : (kind : Kind) (status : ℕ) (bit8 : Bool)
    → supplements_said (supplements_of kind status bit8) ≡ cond (wider 56 status) (number 8) (gives (bits_in kind status bit8))
supplements_say kind status bit8 = through supplements_said (λ s. s) (wider 56 status) refl refl

module _ (x : ℕ → Integrity) (y : ℕ → Level) (e : (n : ℕ) → integrity_said (Ok (x n)) ≡ gives (y n)) where
  lowest_says : (l m : List ℕ) → integrity_said (Ok (lowest x l (lowest x m Unknown))) ≡ gives (lowest y l (lowest y m unknown))
  lowest_says [] [] = refl
  lowest_says [] (n ∷ ns) = e _
  lowest_says (n ∷ ns) m = e _

  table_says : (rows : List Row) (type : ℕ) (s : Bits) → integrity_said (Ok (in_table x rows type s Unknown)) ≡ gives (in_table y rows type s unknown)
  unfolding in_table
  table_says rows type s = lowest_says (with_these type s rows) (of_type type rows)

by_says : (v type : ℕ) (s : Bits) → integrity_said (Ok (integrity_by Unknown Nuc Nic v type s)) ≡ gives (integrity_by unknown nuc nic v type s)
by_says v type s =
    through (λ i. integrity_said (Ok i)) gives (eqb v 0) (table_says Nuc nuc (λ n. refl) nuc_rows type s)
    (through (λ i. integrity_said (Ok i)) gives (eqb v 1) (table_says Nic nic (λ n. refl) nic_rows1 type s)
    (through (λ i. integrity_said (Ok i)) gives (eqb v 2) (table_says Nic nic (λ n. refl) nic_rows2 type s)
    refl))

pub integrity_says : (kind : Kind) (status type : ℕ) (bit8 : Bool) → integrity_said (integrity_of kind status type bit8)
    ≡ cond (wider 5 type || wider 56 status) (number 8) (gives (integrity_means kind status type bit8))
unfolding integrity_of
integrity_says kind status type bit8 =
    through integrity_said (λ s. s) (wider 5 type || wider 56 status) refl
    (through (λ i. integrity_said (Ok i)) gives (is_coarse kind) refl (by_says (version_in kind status) type (bits_in kind status bit8)))

-- ---- and so does whatever meets a contract

pub version_of_promised : (κs : Lfts 0) (args : Dens κs version-of-kinds.ps) (x : (res_t version-of-kinds.r κs).Denot)
    (left : AtExit (ended_of 0 version-of-kinds.ps version-of-kinds.r) κs) → version_of.Post κs args x left
    → version_said x ≡ cond (wider 56 args.1.0) (number 8) (gives (version_in args.0 args.1.0))
version_of_promised κs args x left p = ap version_said p ∙ version_says args.0 args.1.0

pub supplements_of_promised : (κs : Lfts 0) (args : Dens κs supplements-of-kinds.ps) (x : (res_t supplements-of-kinds.r κs).Denot)
    (left : AtExit (ended_of 0 supplements-of-kinds.ps supplements-of-kinds.r) κs) → supplements-of.Post κs args x left
    → supplements_said x ≡ cond (wider 56 args.1.0) (number 8) (gives (bits_in args.0 args.1.0 args.1.1.0))
supplements_of_promised κs args x left p = ap supplements_said p ∙ supplements_say args.0 args.1.0 args.1.1.0

pub integrity_of_promised : (κs : Lfts 0) (args : Dens κs integrity-of-kinds.ps) (x : (res_t integrity-of-kinds.r κs).Denot)
    (left : AtExit (ended_of 0 integrity-of-kinds.ps integrity-of-kinds.r) κs) → integrity-of.Post κs args x left
    → integrity_said x ≡ cond (wider 5 args.1.1.0 || wider 56 args.1.0) (number 8)
    (gives (integrity_means args.0 args.1.0 args.1.1.0 args.1.1.1.0))
integrity_of_promised κs args x left p = ap integrity_said p ∙ integrity_says args.0 args.1.0 args.1.1.0 args.1.1.1.0
