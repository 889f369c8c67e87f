-- RULES 2.9 and 16.1: the layout of operational status, TYPE 31, by source 000's bit numbers of ME; bit 1 is the highest of the 56.
use Rattle.std.specs.Prelude.{ℕ, List, [], ◌∷◌, Bool, ◌&&◌, leb, eqb}
use Rattle.fields.specs.Packing.{me}
use Rattle.layouts.specs.declared.status.Status.{Status}

abbrev pub is_status_type : ℕ → Bool
is_status_type type = eqb type 31

-- subtype 0 in the air, 1 on the surface
abbrev pub is_status : ℕ → ℕ → Bool
is_status type subtype = is_status_type type && leb subtype 1

-- what the bits say
abbrev pub status_of : ℕ → Status
status_of n = record {
  typecode = me 1 5 n;
  subtype = me 6 8 n;
  class = me 9 19 n;
  bit20 = me 20 20 n;
  width = me 21 24 n;
  mode = me 25 40 n;
  version = me 41 43 n;
  supplementa = me 44 44 n;
  nacp = me 45 48 n;
  bits49 = me 49 50 n;
  sil = me 51 52 n;
  bit53 = me 53 53 n;
  bit54 = me 54 54 n;
  bits55 = me 55 56 n;
}

-- the fields in the order of their bits, and how many bits each has

-- from the version on
abbrev pub end_widths : List ℕ
end_widths = 3 ∷ 1 ∷ 4 ∷ 2 ∷ 2 ∷ 1 ∷ 1 ∷ 2 ∷ []

abbrev pub status_widths : List ℕ
status_widths = 5 ∷ 3 ∷ 11 ∷ 1 ∷ 4 ∷ 16 ∷ end_widths

abbrev pub end_fields : Status → List ℕ
end_fields b =
    b.version ∷ b.supplementa ∷ b.nacp ∷ b.bits49 ∷ b.sil ∷ b.bit53 ∷ b.bit54 ∷ b.bits55 ∷ []

abbrev pub status_fields : Status → List ℕ
status_fields b = b.typecode ∷ b.subtype ∷ b.class ∷ b.bit20 ∷ b.width ∷ b.mode ∷ end_fields b
