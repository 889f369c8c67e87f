-- RULES 16.7 and 16.8: the published tables, row by row but for TYPE 0: a TYPE, the supplements that the row names, each 0 or 1, and its number. Rows of TYPEs 8 and 13 that have one number differ in the radius, which is not handed out.
-- The rows of TYPE 0 are left out: such a message replaces the altitude and nothing else (RULES 8.7), so that the track keeps the TYPE of the position message before it, and 0 says that none was heard.
use Rattle.std.specs.Prelude.{ℕ, Bool, true, false, cond, ◌&&◌, List, [], ◌∷◌, ◌++◌, eqb, leb}
use Rattle.integrity.specs.declared.standard.Bits.{Bits}

-- which supplements a row names, and what they are there
pub data Names : Type 0 where
  always : Names
  A : (a : ℕ) → Names
  AB : (a b : ℕ) → Names
  Ac : (a c : ℕ) → Names

pub record Row : Type 0 where
  pub type : ℕ
  pub names : Names
  pub number : ℕ

abbrev pub row : ℕ → Names → ℕ → Row
row type names number = record { type = type; names = names; number = number }

-- NUC of version 0: source 001
abbrev pub nuc_rows : List Row
nuc_rows =
    row 5 always 9 ∷
    row 6 always 8 ∷
    row 7 always 7 ∷
    row 8 always 6 ∷
    row 9 always 9 ∷
    row 10 always 8 ∷
    row 11 always 7 ∷
    row 12 always 6 ∷
    row 13 always 5 ∷
    row 14 always 4 ∷
    row 15 always 3 ∷
    row 16 always 2 ∷
    row 17 always 1 ∷
    row 18 always 0 ∷
    row 20 always 9 ∷
    row 21 always 8 ∷
    row 22 always 0 ∷ []

-- NIC of version 1: DO-260A
abbrev pub nic_rows1 : List Row
nic_rows1 =
    row 5 always 11 ∷
    row 6 always 10 ∷
    row 7 (A 1) 9 ∷
    row 7 (A 0) 8 ∷
    row 8 always 0 ∷
    row 9 always 11 ∷
    row 10 always 10 ∷
    row 11 (A 1) 9 ∷
    row 11 (A 0) 8 ∷
    row 12 always 7 ∷
    row 13 (A 0) 6 ∷
    row 13 (A 1) 6 ∷
    row 14 always 5 ∷
    row 15 always 4 ∷
    row 16 (A 1) 3 ∷
    row 16 (A 0) 2 ∷
    row 17 always 1 ∷
    row 18 always 0 ∷
    row 20 always 11 ∷
    row 21 always 10 ∷
    row 22 always 0 ∷ []

-- NIC of version 2: DO-260B, source 000
abbrev pub nic_rows2 : List Row
nic_rows2 =
    row 5 always 11 ∷
    row 6 always 10 ∷
    row 7 (Ac 1 0) 9 ∷
    row 7 (Ac 0 0) 8 ∷
    row 8 (Ac 1 1) 7 ∷
    row 8 (Ac 1 0) 6 ∷
    row 8 (Ac 0 1) 6 ∷
    row 8 (Ac 0 0) 0 ∷
    row 9 always 11 ∷
    row 10 always 10 ∷
    row 11 (AB 1 1) 9 ∷
    row 11 (AB 0 0) 8 ∷
    row 12 always 7 ∷
    row 13 (AB 0 1) 6 ∷
    row 13 (AB 0 0) 6 ∷
    row 13 (AB 1 1) 6 ∷
    row 14 always 5 ∷
    row 15 always 4 ∷
    row 16 (AB 1 1) 3 ∷
    row 16 (AB 0 0) 2 ∷
    row 17 always 1 ∷
    row 18 always 0 ∷
    row 20 always 11 ∷
    row 21 always 10 ∷
    row 22 always 0 ∷ []

-- ---- how a table is read

-- a supplement is 0 or 1
abbrev pub is : Bool → ℕ → Bool
is true bit = eqb bit 1
is false bit = eqb bit 0

-- the supplements are those that a row names
abbrev pub meets : Names → Bits → Bool
meets always s = true
meets (A a) s = is s.a a
meets (AB a b) s = is s.a a && is s.b b
meets (Ac a c) s = is s.a a && is s.c c

-- the numbers of the rows of a TYPE
abbrev pub of_type : ℕ → List Row → List ℕ
of_type type [] = []
of_type type (r ∷ rs) = cond (eqb type r.type) (r.number ∷ []) [] ++ of_type type rs

-- .. and of those alone whose supplements these are
abbrev pub with_these : ℕ → Bits → List Row → List ℕ
with_these type s [] = []
with_these type s (r ∷ rs) = cond (eqb type r.type && meets r.names s) (r.number ∷ []) [] ++ with_these type s rs

-- the lowest of some numbers
abbrev pub least : ℕ → List ℕ → ℕ
least n [] = n
least n (m ∷ ms) = least (cond (leb n m) n m) ms

-- .. and what is answered where there are none
abbrev pub lowest : {X : Type 0} → (ℕ → X) → List ℕ → X → X
lowest number [] none = none
lowest number (n ∷ ns) none = number (least n ns)

-- the number of the row with these supplements; if the TYPE has rows and none is with these, the lowest of its numbers, which is the largest radius
unfoldable pub in_table : {X : Type 0} → (ℕ → X) → List Row → ℕ → Bits → X → X
in_table number rows type s none = lowest number (with_these type s rows) (lowest number (of_type type rows) none)
