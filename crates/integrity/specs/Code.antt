-- The tables as the code has them: a number for each of the 32 TYPEs, and what supplements make of some. Nobody need believe it: proofs/Rows.antt proves by one computed test that it says what the published rows say.
use Rattle.std.specs.Prelude.{ℕ, cond, ◌&&◌, ◌||◌, not, List, [], ◌∷◌, eqb, get_or}
use Rattle.integrity.specs.declared.standard.Bits.{Bits}

abbrev pub nucs : List ℕ
nucs =
    0 ∷ 0 ∷ 0 ∷ 0 ∷ 0 ∷ 9 ∷ 8 ∷ 7 ∷ 6 ∷ 9 ∷ 8 ∷ 7 ∷ 6 ∷ 5 ∷ 4 ∷ 3 ∷
    2 ∷ 1 ∷ 0 ∷ 0 ∷ 9 ∷ 8 ∷ 0 ∷ 0 ∷ 0 ∷ 0 ∷ 0 ∷ 0 ∷ 0 ∷ 0 ∷ 0 ∷ 0 ∷ []

-- .. of NIC where no supplement is 1
abbrev pub nics : List ℕ
nics =
    0 ∷ 0 ∷ 0 ∷ 0 ∷ 0 ∷ 11 ∷ 10 ∷ 8 ∷ 0 ∷ 11 ∷ 10 ∷ 8 ∷ 7 ∷ 6 ∷ 5 ∷ 4 ∷
    2 ∷ 1 ∷ 0 ∷ 0 ∷ 11 ∷ 10 ∷ 0 ∷ 0 ∷ 0 ∷ 0 ∷ 0 ∷ 0 ∷ 0 ∷ 0 ∷ 0 ∷ 0 ∷ []

unfoldable pub nic1 : ℕ → Bits → ℕ
nic1 type s =
    cond (s.a && (eqb type 7 || eqb type 11)) 9
    (cond (s.a && eqb type 16) 3
    (get_or nics type 0))

unfoldable pub nic2 : ℕ → Bits → ℕ
nic2 type s =
    cond (s.a && s.c && eqb type 8) 7
    (cond ((s.a || s.c) && eqb type 8) 6
    (cond (s.a && not s.c && eqb type 7) 9
    (cond (s.a && s.b && eqb type 11) 9
    (cond (s.a && s.b && eqb type 16) 3
    (get_or nics type 0)))))
