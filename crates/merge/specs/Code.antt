-- What private functions promise to each other: a field's end, a text's head, and the next line of two texts. No public contract cites this file.
use Rattle.std.specs.Prelude.{ℕ, ◌+◌, ◌≤◌, ◌<◌, true, false, ◌≡◌, List, [], ◌∷◌, ◌++◌, ◌⊎◌, length, drop}
use Rattle.text.specs.Lines.{newline}
use Rattle.form.specs.Scan.{part, lines_from}
use Rattle.merge.specs.declared.head.Field.{Field}
use Rattle.merge.specs.declared.head.Head.{Head}
use Rattle.merge.specs.declared.lines.Next.{Next}
use Rattle.merge.specs.Merged.{number_from, behind, clock_in, bad_in, key_in, header_of, tracks_of, is_listing, in_order}

-- the field from a place on, behind a label of so many bytes
pub record FieldAt (s : List ℕ) (from label : ℕ) (r : Field) : Type 0 where
  pub value : r.value ≡ number_from 0 (drop label (drop from s))
  pub rest : drop r.end s ≡ behind (drop label (drop from s))
  pub high : r.end ≤ length s

-- what a text's header says, and where the other lines begin
pub record HeadOf (s : List ℕ) (r : Head) : Type 0 where
  pub right : r.right ≡ is_listing s
  pub high : r.end ≤ length s
  pub lines : lines_from s r.end ≡ tracks_of s
  pub header : length (header_of s) ≡ r.end
  pub clock : r.clock ≡ clock_in (header_of s)
  pub tracks : r.tracks ≡ length (tracks_of s)
  pub few : r.tracks ≤ length s
  pub bad : r.bad ≡ bad_in (header_of s)

-- the next of the lines of two texts from places on: it comes from one of them, and the other keeps its place
pub record TakesLine (a : List ℕ) (i : ℕ) (b : List ℕ) (j : ℕ) (r : Next) : Type 0 where
  pub line : List ℕ
  pub first : in_order (lines_from a i) (lines_from b j) ≡ line ∷ in_order (lines_from a r.i) (lines_from b r.j)
  pub text : line ++ newline ≡ part i r.i a ++ part j r.j b
  pub key : r.key ≡ key_in line
  pub low_i : i ≤ r.i
  pub low_j : j ≤ r.j
  pub more : i + j < r.i + r.j
  pub high_i : r.i ≤ length a
  pub high_j : r.j ≤ length b

abbrev pub NextOf : List ℕ → ℕ → List ℕ → ℕ → Next → Type 0
NextOf a i b j r = ((r.more ≡ false) × (in_order (lines_from a i) (lines_from b j) ≡ [])) ⊎ ((r.more ≡ true) × TakesLine a i b j r)
