-- RULES 12.1: what C prints of a table: the text of addercoil_listing; or that of addercoil_header, and then that of addercoil_line for each key that addercoil_next gives.
use Rattle.std.specs.Prelude.{ℕ, zero, suc, ◌≡◌, List, [], ◌∷◌, ◌++◌, take}
use Rattle.entries.specs.Sent.{Sent, sent}
use Rattle.display.specs.Handed.{Handed}
use Rattle.c_listings.specs.Calls.{Header, Line, Listing, Next}

-- the text in a buffer: what stands before its first zero
abbrev pub text_of : List ℕ → List ℕ
text_of [] = []
text_of (zero ∷ buffer) = []
text_of (suc b ∷ buffer) = suc b ∷ text_of buffer

-- the lines of the keys above a given one: addercoil_next gives 0 at their end
pub data Lines (table : List ℕ) (all : ℕ) : ℕ → List ℕ → Type 0 where
  last : {above : ℕ} {out : List ℕ} → Next table above out (sent 0 (0 ∷ [])) → Lines table all above []
  line : {above key : ℕ} {out buffer text : List ℕ} {back : Sent}
      → Next table above out (sent 0 (key ∷ [])) → (key ≡ 0 → ⊥) → Line table key all buffer back → back.number ≡ 0 → Lines table all key text
      → Lines table all above (text_of back.array ++ text)

-- the header, with a number of bad blocks, and all lines, at once or one by one: those of all tracks if all is 1, and those with a position if it is 0
pub data Prints (table : List ℕ) (bad all : ℕ) : List ℕ → Type 0 where
  prints : {buffer text : List ℕ} {back : Sent} → Header table bad all buffer back → back.number ≡ 0 → Lines table all 0 text → Prints table bad all (text_of back.array ++ text)
  at_once : {order out written : List ℕ} {n : ℕ} {back : Handed} → Listing table bad all order out written back → back.number ≡ 0 → back.written ≡ n ∷ [] → Prints table bad all (take n back.out)
