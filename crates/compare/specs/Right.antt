-- RULES 14.4 and 14.6: when the answer is yes, and which line is at fault. It is yes exactly when the first line is right, the lines are our keys in our order each once, every latitude and longitude is within one unit of
-- ours, around the circle for longitude, or "-" in both, and every other column is equal.
use Rattle.std.specs.Prelude.{ℕ, ◌+◌, ◌≤◌, ◌≡◌, true, List, [], ◌∷◌, ◌++◌, take, drop}
use Rattle.refusals.specs.Numbers.{most_records}
use Rattle.text.specs.declared.Row.{Row}
use Rattle.text.specs.Lines.{newline}
use Rattle.form.specs.Form.{in_form}
use Rattle.agree.specs.Near.{Agrees}
use Rattle.compare.specs.Compared.{our_header, our_rows, lines_of, records_of}

-- as many lines as rows, and each agrees with its own
pub data AllAgree : List (List ℕ) → List Row → Type 0 where
  both_none : AllAgree [] []
  both_one : {l : List ℕ} {ls : List (List ℕ)} {r : Row} {rs : List Row} → Agrees (l ++ newline) r → AllAgree ls rs → AllAgree (l ∷ ls) (r ∷ rs)

-- what earns yes
pub record Right (c l : List ℕ) : Type 0 where
  pub few : records_of c ≤ most_records
  pub form : in_form l ≡ true
  pub first : List ℕ
  pub others : List (List ℕ)
  pub lines : lines_of l ≡ first ∷ others
  pub header : first ++ newline ≡ our_header c
  pub rows : AllAgree others (our_rows c)

-- the first of some lines breaks it: it does not agree with our first row, or is missing, or is surplus
pub data Broken : List (List ℕ) → List Row → Type 0 where
  other_line : {l : List ℕ} {ls : List (List ℕ)} {r : Row} {rs : List Row} → (Agrees (l ++ newline) r → ⊥) → Broken (l ∷ ls) (r ∷ rs)
  missing_line : {r : Row} {rs : List Row} → Broken [] (r ∷ rs)
  surplus_line : {l : List ℕ} {ls : List (List ℕ)} → Broken (l ∷ ls) []

-- of lines from number n on, those before m agree, and m breaks it
pub record First (n m : ℕ) (ls : List (List ℕ)) (rs : List Row) : Type 0 where
  pub passed : ℕ
  pub number : m ≡ n + passed
  pub before : AllAgree (take passed ls) (take passed rs)
  pub here : Broken (drop passed ls) (drop passed rs)

-- the line of a number is the first at fault
pub data Faulty (c l : List ℕ) : ℕ → Type 0 where
  header_faulty : {h : List ℕ} {ls : List (List ℕ)} → lines_of l ≡ h ∷ ls → (h ++ newline ≡ our_header c → ⊥) → Faulty c l 1
  row_faulty : {h : List ℕ} {ls : List (List ℕ)} {n : ℕ} → lines_of l ≡ h ∷ ls → h ++ newline ≡ our_header c → First 2 n ls (our_rows c) → Faulty c l n
