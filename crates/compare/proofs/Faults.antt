-- Yes exactly if the lines are as many as our rows and each agrees; the line named is the first that breaks it; our own lines get yes. By induction over the lines.
-- Assumes nothing.
use Rattle.std.specs.Prelude.{Some, None, Ok, Err, Option, Result}
use Prim.Native.Nat.{ℕ, suc}
use native.Mathlib.Omega.{arith}
use mathlib.Core.Path.{◌≡◌, refl, sym, ap, ◌∙◌}
use mathlib.Core.Bool.{Bool, true, false, cond}
use mathlib.Core.List.{List, [], ◌∷◌, ◌++◌}
use Rattle.text.specs.declared.Row.{Row}
use Rattle.text.specs.Lines.{newline, header_text}
use Rattle.report.specs.Listing.{texts}
use Rattle.form.specs.Form.{pieces, same, lines_in}
use Rattle.form.proofs.Pieces.{pieces_cut, same_self}
use Rattle.form.proofs.OwnLines.{row_line, row_text_lem, row_over, row_cut, header_line, header_text_lem, header_over, header_cut}
use Rattle.refusals.specs.declared.Refusal.{Refusal}
use Rattle.agree.specs.Near.{agrees_of}
use Rattle.agree.proofs.Means.{agrees_means, own_agrees}
use Rattle.compare.specs.Compared.{compared, against}
use Rattle.compare.specs.Right.{AllAgree, both_none, both_one, Broken, other_line, missing_line, surplus_line, First}
use Rattle.compare.proofs.Rows.{AllOurs, none_ours, one_ours}

pub not_yes : {n : ℕ} → ◌≡◌ {A = Result (Option ℕ) Refusal} (Ok (Some n)) (Ok None) → ⊥
not_yes e = let z : ◌≡◌ {A = ℕ} 0 1 = cc in omega arith

same_fault : {m n : ℕ} → ◌≡◌ {A = Result (Option ℕ) Refusal} (Ok (Some m)) (Ok (Some n)) → m ≡ n
same_fault e = cc

differs_not : {t : Bool} → t ≡ true → t ≡ false → ⊥
differs_not p q = let z : ◌≡◌ {A = ℕ} 0 1 = cc in omega arith

-- ---- yes exactly

pub yes_agree : (n : ℕ) (ls : List (List ℕ)) {rs : List Row} → AllOurs rs → compared n ls rs ≡ Ok None → AllAgree ls rs
unfolding compared
yes_agree n [] none_ours e = both_none
yes_agree n (l ∷ ls) none_ours e = absurd (not_yes e)
yes_agree n [] (one_ours p ps) e = absurd (not_yes e)
yes_agree n (l ∷ ls) (one_ours {r = r} {rs = rs} p ps) e = by_test (agrees_of (l ++ newline) r) refl e (yes_agree (suc n) ls ps)
  where
    by_test : (t : Bool) → agrees_of (l ++ newline) r ≡ t → cond t (compared (suc n) ls rs) (Ok (Some n)) ≡ Ok None → (compared (suc n) ls rs ≡ Ok None → AllAgree ls rs) → AllAgree (l ∷ ls) (r ∷ rs)
    by_test true a f rest = both_one ((agrees_means (l ++ newline) r p.1).0 a) (rest f)
    by_test false a f rest = absurd (not_yes f)

pub agree_yes : (n : ℕ) {ls : List (List ℕ)} {rs : List Row} → AllOurs rs → AllAgree ls rs → compared n ls rs ≡ Ok None
unfolding compared
agree_yes n none_ours both_none = refl
agree_yes n (one_ours p ps) (both_one {l = l} {ls = ls} {r = r} {rs = rs} a more) =
    ap (λ (t : Bool). cond t (compared (suc n) ls rs) (Ok (Some n))) ((agrees_means (l ++ newline) r p.1).1 a) ∙ agree_yes (suc n) ps more

-- ---- the line named is the first

none_passed : (n m : ℕ) {ls : List (List ℕ)} {rs : List Row} → ◌≡◌ {A = Result (Option ℕ) Refusal} (Ok (Some n)) (Ok (Some m)) → Broken ls rs → First n m ls rs
none_passed n m e b = record { passed = 0; number = (let q : n ≡ m = same_fault e in omega arith); before = both_none; here = b }

pub first_fault : (n m : ℕ) (ls : List (List ℕ)) {rs : List Row} → AllOurs rs → compared n ls rs ≡ Ok (Some m) → First n m ls rs
unfolding compared
first_fault n m [] none_ours e = absurd (not_yes (sym e))
first_fault n m [] (one_ours p ps) e = none_passed n m e missing_line
first_fault n m (l ∷ ls) none_ours e = none_passed n m e surplus_line
first_fault n m (l ∷ ls) (one_ours {r = r} {rs = rs} p ps) e = by_test (agrees_of (l ++ newline) r) refl e (first_fault (suc n) m ls ps)
  where
    by_test : (t : Bool) → agrees_of (l ++ newline) r ≡ t → cond t (compared (suc n) ls rs) (Ok (Some n)) ≡ Ok (Some m) → (compared (suc n) ls rs ≡ Ok (Some m) → First (suc n) m ls rs) → First n m (l ∷ ls) (r ∷ rs)
    by_test true a f rest =
        let q = rest f in
        record { passed = suc q.passed; number = omega (arith, q.number); before = both_one ((agrees_means (l ++ newline) r p.1).0 a) q.before; here = q.here }
    by_test false a f rest = none_passed n m f (other_line (λ g. differs_not ((agrees_means (l ++ newline) r p.1).1 g) a))

-- no comparison refuses
pub never_refused : {A : Type 0} (n : ℕ) (ls : List (List ℕ)) (rs : List Row) {r : _} → compared n ls rs ≡ Err r → A
unfolding compared
never_refused n [] [] e = let z : ◌≡◌ {A = ℕ} 0 1 = cc in absurd (omega arith)
never_refused n [] (r ∷ rs) e = let z : ◌≡◌ {A = ℕ} 0 1 = cc in absurd (omega arith)
never_refused n (l ∷ ls) [] e = let z : ◌≡◌ {A = ℕ} 0 1 = cc in absurd (omega arith)
never_refused n (l ∷ ls) (r ∷ rs) e = by_test (agrees_of (l ++ newline) r) e (never_refused (suc n) ls rs)
  where
    by_test : {A : Type 0} {x : _} (t : Bool) → cond t (compared (suc n) ls rs) (Ok (Some n)) ≡ Err x → (compared (suc n) ls rs ≡ Err x → A) → A
    by_test true f rest = rest f
    by_test false f rest = let z : ◌≡◌ {A = ℕ} 0 1 = cc in absurd (omega arith)

-- ---- our own

unfoldable pub own_lines : List Row → List (List ℕ)
own_lines [] = []
own_lines (r ∷ rs) = row_line r ∷ own_lines rs

own_compared : (n : ℕ) (rs : List Row) → compared n (own_lines rs) rs ≡ Ok None
unfolding compared own_lines
own_compared n [] = refl
own_compared n (r ∷ rs) =
    ap (λ (t : Bool). cond t (compared (suc n) (own_lines rs) rs) (Ok (Some n))) (ap (λ (x : List ℕ). agrees_of x r) (sym (row_text_lem r)) ∙ own_agrees r) ∙ own_compared (suc n) rs

own_pieces : (rs : List Row) → pieces 10 (texts rs) ≡ own_lines rs ++ ([] ∷ [])
unfolding texts own_lines pieces
own_pieces [] = refl
own_pieces (r ∷ rs) = ap (pieces 10) (row_cut r (texts rs)) ∙ pieces_cut 10 (row_line r) (texts rs) (row_over r) ∙ ap (λ (x : List (List ℕ)). row_line r ∷ x) (own_pieces rs)

lines_of : (ls : List (List ℕ)) → lines_in (ls ++ ([] ∷ [])) ≡ ls
unfolding lines_in
lines_of [] = refl
lines_of (l ∷ []) = refl
lines_of (l ∷ m ∷ ms) = ap (λ (x : List (List ℕ)). l ∷ x) (lines_of (m ∷ ms))

-- the lines of our own text
pub own_lines_lem : (clock tracks bad : ℕ) (rs : List Row) → lines_in (pieces 10 (header_text clock tracks bad ++ texts rs)) ≡ header_line clock tracks bad ∷ own_lines rs
own_lines_lem clock tracks bad rs =
    ap lines_in
    (ap (pieces 10) (header_cut clock tracks bad (texts rs))
    ∙ pieces_cut 10 (header_line clock tracks bad) (texts rs) (header_over clock tracks bad)
    ∙ ap (λ (x : List (List ℕ)). header_line clock tracks bad ∷ x) (own_pieces rs))
    ∙ lines_of (header_line clock tracks bad ∷ own_lines rs)

-- our own text gets yes
pub own_yes : (clock tracks bad : ℕ) (rs : List Row) → against (lines_in (pieces 10 (header_text clock tracks bad ++ texts rs))) (header_text clock tracks bad) rs ≡ Ok None
unfolding against
own_yes clock tracks bad rs =
    ap (λ (x : List (List ℕ)). against x (header_text clock tracks bad) rs) (own_lines_lem clock tracks bad rs)
    ∙ ap (λ (t : Bool). cond t (compared 2 (own_lines rs) rs) (Ok (Some 1))) (ap (λ (x : List ℕ). same x (header_text clock tracks bad)) (sym (header_text_lem clock tracks bad)) ∙ same_self (header_text clock tracks bad))
    ∙ own_compared 2 rs
