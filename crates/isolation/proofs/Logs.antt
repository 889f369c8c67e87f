-- Every log of whole records is that of some calls: the call of each record has its time and its message, and the records set end to end are the log.
-- Assumes nothing.
use Prim.Native.Nat.{ℕ, zero, suc, ◌+◌, ◌*◌, ◌/◌, ◌%◌, ◌≤◌}
use native.Mathlib.Omega.{arith}
use mathlib.Core.Bool.{true}
use mathlib.Core.Path.{◌≡◌, refl, ap, ap₂, sym, ◌∙◌}
use mathlib.Core.List.{List, [], ◌∷◌, ◌++◌, append_assoc, append-nil}
use lib.Dec.{eqb}
use lib.ListN.{length, take, drop, length-append, length-drop, take-append-drop}
use lib.Seq.{take-add, take_at, drop_at, take_all, length-take-le}
use borrow.Author.Tests.{eqb-true, leb-true}
use Rattle.fields.specs.Bytes.{number, bytes_of, Bytes}
use Rattle.fields.proofs.Bools.{and_left, and_right}
use Rattle.fields.proofs.Bytes.{bytes_take, bytes_drop, bytes_number, number_lt}
use Rattle.replay.specs.Replay.{is_log, record_at}
use Rattle.isolation.specs.Runs.{Call, Rule, call}
use Rattle.isolation.specs.Logs.{record_of, log_of, left}
use Rattle.isolation.proofs.Replayed.{of_22, its_time, its_message, log_length}

-- ---- one run after another

pub log_append : (xs ys : List Call) → log_of (xs ++ ys) ≡ log_of xs ++ log_of ys
log_append [] ys = refl
log_append (c ∷ xs) ys = ap (λ (l : List ℕ). record_of c ++ l) (log_append xs ys) ∙ sym (append_assoc (record_of c) (log_of xs) (log_of ys))

pub left_append : {S : Type 0} (rule : Rule S) (s : S) (xs ys : List Call) → left rule s (xs ++ ys) ≡ left rule (left rule s xs) ys
left_append rule s [] ys = refl
left_append rule s (c ∷ xs) ys = left_append rule (call rule s c).table xs ys

-- ---- equal logs leave equal tables

pub same_log : {S : Type 0} (rule : Rule S) (s : S) (xs ys : List Call) → log_of xs ≡ log_of ys → left rule s xs ≡ left rule s ys
same_log rule s [] [] e = refl
same_log rule s [] (d ∷ ys) e = let z : ⊥ = omega (arith, ap length e, log_length (d ∷ ys)) in absurd z
same_log rule s (c ∷ xs) [] e = let z : ⊥ = omega (arith, ap length e, log_length (c ∷ xs)) in absurd z
same_log rule s (c ∷ xs) (d ∷ ys) e =
    let r : record_of c ≡ record_of d = sym (take_at (record_of c) (log_of xs) 22 (of_22 c)) ∙ ap (take 22) e ∙ take_at (record_of d) (log_of ys) 22 (of_22 d) in
    let rest : log_of xs ≡ log_of ys = sym (drop_at (record_of c) (log_of xs) 22 (of_22 c)) ∙ ap (drop 22) e ∙ drop_at (record_of d) (log_of ys) 22 (of_22 d) in
    let message : c.message ≡ d.message = sym (its_message c) ∙ ap (drop 8) r ∙ its_message d in
    let time : c.time ≡ d.time = sym (its_time c) ∙ ap (λ (x : List ℕ). number (take 8 x)) r ∙ its_time d in
    ap₂ (λ (m : List ℕ) (t : ℕ). left rule (rule s m t).table xs) message time ∙ same_log rule (call rule s d).table xs ys rest

-- ---- the calls of a log

-- where n records and one more fit, n do, and behind them one does
pub fewer : (n m : ℕ) → 22 * suc n ≤ m → 22 * n ≤ m
fewer n m l = omega arith

pub one_more : (n m : ℕ) → 22 * suc n ≤ m → 22 * n + 22 ≤ m
one_more n m l = omega arith

module _ (log : List ℕ) (h : Bytes log) where
  pub record_length : (i : ℕ) → 22 * i + 22 ≤ length log → length (record_at log i) ≡ 22
  record_length i l = length-take-le 22 (drop (22 * i) log) (omega (arith, length-drop (22 * i) log))

  pub record_bytes : (i : ℕ) → Bytes (record_at log i)
  record_bytes i = bytes_take 22 (drop (22 * i) log) (bytes_drop (22 * i) log h)

  pub time_length : (i : ℕ) → 22 * i + 22 ≤ length log → length (take 8 (record_at log i)) ≡ 8
  time_length i l = length-take-le 8 (record_at log i) (omega (arith, record_length i l))

  unfoldable pub call_at : (i : ℕ) → 22 * i + 22 ≤ length log → Call
  call_at i l =
      record {
        message = drop 8 (record_at log i);
        bytes = bytes_drop 8 (record_at log i) (record_bytes i);
        whole = omega (arith, length-drop 8 (record_at log i), record_length i l);
        time = number (take 8 (record_at log i));
        fits = number_lt (take 8 (record_at log i)) 8 (bytes_take 8 (record_at log i) (record_bytes i)) (time_length i l);
      }

  record_of_lem : (i : ℕ) (l : 22 * i + 22 ≤ length log) → record_of (call_at i l) ≡ record_at log i
  unfolding call_at
  record_of_lem i l =
      let r : List ℕ = record_at log i in
      ap (λ (k : ℕ). bytes_of k (number (take 8 r)) ++ drop 8 r) (sym (time_length i l))
      ∙ ap (λ (x : List ℕ). x ++ drop 8 r) (bytes_number (take 8 r) (bytes_take 8 r (record_bytes i)))
      ∙ take-append-drop 8 r

  -- of its first n records
  unfoldable pub calls_in : (n : ℕ) → 22 * n ≤ length log → List Call
  calls_in zero l = []
  calls_in (suc n) l = calls_in n (fewer n (length log) l) ++ call_at n (one_more n (length log) l) ∷ []

  pub calls_log : (n : ℕ) (l : 22 * n ≤ length log) → log_of (calls_in n l) ≡ take (22 * n) log
  unfolding calls_in
  calls_log zero l = refl
  calls_log (suc n) l =
      let before : 22 * n ≤ length log = fewer n (length log) l in
      let there : 22 * n + 22 ≤ length log = one_more n (length log) l in
      let more : 22 * n + 22 ≡ 22 * suc n = omega arith in
      log_append (calls_in n before) (call_at n there ∷ [])
      ∙ ap₂ (λ (x y : List ℕ). x ++ y) (calls_log n before) (append-nil (record_of (call_at n there)) ∙ record_of_lem n there)
      ∙ sym (take-add (22 * n) 22 log)
      ∙ ap (λ (k : ℕ). take k log) more

  pub calls_length : (n : ℕ) (l : 22 * n ≤ length log) → length (calls_in n l) ≡ n
  unfolding calls_in
  calls_length zero l = refl
  calls_length (suc n) l =
      let before : 22 * n ≤ length log = fewer n (length log) l in
      length-append (calls_in n before) (call_at n (one_more n (length log) l) ∷ []) ∙ omega (arith, calls_length n before)

-- so what is proved of runs is proved of every log
pub every_log : (log : List ℕ) → Bytes log → is_log (length log) ≡ true → (cs : List Call) × ((log_of cs ≡ log) × (length cs ≤ 2900))
every_log log h w =
    let n : ℕ = length log / 22 in
    let no_rest : length log % 22 ≡ 0 = eqb-true (length log % 22) 0 (and_left _ _ w) in
    let few : n ≤ 2900 = leb-true n 2900 (and_right (eqb (length log % 22) 0) _ w) in
    let all : length log ≤ 22 * n = omega arith in
    let l : 22 * n ≤ length log = omega arith in (
      calls_in log h n l,
      (calls_log log h n l ∙ take_all (22 * n) log all, omega (arith, calls_length log h n l, few)),
    )
