-- What the contracts promise in the rules' terms: whatever meets one says 8 where the code is wider than its bits, and else what RULES 5.3 gives. The definitions of
-- specs/Said carry each case of the answer over; eight bytes that were put together come apart again.
-- Assumes nothing.
use Rattle.std.specs.Prelude.{Ok}
use Prim.Native.Nat.{ℕ, ◌<◌}
use mathlib.Core.Path.{◌≡◌, refl, ap, ◌∙◌}
use mathlib.Core.Bool.{cond, ◌&&◌}
use native.Mathlib.Omega.{arith}
use borrow.Author.Tests.{leb-true}
use lib.Dec.{leb, eqb}
use contract.Lifetimes.{Lfts}
use denote.Triple.Clauses.{AtExit}
use borrow.Fn.Kinds.{Dens, res_t, ended_of}
use Rattle.refusals.specs.Said.{number, gives}
use Rattle.fields.specs.Packing.{wider}
use Rattle.fields.specs.Bytes.{Bytes}
use Rattle.fields.proofs.Bools.{and_right, by_test, through}
use Rattle.fields.proofs.Bytes.{fit_bytes, bytes_number}
use Rattle.characters.specs.Text.{shown, eight_shown, category_set_of, character_of, text_of, set_at, text_at}
use Rattle.characters.specs.Said.{category_set_said, character_said, text_said, set_means, text_means}
use Rattle.characters.proofs.category_set_of.Kinds as category-set-of-kinds
use Rattle.characters.proofs.category_set_of.Reads as category-set-of
use Rattle.characters.proofs.character_of.Kinds as character-of-kinds
use Rattle.characters.proofs.character_of.Reads as character-of
use Rattle.characters.proofs.set_at.Kinds as set-at-kinds
use Rattle.characters.proofs.set_at.Reads as set-at
use Rattle.characters.proofs.text_at.Kinds as text-at-kinds
use Rattle.characters.proofs.text_at.Reads as text-at
use Rattle.characters.proofs.text_of.Kinds as text-of-kinds
use Rattle.characters.proofs.text_of.Reads as text_of

-- ---- the definitions say so

pub set_at_says : (type : ℕ) → category_set_said (Ok (set_at type)) ≡ gives (set_means type)
unfolding set_at
set_at_says type =
    through (λ s. category_set_said (Ok s)) gives (eqb type 4) refl
    (through (λ s. category_set_said (Ok s)) gives (eqb type 3) refl
    (through (λ s. category_set_said (Ok s)) gives (eqb type 2) refl
    (through (λ s. category_set_said (Ok s)) gives (eqb type 1) refl refl)))

pub set_says : (type : ℕ) → category_set_said (category_set_of type) ≡ cond (wider 5 type) (number 8) (gives (set_means type))
unfolding category_set_of
set_says type = through category_set_said (λ s. s) (wider 5 type) refl (set_at_says type)

pub character_says : (code : ℕ) → character_said (character_of code) ≡ cond (wider 6 code) (number 8) (gives (shown code))
unfolding character_of
character_says code = through character_said (λ s. s) (wider 6 code) refl refl

-- what shows is a byte
shown_lt : (code : ℕ) → shown code < 256
unfolding shown
shown_lt code =
    by_test (λ n. n < 256) (leb 1 code && leb code 26) _ _ (λ e. omega (arith, leb-true code 26 (and_right (leb 1 code) (leb code 26) e)))
    (λ _. by_test (λ n. n < 256) (eqb code 32) _ _ (λ _. omega arith)
    (λ _. by_test (λ n. n < 256) (leb 48 code && leb code 57) _ _ (λ e. omega (arith, leb-true code 57 (and_right (leb 48 code) (leb code 57) e)))
    (λ _. omega arith)))

eight_bytes : (n : ℕ) → Bytes (eight_shown n)
eight_bytes n = fit_bytes 8 (eight_shown n) (shown_lt _, (shown_lt _, (shown_lt _, (shown_lt _, (shown_lt _, (shown_lt _, (shown_lt _, (shown_lt _, tt))))))))

pub text_at_says : (n : ℕ) → text_said (Ok (text_at n)) ≡ gives (text_means n)
unfolding text_at
text_at_says n = ap gives (bytes_number (eight_shown n) (eight_bytes n))

pub text_says : (n : ℕ) → text_said (text_of n) ≡ cond (wider 48 n) (number 8) (gives (text_means n))
unfolding text_of
text_says n = through text_said (λ s. s) (wider 48 n) refl (text_at_says n)

-- ---- and so does whatever meets a contract

pub category_set_of_promised : (κs : Lfts 0) (args : Dens κs category-set-of-kinds.ps) (x : (res_t category-set-of-kinds.r κs).Denot)
    (left : AtExit (ended_of 0 category-set-of-kinds.ps category-set-of-kinds.r) κs) → category-set-of.Post κs args x left
    → category_set_said x ≡ cond (wider 5 args.0) (number 8) (gives (set_means args.0))
category_set_of_promised κs args x left p = ap category_set_said p ∙ set_says args.0

pub character_of_promised : (κs : Lfts 0) (args : Dens κs character-of-kinds.ps) (x : (res_t character-of-kinds.r κs).Denot)
    (left : AtExit (ended_of 0 character-of-kinds.ps character-of-kinds.r) κs) → character-of.Post κs args x left
    → character_said x ≡ cond (wider 6 args.0) (number 8) (gives (shown args.0))
character_of_promised κs args x left p = ap character_said p ∙ character_says args.0

pub text_of_promised : (κs : Lfts 0) (args : Dens κs text-of-kinds.ps) (x : (res_t text-of-kinds.r κs).Denot)
    (left : AtExit (ended_of 0 text-of-kinds.ps text-of-kinds.r) κs) → text_of.Post κs args x left
    → text_said x ≡ cond (wider 48 args.0) (number 8) (gives (text_means args.0))
text_of_promised κs args x left p = ap text_said p ∙ text_says args.0

pub set_at_promised : (κs : Lfts 0) (args : Dens κs set-at-kinds.ps) (x : (res_t set-at-kinds.r κs).Denot)
    (left : AtExit (ended_of 0 set-at-kinds.ps set-at-kinds.r) κs) → set-at.Post κs args x left
    → category_set_said (Ok x) ≡ gives (set_means args.0)
set_at_promised κs args x left p = ap (λ s. category_set_said (Ok s)) p ∙ set_at_says args.0

pub text_at_promised : (κs : Lfts 0) (args : Dens κs text-at-kinds.ps) (x : (res_t text-at-kinds.r κs).Denot)
    (left : AtExit (ended_of 0 text-at-kinds.ps text-at-kinds.r) κs) → text-at.Post κs args x left
    → text_said (Ok x) ≡ gives (text_means args.0)
text_at_promised κs args x left p = ap (λ s. text_said (Ok s)) p ∙ text_at_says args.0
