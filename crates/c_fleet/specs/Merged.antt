-- RULES 18.8: the listings of a fleet, merged by C one after the other: byte for byte the listing of a single table with a place for every key.
use Rattle.std.specs.Prelude.{ℕ, suc, ◌+◌, ◌^◌, ◌<◌, ◌≡◌, List, [], ◌∷◌, length, take, Option}
use contract.Lifetimes.{Lfts}
use denote.Triple.Clauses.{AtExit}
use borrow.Fn.Kinds.{Dens, ended_of}
use Rattle.isolation.specs.Runs.{Call}
use Rattle.dealer.specs.Joint.{Joint}
use Rattle.dealer.proofs.joint.addercoil_merge.Kinds as merge-kinds
use Rattle.dealer.proofs.joint.addercoil_merge.Reads as merge
use Rattle.fleet.specs.Room.{Among}
use Rattle.fleet.specs.Together.{listed, sum_of}
use Rattle.c_promises.specs.Runs.{Site}
use Rattle.c_promises.specs.Logs.{left_of}
use Rattle.c_listings.specs.Prints.{Prints}
use Rattle.c_fleet.specs.Roomy.{TableOf}
use Rattle.c_fleet.specs.Listings.{clock_of_all, rows_of_all}

-- addercoil_merge(a, .., b, .., out, .., written, ..)
pub record Merge (a b out written : List ℕ) (back : Joint) : Type 0 where
  pub κs : Lfts 4
  pub args : Dens κs merge-kinds.ps
  pub left : AtExit (ended_of 4 merge-kinds.ps merge-kinds.r) κs
  pub first : args.0.now ≡ a
  pub second : args.1.0.now ≡ b
  pub into : args.1.1.0.now ≡ out
  pub long_in : args.1.1.1.0.now ≡ written
  pub leaves : left.1.1.0.now ≡ back.out
  pub leaves_written : left.1.1.1.0.now ≡ back.written
  pub meets : merge.Post κs args back.number left

-- the first n of some texts, merged one after the other: each call returned 0, and its text is as many bytes of the buffer as it wrote
pub data Merged (texts : ℕ → List ℕ) : ℕ → List ℕ → Type 0 where
  first : Merged texts 1 (texts 0)
  next : {n m : ℕ} {text out written : List ℕ} {back : Joint} → Merged texts n text → Merge text (texts n) out written back → back.number ≡ 0 → back.written ≡ m ∷ []
      → Merged texts (suc n) (take m back.out)

-- a fleet of n tables, to which all keys go, and the text that is printed of each. Each has its own number of bad blocks, and their sum has 64 bits
pub record Printed (which : ℕ → ℕ) (n : ℕ) (site : Option Site) (stream : List Call) (keys : List ℕ) (all : ℕ) (bad : ℕ → ℕ) (texts : ℕ → List ℕ) : Type 0 where
  pub inside : (key : ℕ) → which key < n
  pub among : Among keys stream
  pub tables : (i : ℕ) → i < n → TableOf which i site stream keys
  pub printed : (i : ℕ) (h : i < n) → Prints (left_of (tables i h).run) (bad i) all (texts i)
  pub few : sum_of n bad < 2 ^ 64

abbrev pub MergedIsOne : Type 0
MergedIsOne =
    (which : ℕ → ℕ) (n : ℕ) (site : Option Site) (stream : List Call) (keys : List ℕ) (all : ℕ) (bad : ℕ → ℕ) (texts : ℕ → List ℕ) → Printed which n site stream keys all bad texts
    → (text : List ℕ) → Merged texts n text → text ≡ listed (clock_of_all site keys stream) (rows_of_all site keys stream all) (sum_of n bad)

-- no call on the way is refused, if its arrays have their lengths
abbrev pub NoneRefused : Type 0
NoneRefused =
    (which : ℕ → ℕ) (n : ℕ) (site : Option Site) (stream : List Call) (keys : List ℕ) (all : ℕ) (bad : ℕ → ℕ) (texts : ℕ → List ℕ) → Printed which n site stream keys all bad texts
    → (k : ℕ) → k < n → (text out written : List ℕ) (back : Joint) → Merged texts k text → length out ≡ length text + length (texts k) → length written ≡ 1
    → Merge text (texts k) out written back → back.number ≡ 0
