-- Both forms of the table: demand 3 of each, and of a run in the one beside a run in the other; and that both answer every call alike, from one set-up on. Each is the law of any two forms, at the bytes and at the slice.
-- Assumes nothing.
use Rattle.std.specs.Prelude.{Result, Ok, ⊤}
use Prim.Native.Nat.{ℕ, ◌^◌, ◌≤◌, ◌<◌}
use mathlib.Core.Bool.{Bool, true, false, cond}
use mathlib.Core.Path.{◌≡◌, refl, sym, ap, ◌∙◌, subst}
use mathlib.Core.List.{List}
use lib.Dec.{leb}
use lib.ListN.{length, length-replicate}
use borrow.Author.Tests.{leb-true}
use Rattle.fields.proofs.Bools.{each}
use Rattle.whereabouts.specs.declared.Site.{Site}
use Rattle.rules.specs.Form.{East}
use Rattle.rules.specs.Rules as rules
use Rattle.rules.specs.Agreement.{Agree, Alike, AlikeSet, Call, AlikeRuns}
use Rattle.rules.proofs.Agreed as any
use Rattle.memory.proofs.Counts.{count_whole, count_of}
use Rattle.memory.specs.Offsets.{most_places, table_size, whole_places, places_in}
use Rattle.slice_places.specs.declared.Place.{Place}
use Rattle.slice_places.specs.declared.Head.{Head}
use Rattle.slice_places.specs.Head.{places_fit}
use Rattle.table.specs.Bytes.{bytes}
use Rattle.table.specs.Table as table
use Rattle.table.proofs.Lawful.{bytes_lawful}
use Rattle.slice_table.specs.Slice.{slice_of, slice}
use Rattle.slice_table.specs.Tracks as tracks
use Rattle.slice_table.proofs.Lawful.{slice_lawful}
use Rattle.isolation.specs.Runs.{Isolation}
use Rattle.isolation.specs.Twin.{twin_of, begun}
use Rattle.isolation.proofs.Isolated.{isolation}
use Rattle.refusals.specs.declared.Refusal.{Refusal}

-- ---- demand 3

pub bytes_isolated : Isolation bytes bytes (rules.received bytes) (rules.received bytes)
bytes_isolated = isolation bytes bytes bytes_lawful bytes_lawful

pub slice_isolated : Isolation slice slice (rules.received slice) (rules.received slice)
slice_isolated = isolation slice slice slice_lawful slice_lawful

pub isolated_across : Isolation bytes slice (rules.received bytes) (rules.received slice)
isolated_across = isolation bytes slice bytes_lawful slice_lawful

-- ---- one call in both forms, where what they hold agrees

module _ (s : List ℕ) (head : Head) (ps : List Place) (a : Agree bytes slice s (slice_of head ps)) where
  pub received_agrees : (message : List ℕ) (time : ℕ) → time < 2 ^ 64 → Alike bytes slice (table.received s message time) (tracks.received ps head message time)
  received_agrees = any.received_agrees bytes slice bytes_lawful slice_lawful s (slice_of head ps) a

  pub looked_up_agrees : (key : ℕ) → table.looked_up s key ≡ tracks.looked_up ps head key
  looked_up_agrees = any.looked_up_agrees bytes slice bytes_lawful slice_lawful s (slice_of head ps) a

  pub next_agrees : (above : ℕ) → table.next_above s above ≡ tracks.next_above ps head above
  next_agrees = any.next_agrees bytes slice bytes_lawful slice_lawful s (slice_of head ps) a

-- ---- set-ups

begun_by : (site : Site) (s : List ℕ) (k : Bool) → site.known ≡ k → rules.set_up bytes s site ≡ cond k (table.set_up_at s site.spot) (table.set_up s)
unfolding rules.set_up
begun_by site s true e = rw e
begun_by site s false e = rw e

begun_is : (site : Site) (s : List ℕ) → rules.set_up bytes s site ≡ begun site s
begun_is site s = begun_by site s site.known refl

-- of as many places, whatever they held
pub set_up_agrees : (s : List ℕ) (head : Head) (ps : List Place) (site : Site) → East site → whole_places (length s) ≡ places_fit (length ps) → places_in s ≡ length ps
    → AlikeSet bytes slice (begun site s) (tracks.set_up ps head site)
set_up_agrees s head ps site east size count =
    subst (λ (b : table.After (Result ⊤ Refusal)). AlikeSet bytes slice b (tracks.set_up ps head site)) (begun_is site s)
    (any.set_up_agrees bytes slice bytes_lawful slice_lawful s (slice_of head ps) site east size count)

-- ---- a table in bytes of as many places, and all calls after the set-ups of both

module _ (head : Head) (ps : List Place) (f : places_fit (length ps) ≡ true) where
  fitting : (1 ≤ length ps) × (length ps ≤ most_places)
  unfolding places_fit
  fitting = let e = each (leb 1 (length ps)) (leb (length ps) most_places) f in (leb-true 1 (length ps) e.0, leb-true (length ps) most_places e.1)

  long : length (twin_of ps) ≡ table_size (length ps)
  long = length-replicate (table_size (length ps)) 0

  twin_size : whole_places (length (twin_of ps)) ≡ places_fit (length ps)
  twin_size = ap whole_places long ∙ count_whole (length ps) fitting.0 fitting.1 ∙ sym f

  twin_count : places_in (twin_of ps) ≡ length ps
  twin_count = count_of (length ps) (twin_of ps) long

  pub set_up_runs : (site : Site) → East site → (tracks.set_up ps head site).answer ≡ Ok tt → (cs : List Call) → AlikeRuns bytes slice (begun site (twin_of ps)).table (tracks.set_up ps head site).table cs
  set_up_runs site east d cs = any.runs_agree bytes slice bytes_lawful slice_lawful _ _ ((set_up_agrees (twin_of ps) head ps site east twin_size twin_count).left d) cs
