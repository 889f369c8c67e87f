-- What the contract of `replay` promises in the rules' terms: whatever meets it says 14 or 8 exactly when they are due, or the track, held or absent. By the tests.
-- Assumes nothing.
use Rattle.std.specs.Prelude.{Option, Some, None, Err, Ok}
use Prim.Native.Nat.{ℕ, ◌/◌}
use mathlib.Core.Path.{◌≡◌, refl, ap, ◌∙◌}
use mathlib.Core.Bool.{Bool, true, false, cond}
use mathlib.Core.List.{List}
use lib.ListN.{length}
use contract.Lifetimes.{Lfts}
use denote.Triple.Clauses.{AtExit}
use borrow.Fn.Kinds.{Dens, res_t, ended_of}
use Rattle.refusals.specs.declared.Refusal.TheVariants.{Field, Log}
use Rattle.refusals.specs.Said.{number, gives}
use Rattle.keys.specs.Keys.{key_for}
use Rattle.keys.specs.declared.Kind.{Kind}
use Rattle.whereabouts.specs.declared.Site.{Site}
use Rattle.track.specs.declared.Track.{Track}
use Rattle.track.specs.Said.{looked_said}
use Rattle.replay.specs.Replay.{unheard, own_at, sited, replayed}
use Rattle.replay.specs.Said.{earns14, earns8, replay_table}
use Rattle.replay.proofs.replay.Kinds as replay-kinds
use Rattle.replay.proofs.replay.Reads as replay

looked : (v : Option Track) → looked_said (Ok v) ≡ gives v
looked None = refl
looked (Some t) = refl

by_tests : (a b : Bool) (v : Option Track) → looked_said (cond a (Err Log) (cond b (Err Field) (Ok v))) ≡ cond a (number 14) (cond b (number 8) (gives v))
by_tests true b v = refl
by_tests false true v = refl
by_tests false false v = looked v

pub replay_says : (log : List ℕ) (kind : Kind) (address : ℕ) (site : Site) → looked_said (replayed log kind address site) ≡ replay_table log kind address site
unfolding replayed
replay_says log kind address site = by_tests (earns14 log) (earns8 kind address site) (own_at (sited site) (key_for kind address) unheard log (length log / 22)).track

pub replay_promised : (κs : Lfts 1) (args : Dens κs replay-kinds.ps) (x : (res_t replay-kinds.r κs).Denot) (left : AtExit (ended_of 1 replay-kinds.ps replay-kinds.r) κs)
    → replay.Post κs args x left → looked_said x ≡ replay_table args.0.now args.1.0 args.1.1.0 args.1.1.1.0
replay_promised κs args x left p = ap looked_said p ∙ replay_says args.0.now args.1.0 args.1.1.0 args.1.1.1.0
