-- Tables side by side, of the calls from C: a run of calls that met their contracts is one that the rules played, so the theorem over the rules carries over.
-- Assumes nothing.
use Rattle.std.specs.Prelude.{Result, Ok, Option}
use Prim.Native.Nat.{ℕ}
use mathlib.Core.Bool.{Bool, true, false, cond}
use mathlib.Core.Path.{◌≡◌, refl, ap, ap₂, sym, ◌∙◌}
use mathlib.Core.List.{List, [], ◌∷◌, map}
use Rattle.entries.specs.Sent.{Sent, into}
use Rattle.rules.specs.Rules as rules
use Rattle.table_bytes.specs.Layout.{clock_of}
use Rattle.table.specs.Bytes.{bytes}
use Rattle.table.specs.Table.{received, clock_in}
use Rattle.table.specs.View.{view}
use Rattle.isolation.specs.Runs.{Call, call}
use Rattle.isolation.specs.Logs.{left}
use Rattle.addercoil.specs.Tables.{clock_said}
use Rattle.fleet.specs.Sparse.{ticked, heeds, told}
use Rattle.fleet.proofs.OfCode.{bytes_shards}
use Rattle.c_promises.specs.Runs.{Site, site_of, Run}
use Rattle.c_promises.specs.Logs.{left_of}
use Rattle.c_promises.proofs.Followed.{Followed, Followed.no_more, Followed.one_more, same_track}
use Rattle.c_promises.proofs.Isolated.{east, run_done, run_table, run_whole, run_never, by_rule}
use Rattle.c_promises.proofs.Replayed.{ran_left, left_whole}
use Rattle.c_promises.proofs.Timed.{clock_is}
use Rattle.c_fleet.specs.Sides.{number_in, returned, SideBySide}
use Rattle.messages.specs.declared.Message.{Message}
use Rattle.refusals.specs.declared.Refusal.{Refusal}

-- ---- the numbers are those of what the rule answers

mapped : (b : Bool) (d : Result Message Refusal) (ds : List (Result Message Refusal)) → cond b (number_in d ∷ map number_in ds) (map number_in ds) ≡ map number_in (cond b (d ∷ ds) ds)
mapped true d ds = refl
mapped false d ds = refl

pub returned_is : (key n : ℕ) {s : List ℕ} {cs : List Call} {xs : List Sent} → Followed received (λ (z : List ℕ). z) s cs xs → returned key n cs xs ≡ map number_in (told received key n s cs)
returned_is key n no_more = refl
returned_is key n {s} (one_more {c = c} {x = x} {cs = cs} {xs = xs} number_is table_is w more) =
    ap₂ (λ (k : ℕ) (l : List ℕ). cond (heeds key n c) (k ∷ l) l) number_is (returned_is key (ticked n c) more) ∙ mapped (heeds key n c) (call received s c).answer _

-- ---- what a run leaves

module _ (site : Option Site) {cs : List Call} {xs : List Sent} (p : Run site cs xs) where
  pub left_is : left_of p ≡ left received (rules.set_up bytes p.table (site_of site)).table cs
  left_is = ran_left p.ran ∙ ap (λ (z : List ℕ). left received z cs) (run_table site p)

  pub whole_in_end : bytes.whole (left_of p) ≡ true
  whole_in_end = left_whole p.ran (run_whole site p)

  pub clock_said_lem : clock_in (left_of p) ≡ Ok (clock_of (left_of p))
  unfolding clock_in
  clock_said_lem = rw whole_in_end

pub side_by_side : SideBySide
side_by_side key site cs ds xs ys p q sparse f g =
    let same = bytes_shards key (site_of site) (east site) p.table q.table (run_done site p) (run_done site q) cs ds sparse (run_never site p key f) (run_never site q key g) in
    let clocks : clock_of (left_of p) ≡ clock_of (left_of q) = ap clock_of (left_is site p) ∙ same.clock ∙ sym (ap clock_of (left_is site q)) in
    record {
      numbers = returned_is key 0 (by_rule site p) ∙ ap (map number_in) same.answers ∙ sym (returned_is key 0 (by_rule site q));
      clock = λ out x y a b.
          clock_is a
          ∙ ap (λ (z : Result ℕ Refusal). into 1 out (clock_said z)) (clock_said_lem site p ∙ ap Ok clocks ∙ sym (clock_said_lem site q))
          ∙ sym (clock_is b);
      track = same_track key (left_of p) (left_of q) (whole_in_end site p) (whole_in_end site q)
          (ap (λ (z : List ℕ). view z key) (left_is site p) ∙ same.track ∙ sym (ap (λ (z : List ℕ). view z key) (left_is site q)));
    }
