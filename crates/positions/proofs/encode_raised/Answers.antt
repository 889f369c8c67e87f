-- `positions::encode_raised` meets its contract: each part is the one that the definition names; NL is asked of the latitude in counts of 2^17.
use Prim.Native.Nat.{ℕ, ◌*◌, ◌%◌}
use mathlib.Core.Path.{◌≡◌, sym, ap, ap₂, ◌∙◌}
use native.Mathlib.Omega.{arith}
use lib.IntN.{sub_ℕ}
use Rattle.positions.specs.declared.Counts.{Counts}
use Rattle.positions.specs.Positions.{count_size, counts_of}
use Rattle.positions.proofs.Answers.{counts, spot}
use Rattle.positions.proofs.Latitudes.{zoned}
use Rattle.positions.proofs.Scaled.{polar_fine, zones_fine}
use Rattle.positions.proofs.encode_raised.Goals as goal

abbrev both : ℕ → ℕ → Counts
both y x = record { latitude = record { 0 = y }; longitude = record { 0 = x } }

pub zone_count_at-requires : goal.zone_count_at-requires
zone_count_at-requires c =
    let a = c.args in (
      rw (c.all_round-z.ensures.0, c.latitude_zones.ensures.0) (zoned a.turn a.format),
      polar_fine a.size c.all_round-z.result c.latitude_whole-y.result (4 * c.quarter_of-q.result) c.factor_of-k.result c.quarter_of-q.ensures.0 c.factor_of-k.ensures.0 c.latitude_whole-y.ensures.1.0,
    )

pub returns : goal.returns
returns c =
    let a = c.args in
    let P : ℕ = 4 * c.quarter_of-q.result in
    let e : count_size a.size ≡ P = sym c.quarter_of-q.ensures.0 in
    ap₂ both (c.count_of.ensures ∙ ap (λ (s : ℕ). c.latitude_whole-y.result % s) e) (c.count_of-2.ensures ∙ ap (λ (s : ℕ). c.longitude_whole-x.result % s) e)
    ∙ counts P (omega arith) a.turn a.format a.up a.longitude
    c.latitude_zones.result c.all_round-z.result c.latitude_whole-y.result c.zone_count_at.result c.longitude_zones.result c.all_round-n.result c.longitude_whole-x.result
    c.latitude_zones.ensures.0 c.all_round-z.ensures.0 c.latitude_whole-y.ensures.0
    (c.zone_count_at.ensures.0 ∙ zones_fine a.size c.all_round-z.result c.latitude_whole-y.result P c.factor_of-k.result c.quarter_of-q.ensures.0 c.factor_of-k.ensures.0)
    c.longitude_zones.ensures.0 c.all_round-n.ensures.0 c.longitude_whole-x.ensures
    ∙ ap (λ (s : ℕ). counts_of s (spot (sub_ℕ a.up 4294967296) a.longitude) a.turn a.format) c.quarter_of-q.ensures.0
