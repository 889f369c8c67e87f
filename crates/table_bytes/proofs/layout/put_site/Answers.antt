-- `table_bytes::layout::put_site` meets its contract: two stores in a row; from pole to pole the latitude's number leaves room for one more.
use native.Mathlib.Omega.{arith}
use mir.Facts.{to_z-of_z}
use mir.Syntax.{w32}
use mathlib.Core.Path.{ap, ◌∙◌}
use Prim.Native.Nat.{ℕ, ◌+◌, ◌%◌}
use Rattle.memory.specs.Bytes.{low_bytes}
use Rattle.place.specs.Place.{above_pole}
use Rattle.memory.proofs.Numbers.{low_length}
use Rattle.memory.proofs.Put.{put_then, put_same}
use Rattle.place.proofs.Latitudes.{above_pole_small}
use Rattle.table_bytes.proofs.layout.put_site.Goals as goal

pub overflow_add-above_pole : goal.overflow_add-above_pole
overflow_add-above_pole c =
    let a = c.args in
    let up = c.above_pole.ensures ∙ ap above_pole (to_z-of_z {w = w32} {z = a.site.latitude} (record { sfits = omega (arith, c.type_inv.site) })) in
    rw up (omega (arith, above_pole_small a.site.latitude c.requires.1))

pub returns : goal.returns
returns c =
    let a = c.args in
    let up = c.above_pole.ensures ∙ ap above_pole (to_z-of_z {w = w32} {z = a.site.latitude} (record { sfits = omega (arith, c.struct_told-1.given) })) in
    put_then _ _ 4 _ _ (low_length 4 _) (put_same _ _ (ap (λ (n : ℕ). low_bytes 4 (n % 4294967296 + 1)) up) c.put4.ensures) c.put4-2.ensures
