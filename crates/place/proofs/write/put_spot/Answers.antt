-- `place::write::put_spot` meets its contract: three stores in a row, and a latitude's 32 low bits are what its four bytes hold.
use native.Mathlib.Omega.{arith}
use mir.Facts.{to_z-of_z}
use mir.Syntax.{w32}
use mathlib.Core.Path.{ap, ◌∙◌}
use Rattle.memory.specs.Bytes.{low_bytes}
use Rattle.place.specs.Place.{above_pole, spot_bytes}
use Rattle.memory.proofs.Numbers.{low_length, low_cut}
use Rattle.memory.proofs.Put.{put_then, put_after, put_same}
use Rattle.place.proofs.write.put_spot.Goals as goal

pub returns : goal.returns
unfolding spot_bytes
returns c =
    let a = c.args in
    let up = c.above_pole.ensures ∙ ap above_pole (to_z-of_z {w = w32} {z = a.p.spot.latitude} (record { sfits = omega (arith, c.struct_told-1.given) })) in
    put_then _ _ 4 _ _ (low_length 4 _) (put_same _ _ (low_cut c.above_pole.result ∙ ap (low_bytes 4) up) c.put4.ensures)
    (put_after _ _ 4 4 _ _ (low_length 4 _) c.put4-2.ensures c.put8.ensures)
