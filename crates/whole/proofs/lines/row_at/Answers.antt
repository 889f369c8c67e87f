-- `whole::lines::row_at` meets its contract: what is read is what the track of the place says, and the key is the entry's.
use mir.Facts.{to_z-of_z}
use mir.Syntax.{w32}
use Rattle.order.specs.Sorted.{key_of}
use Rattle.table_bytes.specs.Layout.{body_at}
use Rattle.whole.specs.Code.{place_of}
use Rattle.whole.proofs.Steps.{row_read}
use Rattle.whole.proofs.lines.row_at.Goals as goal

pub returns : goal.returns
returns c =
    let a = c.args in
    rw (
      c.row_from.ensures,
      to_z-of_z {w = w32} (record { sfits = c.latitude_of.type_inv }),
      c.get8.ensures,
      c.get4-2.ensures,
      c.latitude_of.ensures,
      c.get4.ensures,
      c.get4-marks.ensures,
      c.body-p.ensures.0,
      c.place_of.ensures,
    ) (row_read (key_of a.e) (body_at a.table.now a.n (place_of a.e)) 0)
