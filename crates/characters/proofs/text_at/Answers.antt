-- `characters::text_at` meets its contract: the bytes of the two halves are the bytes of the whole.
use Rattle.characters.specs.Text.{text_at}
use Rattle.characters.proofs.Spelled.{spelled}
use Rattle.characters.proofs.text_at.Goals as goal

pub returns : goal.returns
unfolding text_at
returns c =
    spelled c.args.characters
    c.letter-a.ensures.0
    c.letter-b.ensures.0
    c.letter-c.ensures.0
    c.letter-d.ensures.0
    c.letter-e.ensures.0
    c.letter-f.ensures.0
    c.letter-g.ensures.0
    c.letter-h.ensures.0
