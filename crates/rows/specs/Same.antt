-- RULES 20.4: what a message and the numbers that it was read from have in common.
use Rattle.std.specs.Prelude.{ℕ, zero, suc, ◌≡◌, List, [], ◌∷◌, get_or, length}
use Rattle.layouts.specs.Bodies.{body_fields}
use Rattle.messages.specs.declared.Message.{Message}
use Rattle.messages.specs.Message.{head_fields}
use Rattle.rows.specs.Rows.{message_row}

-- so many entries of a list, from one on
abbrev pub entries : ℕ → ℕ → List ℕ → List ℕ
entries from zero l = []
entries from (suc k) l = get_or l from 0 ∷ entries (suc from) k l

-- the layout, then DF, CA or CF and AA, then all ME fields
pub record Same (l : List ℕ) (m : Message) : Type 0 where
  pub layout : get_or (message_row m) 0 0 ≡ get_or l 0 0
  pub head : head_fields m ≡ entries 1 3 l
  pub body : body_fields m.body ≡ entries 5 (length (body_fields m.body)) l
