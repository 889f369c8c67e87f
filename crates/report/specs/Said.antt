-- RULES 12 and 19.3: what the answers say in the rules' terms: a number, or the text of a line; or nothing, of a key that is not held or not shown.
use Rattle.std.specs.Prelude.{ℕ, List, Option, Some, None, Result, Ok, Err}
use Rattle.refusals.specs.declared.Refusal.{Refusal}
use Rattle.refusals.specs.Numbers.{number_of}
use Rattle.refusals.specs.Said.{Said, number, gives}
use Rattle.text.specs.declared.Line.{Line}
use Rattle.text.specs.declared.Row.{Row}
use Rattle.text.specs.Lines.{row_text, text_in}

-- of the header: its text
abbrev pub header_said : Result Line Refusal → Said (List ℕ)
header_said (Ok l) = gives (text_in l)
header_said (Err r) = number (number_of r)

-- of a key: the text of its line, or nothing
abbrev pub report_said : Result (Option Line) Refusal → Said (Option (List ℕ))
report_said (Ok (Some l)) = gives (Some (text_in l))
report_said (Ok None) = gives None
report_said (Err r) = number (number_of r)

-- what is due for a key, by its row: the row's text, or nothing where there is no row
abbrev pub line_due : Option Row → Option (List ℕ)
line_due None = None
line_due (Some r) = Some (row_text r)
