-- `table_bytes::scan::past_8` meets its contract: none of the 8 keys that it passes is the key.
use mathlib.Core.Path.{sym, ◌∙◌}
use Rattle.table_bytes.proofs.Scanned.{more}
use borrow.Author.Rules.{rules}
use Rattle.table_bytes.proofs.scan.past_8.Goals as goal

pub returns-then-none_of_8 : goal.returns-then-none_of_8
returns-then-none_of_8 c =
    let a = c.args in
    (search rules, more a.s.now a.key 8 a.from c.requires.2 (sym c.none_of_8.ensures ∙ c.if-none_of_8.true))
