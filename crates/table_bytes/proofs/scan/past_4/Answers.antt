-- `table_bytes::scan::past_4` meets its contract: none of the 4 keys that it passes is the key.
use mathlib.Core.Path.{sym, ◌∙◌}
use Rattle.table_bytes.proofs.Scanned.{more}
use borrow.Author.Rules.{rules}
use Rattle.table_bytes.proofs.scan.past_4.Goals as goal

pub returns-then-none_of_4 : goal.returns-then-none_of_4
returns-then-none_of_4 c =
    let a = c.args in
    (search rules, more a.s.now a.key 4 a.from c.requires.2 (sym c.none_of_4.ensures ∙ c.if-none_of_4.true))
