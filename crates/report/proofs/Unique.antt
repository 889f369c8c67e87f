-- Each public function has one answer: two that satisfy its contract both equal its definition.
-- Assumes nothing.
use mathlib.Core.Path.{sym, ◌∙◌}
use Rattle.refusals.specs.Answers.{OneAnswer}
use Rattle.report.proofs.header_of.Kinds as header-of-kinds
use Rattle.report.proofs.header_of.Reads as header_of
use Rattle.report.proofs.line_of.Kinds as line-of-kinds
use Rattle.report.proofs.line_of.Reads as Line-of
use Rattle.report.proofs.row_in.Kinds as row-in-kinds
use Rattle.report.proofs.row_in.Reads as row_in
use Rattle.report.proofs.row.row_from.Kinds as row-from-kinds
use Rattle.report.proofs.row.row_from.Reads as row_from

pub header_of_once : OneAnswer 1 header-of-kinds.ps header-of-kinds.r header_of.Post
header_of_once κs args x y left left' p q = p ∙ sym q

pub line_of_once : OneAnswer 1 line-of-kinds.ps line-of-kinds.r Line-of.Post
line_of_once κs args x y left left' p q = p ∙ sym q

pub row_in_once : OneAnswer 1 row-in-kinds.ps row-in-kinds.r row_in.Post
row_in_once κs args x y left left' p q = p ∙ sym q

pub row_from_once : OneAnswer 0 row-from-kinds.ps row-from-kinds.r row_from.Post
row_from_once κs args x y left left' p q = p ∙ sym q
