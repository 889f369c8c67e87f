-- Each public function has one answer: two that satisfy its contract both equal its definition.
-- Assumes nothing.
use mathlib.Core.Path.{sym, ◌∙◌}
use Rattle.refusals.specs.Answers.{OneAnswer}
use Rattle.text.proofs.header_line.Kinds as header-line-kinds
use Rattle.text.proofs.header_line.Reads as header-line
use Rattle.text.proofs.row_line.Kinds as row-line-kinds
use Rattle.text.proofs.row_line.Reads as row_Line

pub header_line_once : OneAnswer 0 header-line-kinds.ps header-line-kinds.r header-line.Post
header_line_once κs args x y left left' p q = p ∙ sym q

pub row_line_once : OneAnswer 0 row-line-kinds.ps row-line-kinds.r row_Line.Post
row_line_once κs args x y left left' p q = p ∙ sym q
