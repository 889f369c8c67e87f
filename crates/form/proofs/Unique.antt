-- Each public function has one answer: two that satisfy its contract both equal its definition.
-- Assumes nothing.
use mathlib.Core.Path.{sym, ◌∙◌}
use Rattle.refusals.specs.Answers.{OneAnswer}
use Rattle.form.proofs.same.Kinds as same-kinds
use Rattle.form.proofs.same.Reads as same
use Rattle.form.proofs.line_end.Kinds as line-end-kinds
use Rattle.form.proofs.line_end.Reads as line-end
use Rattle.form.proofs.in_form.Kinds as in-form-kinds
use Rattle.form.proofs.in_form.Reads as in-form

pub same_once : OneAnswer 2 same-kinds.ps same-kinds.r same.Post
same_once κs args x y left left' p q = p ∙ sym q

pub line_end_once : OneAnswer 1 line-end-kinds.ps line-end-kinds.r line-end.Post
line_end_once κs args x y left left' p q = p.0 ∙ sym q.0

pub in_form_once : OneAnswer 1 in-form-kinds.ps in-form-kinds.r in-form.Post
in_form_once κs args x y left left' p q = p ∙ sym q
