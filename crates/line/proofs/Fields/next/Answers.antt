-- `next`: its test is that of `read_field` at its first byte.
use Rattle.std.proofs.Common.{◌∙◌}
use Rattle.line.proofs.Steps.{field_end, field-other, field-comma}
use Rattle.line.proofs.Fields.next.Goals as goal

pub returns-in_err-b : goal.returns-in_err-b
returns-in_err-b c = rw c.from_residual.ensures (field_end _ c.in_err-b.ensures.cases)

pub returns-then-b-ne44 : goal.returns-then-b-ne44
returns-then-b-ne44 c = field-other _ _ c.in_ok-b.ensures.cases.0 c.if-b-ne44.true

pub returns : goal.returns
returns c = c.number.ensures ∙ field-comma _ _ c.in_ok-b.ensures.cases.0 c.if-b-ne44.false
