-- `number`: each test is that of `read_number` at its first byte.
use Rattle.std.proofs.Common.{◌∙◌}
use Rattle.line.proofs.Steps.{number-end, number-none, number-zero, number_more}
use Rattle.line.proofs.Fields.number.Goals as goal

pub returns-in_err-b : goal.returns-in_err-b
returns-in_err-b c = rw c.from_residual.ensures (number-end _ c.in_err-b.ensures.cases)

pub returns-in_err-d : goal.returns-in_err-d
returns-in_err-d c = rw c.from_residual-in_err-d.ensures (number-none _ _ c.in_ok-b.ensures.cases.0 c.in_err-d.ensures)

pub returns-then-d-eq0 : goal.returns-then-d-eq0
returns-then-d-eq0 c = number-zero _ _ c.in_ok-b.ensures.cases.0 c.in_ok-d.ensures c.if-d-eq0.true

pub returns : goal.returns
returns c = c.digits.ensures ∙ number_more _ _ c.in_ok-b.ensures.cases.0 c.in_ok-d.ensures c.if-d-eq0.false
