-- `digits`: a digit more is read, or none stands there, or the number grows too large.
use Rattle.std.proofs.Common.{arith, ◌∙◌}
use Rattle.line.proofs.Steps.{digits-end, digits-stop, digits-over, digits_more}
use Rattle.line.proofs.Fields.digits.Goals as goal

pub returns-in_err-checked_mul : goal.returns-in_err-checked_mul
returns-in_err-checked_mul c =
    rw c.from_residual.ensures
    (digits-over _ _ c.in-Some.ensures.cases.0 c.in-Some-digit.ensures _ (omega (arith, c.in_err-checked_mul.ensures)) ∙ c.loop-b.invariant)

pub returns-in_err-v : goal.returns-in_err-v
returns-in_err-v c =
    rw c.from_residual-in_err-v.ensures
    (digits-over _ _ c.in-Some.ensures.cases.0 c.in-Some-digit.ensures _ (omega (arith, c.in_ok-checked_mul.ensures, c.in_err-v.ensures)) ∙ c.loop-b.invariant)

pub loop-b-preserved : goal.loop-b-preserved
loop-b-preserved c =
    rw (c.in_ok-v.ensures.1, c.in_ok-checked_mul.ensures.1)
    (digits_more _ _ c.in-Some.ensures.cases.0 c.in-Some-digit.ensures _ (omega (arith, c.in_ok-checked_mul.ensures, c.in_ok-v.ensures)) ∙ c.loop-b.invariant)

pub returns-in_default-digit : goal.returns-in_default-digit
returns-in_default-digit c = digits-stop _ _ c.in-Some.ensures.cases.0 c.in_default-digit.ensures _ ∙ c.loop-b.invariant

pub returns-in_default : goal.returns-in_default
returns-in_default c = digits-end _ c.in_default.ensures.cases _ ∙ c.loop-b.invariant
