-- `read_line`: each arm of the match is the letter's row of `by_letter`, and its fields are read as there.
use Rattle.std.proofs.Common.{arith, refl}
use Rattle.locks.specs.declared.Message.TheVariants.{Acknowledge, Downgrade, Release}
use Rattle.line.proofs.Letters.{line-long, line-blank, by-letter, first-wrong, second-wrong, letter-r, letter-a, letter-d, letter-f, letter-other, named, requested, ended_by, field-wrong}
use Rattle.line.proofs.read_line.Goals as goal
use Rattle.line.proofs.read_line.Goals.{in-65, in-68, in-70, in-82+in_ok-next-in-82+in_ok-next-in-82-2+in_ok-next-in-82-3}

pub returns-then-s-gt128 : goal.returns-then-s-gt128
returns-then-s-gt128 c = line-long _ c.if-s-gt128.true

pub returns-in_err-letter : goal.returns-in_err-letter
returns-in_err-letter c = rw c.from_residual.ensures (line-blank _ c.in_err-letter.ensures.cases)

pub returns-in_err-client : goal.returns-in_err-client
returns-in_err-client c =
    rw (c.from_residual-in_err-client.ensures, by-letter _ _ c.in_ok-letter.ensures.cases.0 c.if-s-gt128.false) (first-wrong _ _ c.in_err-client.ensures)

pub returns-in_err-second : goal.returns-in_err-second
returns-in_err-second c =
    rw (c.from_residual-in_err-second.ensures, by-letter _ _ c.in_ok-letter.ensures.cases.0 c.if-s-gt128.false)
    (second-wrong _ _ c.in_ok-client.ensures c.in_err-second.ensures)

pub returns-in_err-next-in-82 : goal.returns-in_err-next-in-82
returns-in_err-next-in-82 c =
    rw (c.from_residual-in_err-next-in-82.ensures, by-letter _ _ c.in_ok-letter.ensures.cases.0 c.if-s-gt128.false)
    (letter-r _ _ c.in-82.is (requested _ c.in_ok-client.ensures c.in_ok-second.ensures c.in_err-next-in-82.ensures field-wrong field-wrong refl))

pub returns-in_err-next-in-82-2 : goal.returns-in_err-next-in-82-2
returns-in_err-next-in-82-2 c =
    rw (c.from_residual-in_err-next-in-82-2.ensures, by-letter _ _ c.in_ok-letter.ensures.cases.0 c.if-s-gt128.false)
    (letter-r _ _ c.in-82.is
    (requested _ c.in_ok-client.ensures c.in_ok-second.ensures c.in_ok-next-in-82.ensures c.in_err-next-in-82-2.ensures field-wrong refl))

pub returns-in_err-next-in-82-3 : goal.returns-in_err-next-in-82-3
returns-in_err-next-in-82-3 c =
    rw (c.from_residual-in_err-next-in-82-3.ensures, by-letter _ _ c.in_ok-letter.ensures.cases.0 c.if-s-gt128.false)
    (letter-r _ _ c.in-82.is
    (requested _ c.in_ok-client.ensures c.in_ok-second.ensures c.in_ok-next-in-82.ensures c.in_ok-next-in-82-2.ensures c.in_err-next-in-82-3.ensures refl))

pub returns-in-0-to-64 : goal.returns-in-0-to-64
returns-in-0-to-64 c =
    rw (by-letter _ _ c.in_ok-letter.ensures.cases.0 c.if-s-gt128.false)
    (letter-other _ _ (λ e. omega arith) (λ e. omega arith) (λ e. omega arith) (λ e. omega arith))

pub returns-in-0-to-64-2 : goal.returns-in-0-to-64-2
returns-in-0-to-64-2 c =
    rw (by-letter _ _ c.in_ok-letter.ensures.cases.0 c.if-s-gt128.false)
    (letter-other _ _ (λ e. omega arith) (λ e. omega arith) (λ e. omega arith) (λ e. omega arith))

pub returns : goal.returns
returns c =
    rw (c.then_some.ensures, c.is_empty.ensures, by-letter _ _ c.in_ok-letter.ensures.cases.0 c.if-s-gt128.false)
    (elim c.match-letter.branch [
      | in-65 w ↦ rw (w.fields-is, w.m-is) (letter-a _ _ w.in-65.is (named _ c.in_ok-client.ensures c.in_ok-second.ensures Acknowledge (ended_by _ _)))
      | in-68 w ↦ rw (w.fields-is, w.m-is) (letter-d _ _ w.in-68.is (named _ c.in_ok-client.ensures c.in_ok-second.ensures Downgrade (ended_by _ _)))
      | in-70 w ↦ rw (w.fields-is, w.m-is) (letter-f _ _ w.in-70.is (named _ c.in_ok-client.ensures c.in_ok-second.ensures Release (ended_by _ _)))
      | in-82+in_ok-next-in-82+in_ok-next-in-82-2+in_ok-next-in-82-3 w ↦
          rw (w.fields-is, w.m-is)
          (letter-r _ _ w.in-82.is
          (requested _ c.in_ok-client.ensures c.in_ok-second.ensures w.in_ok-next-in-82.ensures w.in_ok-next-in-82-2.ensures w.in_ok-next-in-82-3.ensures
          (ended_by _ _)))
    ])
