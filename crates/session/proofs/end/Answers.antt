-- `end`: a line of which nothing is kept is none; any other is read without a break.
use Rattle.std.proofs.Common.{sym}
use borrow.Author.Tests.{eqb-true, eqb-false}
use Rattle.session.proofs.Feeding.{said-single, ended-none, ended-last}
use Rattle.session.proofs.end.Goals as goal

pub returns-then-is_empty-clause-out : goal.returns-then-is_empty-clause-out
returns-then-is_empty-clause-out g c = rw c.clear.ensures (ended-none _ c.args.table.now (eqb-true _ 0 (sym c.if-is_empty.ensures)))

pub answer-requires : goal.answer-requires
answer-requires g c = search said-single

pub returns-clause-out : goal.returns-clause-out
returns-clause-out g c =
    ended-last _ c.args.table.now (eqb-false _ 0 (sym c.if-is_empty.ensures)) (rw c.as_slice.ensures.value at c.said-said.ensures) c.answer.ensures
