-- `pour`: all of the piece but what is left of it is taken.
use Rattle.std.proofs.Common.{length}
use Rattle.lockline.proofs.Pouring.{Poured}
use Rattle.lockline.proofs.pour.Given as goal

abbrev pub invariant-loop-rest : goal.invariant-loop-rest
invariant-loop-rest l = Poured l.piece l.fn.session.line.items l.fn.session.table l.rest l.session.line.items l.session.table

abbrev pub decreases-loop-rest : goal.decreases-loop-rest
decreases-loop-rest l = length l.rest
