-- `pour`: what is left of a piece is fed on.
use Rattle.std.proofs.Common.{sym}
use borrow.Author.Tests.{eqb-true, eqb-false}
use Rattle.lockline.proofs.Pouring.{poured_none, poured_more, poured_less, poured_all}
use Rattle.lockline.proofs.pour.Goals as goal

pub loop-rest-init : goal.loop-rest-init
loop-rest-init c = poured_none _ _ _

pub loop-rest-smaller : goal.loop-rest-smaller
loop-rest-smaller c = poured_less c.loop-rest.invariant c.feed-n.ensures (eqb-false _ 0 (sym c.loop-rest-test.ensures))

pub loop-rest-preserved : goal.loop-rest-preserved
loop-rest-preserved c = poured_more c.loop-rest.invariant c.feed-n.ensures

pub returns : goal.returns
returns c = poured_all (eqb-true _ 0 (sym c.loop-rest-test.ensures)) c.loop-rest.invariant
