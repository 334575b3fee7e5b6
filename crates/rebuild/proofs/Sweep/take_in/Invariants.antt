use Rattle.std.proofs.Common.{◌-◌, length}
use Rattle.rebuild.specs.Sweeping.{Sweeping}
use Rattle.rebuild.proofs.Sweep.take_in.Given as goal

abbrev pub invariant-loop-i : goal.invariant-loop-i
invariant-loop-i l = Sweeping l.fn.self.log.bytes.now l.self l.x

abbrev pub decreases-loop-i : goal.decreases-loop-i
decreases-loop-i l = length l.self.order.now - l.self.taken
