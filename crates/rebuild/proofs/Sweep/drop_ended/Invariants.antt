use Rattle.std.proofs.Common.{◌<◌, length}
use Rattle.rebuild.specs.Sweeping.{Sweeping, next_of}
use Rattle.rebuild.proofs.Sweep.drop_ended.Given as goal

abbrev pub invariant-loop-i : goal.invariant-loop-i
invariant-loop-i l = record { sweeping : Sweeping l.fn.self.log.bytes.now l.self l.x; next : l.x < next_of l.self }

abbrev pub decreases-loop-i : goal.decreases-loop-i
decreases-loop-i l = length l.self.begun.items
