-- `rebuilt`: the pen stands where the sweep is, and what is drawn is what the log says before it.
use Rattle.std.proofs.Common.{suc, ◌-◌, ◌≤◌, ◌≡◌}
use Rattle.common.specs.Counters.{width}
use Rattle.common.specs.Ranges.{eof}
use Rattle.runs.specs.Owner.{owner}
use Rattle.runs.specs.Bytes.{runs_of}
use Rattle.pen.specs.Drawing.{Drawn}
use Rattle.rebuild.specs.Sweeping.{Sweeping}
use Rattle.rebuild.proofs.rebuilt.Given as goal

abbrev pub invariant-loop-drawing : goal.invariant-loop-drawing
invariant-loop-drawing l = record {
  most : l.drawing.pen.x ≤ suc eof;
  drawn : Drawn (owner (runs_of width l.fn.log.bytes.now)) l.fn.out l.drawing.out.now l.drawing.pen;
  sweeping : Sweeping l.fn.log.bytes.now l.sweep l.drawing.pen.x;
  lent : l.drawing.out.ghost_name ≡ l.initial.drawing.out.ghost_name;
}

abbrev pub decreases-loop-drawing : goal.decreases-loop-drawing
decreases-loop-drawing l = suc eof - l.drawing.pen.x
