-- `keep`: the first i runs are kept, and the pen stays.
use mathlib.Core.Path.{◌≡◌}
use lib.ListN.{take, drop}
use Rattle.common.specs.Counters.{width}
use Rattle.runs.specs.Bytes.{runs_of}
use Rattle.pen.specs.Drawing.{with_runs}
use Rattle.pen.proofs.Drawing.keep.Given as goal

abbrev pub invariant-loop-i : goal.invariant-loop-i
invariant-loop-i l = record {
  stored : l.self.out.now ≡ with_runs l.fn.self.out.now l.k (take l.i (drop l.from (runs_of width l.map.bytes.now)));
  still : l.self.pen ≡ l.fn.self.pen;
  lent : l.self.out.ghost_name ≡ l.fn.self.out.ghost_name;
}
