-- `all_apart`: what has passed, and the neighbours from place i - 1 on, decide as the whole.
use Prim.Native.Nat.{◌-◌}
use mathlib.Core.Path.{◌≡◌}
use mathlib.Core.Bool.{◌&&◌}
use lib.ListN.{drop}
use Rattle.common.specs.Counters.{width}
use Rattle.runs.specs.Sound.{apart}
use Rattle.runs.specs.Bytes.{runs_of}
use Rattle.runbytes.proofs.all_apart.Given as goal

abbrev pub invariant-loop-i : goal.invariant-loop-i
invariant-loop-i l = (l.ok && apart (drop (l.i - 1) (runs_of width l.s))) ≡ apart (runs_of width l.s)
