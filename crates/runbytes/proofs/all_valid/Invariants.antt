-- `all_valid`: what is tested so far, and the runs from place i on, decide as the whole.
use mathlib.Core.Path.{◌≡◌}
use mathlib.Core.Bool.{◌&&◌}
use lib.ListN.{drop}
use Rattle.common.specs.Counters.{width}
use Rattle.runs.specs.Sound.{all_valid}
use Rattle.runs.specs.Bytes.{runs_of}
use Rattle.runbytes.proofs.Tally.{so_far}
use Rattle.runbytes.proofs.all_valid.Given as goal

abbrev pub invariant-loop-i : goal.invariant-loop-i
invariant-loop-i l = (so_far l.rising l.last l.number l.pass && all_valid (drop l.i (runs_of width l.s))) ≡ all_valid (runs_of width l.s)
