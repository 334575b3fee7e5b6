-- `rest`: all of the runs from place i on are kept, if they fit.
use Prim.Native.Nat.{◌-◌}
use native.Mathlib.Omega.{arith}
use mathlib.Core.Path.{◌≡◌}
use lib.ListN.{length, drop, length-drop}
use lib.Seq.{take_all}
use Rattle.common.specs.Counters.{width}
use Rattle.runs.specs.Bytes.{runs_of}
use Rattle.runbytes.proofs.Places.{runs-length}
use Rattle.maps.proofs.rest.Goals as goal

pub returns-then-total-gt-MAX_RUNS-clause-added : goal.returns-then-total-gt-MAX_RUNS-clause-added
returns-then-total-gt-MAX_RUNS-clause-added c =
    record { count = rw (length-drop, runs-length) (rw c.count.ensures.0); bytes = λ h. absurd (let z : ⊥ = omega arith in z) }

pub returns-clause-added : goal.returns-clause-added
returns-clause-added c =
    let rs = drop c.args.i (runs_of width c.args.map.now.bytes.now) in
    let e : length rs ≡ c.count.result - c.args.i = rw (length-drop, runs-length, c.count.ensures.0) in
    record { count = rw e; bytes = λ h. rw (take_all (c.count.result - c.args.i) rs (omega arith)) at c.keep.ensures.stored }
