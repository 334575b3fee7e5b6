-- `begun`: the runs before low start at or before the byte, and those from high on after it.
use Prim.Native.Nat.{◌-◌, ◌≤◌, ◌<◌}
use Rattle.xdr.specs.Be.{be}
use Rattle.runbytes.specs.Places.{run_at}
use Rattle.maps.proofs.begun.Given as goal

abbrev pub invariant-loop-low : goal.invariant-loop-low
invariant-loop-low l = record {
  least : l.from ≤ l.low;
  rising : l.low ≤ l.high;
  most : l.high ≤ be 4 l.map.bytes.now 0;
  first : l.from < l.low → (run_at l.map.bytes.now (l.low - 1)).first ≤ l.x;
  after : l.high < be 4 l.map.bytes.now 0 → l.x < (run_at l.map.bytes.now l.high).first;
}

abbrev pub decreases-loop-low : goal.decreases-loop-low
decreases-loop-low l = l.high - l.low
