-- `start_at`: what is left from place i on starts with the run there.
use native.Mathlib.Omega.{arith}
use mathlib.Core.Path.{refl}
use Rattle.runbytes.proofs.Places.{runs-from, runs-end}
use Rattle.runbytes.proofs.Facts.{map-facts, valid-at}
use Rattle.maps.proofs.start_at.Goals as goal

pub returns-then-i-count : goal.returns-then-i-count
returns-then-i-count c =
    let s = c.args.map.now.bytes.now in
    let i = c.args.i in
    rw (runs-from s i (omega arith), c.first.ensures) (refl, let v = valid-at s i (omega arith) (map-facts s c.args.map.now.sound).good in omega arith)

pub returns-else-i-count : goal.returns-else-i-count
returns-else-i-count c = rw (runs-end c.args.map.now.bytes.now c.args.i (omega arith)) (refl, omega arith)
