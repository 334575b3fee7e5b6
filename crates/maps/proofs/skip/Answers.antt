-- `skip`: the runs before the last are kept, and the last is pending.
use Prim.Native.Nat.{◌-◌}
use native.Mathlib.Omega.{arith}
use mathlib.Core.Path.{refl}
use Rattle.xdr.specs.Array.{put_elements}
use Rattle.runbytes.proofs.Facts.{map-facts}
use Rattle.maps.proofs.Untouched.{pending-fine}
use Rattle.maps.proofs.skip.Goals as goal

pub returns-then-i-eq0-clause-kept : goal.returns-then-i-eq0-clause-kept
unfolding put_elements
returns-then-i-eq0-clause-kept c = rw c.if-i-eq0.true (c.requires.0, refl)

pub keep-requires : goal.keep-requires
keep-requires c = omega (arith, (map-facts c.args.map.now.bytes.now c.args.map.now.sound).few)

pub invariant_of-d : goal.invariant_of-d
invariant_of-d c = record {
  fine = rw c.run-r.ensures.0 (pending-fine c.args.map.now.bytes.now c.args.map.now.sound (c.args.i - 1) (omega arith));
}
