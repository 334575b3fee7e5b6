-- `keep`: one run more is kept behind those that are.
use native.Mathlib.Omega.{arith}
use mathlib.Core.Path.{refl}
use Rattle.xdr.specs.Array.{put_elements}
use Rattle.runbytes.proofs.Facts.{map-facts}
use Rattle.pen.proofs.Keeps.{keep-more}
use Rattle.pen.proofs.Drawing.keep.Goals as goal

pub loop-i-init : goal.loop-i-init
unfolding put_elements
loop-i-init c = record { stored = refl; still = refl; lent = refl }

pub overflow_add-from : goal.overflow_add-from
overflow_add-from c = omega (arith, (map-facts c.args.map.now.bytes.now c.args.map.now.sound).few)

pub loop-i-preserved : goal.loop-i-preserved
loop-i-preserved c = record {
  stored = keep-more c.args.map.now.bytes.now c.args.self.now.out.now c.args.k c.args.from c.loop-i.i (omega arith) _ _ c.loop-i.invariant.stored (rw (← c.run.ensures.0) c.put_run.ensures);
  still = c.loop-i.invariant.still;
  lent = c.loop-i.invariant.lent;
}
