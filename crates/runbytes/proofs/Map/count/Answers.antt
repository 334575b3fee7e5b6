use native.Mathlib.Omega.{arith}
use Rattle.runbytes.proofs.Facts.{map-facts}
use Rattle.runbytes.proofs.Map.count.Goals as goal

pub count-requires : goal.count-requires
count-requires c = let f = map-facts c.args.self.now.bytes.now c.args.self.now.sound in omega arith

pub returns : goal.returns
returns c = let f = map-facts c.args.self.now.bytes.now c.args.self.now.sound in (c.count.ensures.0, rw c.count.ensures.0 f.few)
