use native.Mathlib.Omega.{arith}
use Rattle.runbytes.proofs.Facts.{log_facts}
use Rattle.runbytes.proofs.Log.first.Goals as goal

pub first_at-requires : goal.first_at-requires
first_at-requires c = let f = log_facts c.args.self.now.bytes.now c.args.self.now.sound in omega (arith, f.long)
