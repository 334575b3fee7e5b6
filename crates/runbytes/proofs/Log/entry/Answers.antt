use native.Mathlib.Omega.{arith}
use Rattle.runbytes.proofs.Facts.{log_facts, valid-at}
use Rattle.runbytes.proofs.Log.entry.Goals as goal

pub run_at-requires : goal.run_at-requires
run_at-requires c = let f = log_facts c.args.self.now.bytes.now c.args.self.now.sound in omega arith

pub returns : goal.returns
returns c =
    let f = log_facts c.args.self.now.bytes.now c.args.self.now.sound in
    (c.run_at.ensures.0, rw c.run_at.ensures.0 (valid-at c.args.self.now.bytes.now c.args.i c.requires f.good))
