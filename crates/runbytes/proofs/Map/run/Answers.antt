use Rattle.runbytes.proofs.Walk.{room, valid-here}
use Rattle.runbytes.proofs.Map.run.Goals as goal

pub run_at-requires : goal.run_at-requires
run_at-requires c = room c.args.self.now.bytes.now c.args.i c.args.self.now.sound c.requires

pub returns : goal.returns
returns c = (c.run_at.ensures.0, rw c.run_at.ensures.0 (valid-here c.args.self.now.bytes.now c.args.i c.args.self.now.sound c.requires))
