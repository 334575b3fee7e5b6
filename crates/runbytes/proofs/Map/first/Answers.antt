use Rattle.runbytes.proofs.Walk.{room}
use Rattle.runbytes.proofs.Map.first.Goals as goal

pub first_at-requires : goal.first_at-requires
first_at-requires c = room c.args.self.now.bytes.now c.args.i c.args.self.now.sound c.requires
