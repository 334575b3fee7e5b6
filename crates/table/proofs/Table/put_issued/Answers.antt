use Rattle.table.proofs.Stores.{issued-stored}
use Rattle.table.proofs.Table.put_issued.Goals as goal

pub invariant_of-self : goal.invariant_of-self
invariant_of-self c = record { shape = (issued-stored c.args.self.now.n c.args.v c.args.self.now.bytes.now c.put_counter.new.s c.args.self.now.shape c.requires c.put_counter.ensures).shape }

pub returns : goal.returns
returns c = search issued-stored
