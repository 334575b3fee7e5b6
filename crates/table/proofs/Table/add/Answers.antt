use Rattle.table.proofs.Adding.{grown, added}
use Rattle.table.proofs.Table.add.Goals as goal

pub invariant_of-self : goal.invariant_of-self
invariant_of-self c = record { shape = rw c.put_number.ensures (grown c.args.self.now.n c.args.self.now.bytes.now c.args.self.now.shape c.requires.0).shape }

pub returns : goal.returns
returns c = (
  rw c.put_lock.ensures.1
      (added c.args.self.now.n c.args.self.now.bytes.now c.args.self.now.shape c.requires.0 c.args.l _ (rw (c.put_number.ensures, c.put_lock.ensures.1) at c.put_lock.ensures.0)),
  c.put_lock.ensures.1,
  c.put_lock.ensures.2,
)
