use Rattle.table.specs.Places.{Holds, with_lock}
use Rattle.table.specs.Bytes.{table_of}
use Rattle.common.specs.Counters.{width}
use Rattle.table.proofs.Stores.{record-put, lock-stored}
use Rattle.table.proofs.Table.put_lock.Goals as goal

pub invariant_of-self : goal.invariant_of-self
invariant_of-self c =
    let H : Holds c.args.self.now.n (with_lock (table_of width c.args.self.now.bytes.now) c.args.i c.args.l) c.put_number.new.s = search (lock-stored, record-put) in
    record { shape = H.shape }

pub returns : goal.returns
returns c = search (lock-stored, record-put)
