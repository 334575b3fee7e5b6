use Rattle.common.specs.Counters.{width}
use Rattle.table.specs.Bytes.{table_of}
use Rattle.table.specs.Places.{Holds, with_last}
use Rattle.table.proofs.Stores.{last_stored}
use Rattle.table.proofs.Table.put_last.Goals as goal

pub invariant_of-self : goal.invariant_of-self
invariant_of-self c =
    let H : Holds c.args.self.now.n (with_last (table_of width c.args.self.now.bytes.now) c.args.s c.args.v.0) c.put_counter.new.s = search last_stored in
    record { shape = H.shape }

pub returns : goal.returns
returns c = search last_stored
