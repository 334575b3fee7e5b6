use Rattle.common.specs.Counters.{width}
use Rattle.table.specs.Bytes.{table_of}
use Rattle.locks.specs.Settle.{turns}
use Rattle.settle.specs.Posts.{Leads}
use Rattle.settle.proofs.grants.Given as goal

abbrev pub invariant-loop-i : goal.invariant-loop-i
invariant-loop-i l = Leads l.fn.t l.fn.e (turns l.i (table_of width l.fn.t.bytes.now)) l.t l.e
