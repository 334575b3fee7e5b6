use Rattle.common.specs.Counters.{width}
use Rattle.table.specs.Bytes.{table_of}
use Rattle.settle.specs.Posts.{Leads}
use Rattle.settle.proofs.Sweep.{sofar}
use Rattle.settle.proofs.revokes.Given as goal

abbrev pub invariant-loop-i : goal.invariant-loop-i
invariant-loop-i l = Leads l.fn.t l.fn.e (sofar (table_of width l.fn.t.bytes.now) l.i) l.t l.e
