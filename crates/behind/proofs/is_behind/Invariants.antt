-- `is_behind`: the runs left decide over the bytes left as the whole map does over the piece.
use Rattle.std.proofs.Common.{◌≡◌, ◌+◌, ◌-◌, drop}
use Rattle.common.specs.Counters.{width}
use Rattle.runs.specs.Ages.{value_of}
use Rattle.runs.specs.Bytes.{runs_of}
use Rattle.stripe.specs.Refusals.{behind}
use Rattle.behind.proofs.is_behind.Given as goal

abbrev pub invariant-loop-i : goal.invariant-loop-i
invariant-loop-i l =
    behind (drop l.i (runs_of width l.map.bytes.now)) (value_of l.piece.age) l.b (l.piece.first + l.piece.len - l.b)
    ≡ behind (runs_of width l.map.bytes.now) (value_of l.piece.age) l.piece.first l.piece.len
