-- `store`: the runs left store over what is stored so far what the whole map stores over the part.
use Rattle.std.proofs.Common.{◌≡◌, drop}
use Rattle.common.specs.Counters.{width}
use Rattle.runs.specs.Ages.{value_of}
use Rattle.runs.specs.Bytes.{runs_of}
use Rattle.stripe.specs.Stripe.{stored}
use Rattle.store.proofs.store.Given as goal

abbrev pub invariant-loop-i : goal.invariant-loop-i
invariant-loop-i l =
    stored (drop l.i (runs_of width l.map.bytes.now)) (value_of l.piece.age) l.piece.first l.bytes l.part
    ≡ stored (runs_of width l.map.bytes.now) (value_of l.piece.age) l.piece.first l.bytes l.fn.part
