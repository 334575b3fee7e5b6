-- `store`: a run more, and none left.
use Rattle.std.proofs.Common.{arith}
use Rattle.runs.specs.Ages.{value_of}
use Rattle.store.proofs.Walk.{stored_more, stored-end}
use Rattle.store.proofs.store.Goals as goal

pub loop-i-preserved : goal.loop-i-preserved
loop-i-preserved c =
    let a = c.args in
    rw (c.store_run.ensures, c.run.ensures.0)
    (stored_more a.map.now.bytes.now c.loop-i.i a.map.now.sound (omega arith) (value_of a.piece.age) a.piece.first a.bytes.now c.loop-i.part _ a.piece.granted c.loop-i.invariant)

pub returns : goal.returns
returns c =
    let a = c.args in
    stored-end a.map.now.bytes.now c.loop-i.i (omega arith) (value_of a.piece.age) a.piece.first a.bytes.now c.loop-i.part _ a.piece.granted c.loop-i.invariant
