-- `is_behind`: a run more, and none left.
use Rattle.std.proofs.Common.{◌+◌, arith}
use Rattle.runs.specs.Ages.{value_of}
use Rattle.behind.proofs.Walk.{behind_more, behind-end}
use Rattle.behind.proofs.is_behind.Goals as goal

pub loop-i-preserved : goal.loop-i-preserved
loop-i-preserved c =
    let a = c.args in
    rw (c.onward-b.ensures, c.run.ensures.0)
    (behind_more a.map.now.bytes.now c.loop-i.i a.map.now.sound (omega arith) (value_of a.piece.age) (a.piece.first + a.piece.len) c.loop-i.b _ a.piece.granted c.loop-i.invariant)

pub returns : goal.returns
returns c =
    let a = c.args in
    behind-end a.map.now.bytes.now c.loop-i.i (omega arith) (value_of a.piece.age) (a.piece.first + a.piece.len) c.loop-i.b _ a.piece.granted c.loop-i.invariant
