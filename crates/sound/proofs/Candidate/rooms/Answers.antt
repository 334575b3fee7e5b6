use native.Mathlib.Omega.{arith}
use Rattle.common.specs.Counters.{width}
use Rattle.table.specs.Sound.{room}
use Rattle.table.specs.Bytes.{table_of}
use Rattle.sound.proofs.Left.{records-end, stripes-from, all_more}
use Rattle.sound.proofs.Counts.{tallied}
use Rattle.sound.proofs.Candidate.rooms.Goals as goal

pub loop-s-preserved : goal.loop-s-preserved
unfolding room
loop-s-preserved c =
    let t = c.args.self.now.records.bytes.now in
    let n = c.args.self.now.n in
    let X = table_of width t in
    let h = c.loop-s-test.true in (
      omega arith,
      all_more (room c.args.self.now.issued X.lasts X.locks) _ c.loop-s.ok c.loop-s.s _ (stripes-from c.loop-s.s (omega arith))
          (rw (c.last_of.ensures.0, tallied n c.args.waiters.now X.locks c.requires (records-end n n t c.args.self.now.sized (omega arith)) c.loop-s.s (omega arith)))
          c.loop-s.invariant.1,
    )
