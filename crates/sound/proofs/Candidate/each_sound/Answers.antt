use native.Mathlib.Omega.{arith}
use mathlib.Core.Bool.{true}
use mathlib.Core.Path.{sym, subst, ◌∙◌}
use lib.Dec.{T, leb→le}
use Rattle.std.proofs.lemmas.Bool.{leb-false}
use Rattle.sound.proofs.Left.{records-from, records-end, each_more, each-low, each-bad, each-done, cmp-leb}
use Rattle.sound.proofs.Counts.{has-count, one_more, one_or_none}
use Rattle.sound.proofs.Candidate.each_sound.Goals as goal

pub returns-then-le : goal.returns-then-le
returns-then-le c =
    let h = c.loop-i-test.true in
    let r = c.lock-l.result in
    each-low _ _ _ _ r (records-from c.args.self.now.n c.loop-i.i c.args.self.now.records.bytes.now c.args.self.now.sized r (omega arith) c.lock-l.ensures.0) c.loop-i.invariant.1
    (leb→le r.handle.0 c.loop-i.before.0 (subst T (c.if-le.ensures ∙ cmp-leb r.handle.0 c.loop-i.before.0) tt))

pub returns-then-not-is_valid : goal.returns-then-not-is_valid
returns-then-not-is_valid c =
    let h = c.loop-i-test.true in
    let r = c.lock-l.result in
    each-bad _ _ _ _ r (records-from c.args.self.now.n c.loop-i.i c.args.self.now.records.bytes.now c.args.self.now.sized r (omega arith) c.lock-l.ensures.0) c.loop-i.invariant.1
    (sym c.if-not-is_valid.ensures)

pub bounds-waiters-l : goal.bounds-waiters-l
bounds-waiters-l c = has-count _ _ _ (sym c.if-not-is_valid.ensures)

pub bounds-waiters-l-in-loop-i : goal.bounds-waiters-l-in-loop-i
bounds-waiters-l-in-loop-i c = has-count _ _ _ (sym c.if-not-is_valid.ensures)

pub loop-i-preserved : goal.loop-i-preserved
loop-i-preserved c =
    let h = c.loop-i-test.true in
    let r = c.lock-l.result in
    let f = records-from c.args.self.now.n c.loop-i.i c.args.self.now.records.bytes.now c.args.self.now.sized r (omega arith) c.lock-l.ensures.0 in (
      omega arith,
      each_more _ _ true _ r f c.loop-i.invariant.1 (leb-false r.handle.0 c.loop-i.before.0 (sym (cmp-leb r.handle.0 c.loop-i.before.0) ∙ sym c.if-le.ensures)) (sym c.if-not-is_valid.ensures),
      one_more _ _ r _ c.loop-i.i c.loop-i.invariant.2 f (has-count _ _ _ (sym c.if-not-is_valid.ensures)) (c.from.ensures ∙ one_or_none (c.lock-l.result)),
    )

pub returns : goal.returns
returns c = each-done _ _ _ _ _ c.rooms.ensures (records-end c.args.self.now.n c.loop-i.i c.args.self.now.records.bytes.now c.args.self.now.sized (omega arith)) c.loop-i.invariant.1
