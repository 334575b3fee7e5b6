use Rattle.std.proofs.Common.{rules, refl}
use Rattle.settle.proofs.Turning.{turns-none, turns_more, turns-room, turns-good}
use Rattle.settle.proofs.grants.Goals as goal

pub loop-i-init : goal.loop-i-init
loop-i-init c = (turns-none _ _ _ _ c.args.t.now.shape, refl, refl, refl)

pub turn-requires : goal.turn-requires
turn-requires c =
    let e = c.loop-i.invariant.1 in
    let D = rw e at c.loop-i.invariant.0 in
    rw e (turns-good _ _ _ _ _ _ _ _ c.requires.0 (search rules) D, search rules, turns-room _ _ _ _ _ _ _ _ c.loop-i-test.true D c.requires.1)

pub loop-i-preserved : goal.loop-i-preserved
loop-i-preserved c =
    let e = c.loop-i.invariant.1 in
    let D = rw e at c.loop-i.invariant.0 in
    let f = rw e at c.turn.ensures.1 in
    (rw f (turns_more _ _ _ _ _ _ _ _ _ _ _ D (rw f at c.turn.ensures.0)), f, search rules, search rules)
