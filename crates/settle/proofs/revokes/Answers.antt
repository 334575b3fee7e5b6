use Rattle.std.proofs.Common.{rules, refl}
use Rattle.settle.proofs.Written.{did-long}
use Rattle.settle.proofs.Sweep.{sofar-none, sofar-moded, sofar-past, sofar-room, sofar-more, sofar-end}
use Rattle.settle.proofs.revokes.Goals as goal

pub loop-i-init : goal.loop-i-init
loop-i-init c = (sofar-none _ _ c.args.t.now.shape _ _, refl, refl, refl)

pub revoke-requires : goal.revoke-requires
revoke-requires c =
    let S = c.args.t.now.shape in
    let e = c.loop-i.invariant.1 in
    let D = rw e at c.loop-i.invariant.0 in
    rw e (sofar-moded _ _ S _ _ _ _ _ _ D c.requires.0.modes, sofar-past _ _ S _ _ _ _ _ _ D _ c.requires.1, c.loop-i-test.true, sofar-room _ _ S _ _ _ _ _ _ D c.loop-i-test.true _ (did-long _ _ _ _ _ _ _ D) c.requires.2)

pub loop-i-preserved : goal.loop-i-preserved
loop-i-preserved c =
    let e = c.loop-i.invariant.1 in
    let D = rw e at c.loop-i.invariant.0 in
    let f = rw e at c.revoke.ensures.1 in
    (rw f (sofar-more _ _ c.args.t.now.shape _ _ _ _ _ _ D c.loop-i-test.true _ _ _ (rw f at c.revoke.ensures.0)), f, search rules, search rules)

pub returns : goal.returns
returns c =
    let e = c.loop-i.invariant.1 in
    let D = rw e at c.loop-i.invariant.0 in
    (rw e (sofar-end _ _ c.args.t.now.shape _ _ _ _ _ _ (search rules) D), e, search rules, search rules)
