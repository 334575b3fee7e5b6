-- `put_line`: letter, numbers and break stand one behind the other, and there is room for each.
use Rattle.std.proofs.Common.{arith}
use lib.ListN.{get_or}
use Rattle.text.proofs.Decimal.{at-most-20}
use Rattle.text.proofs.Writing.{fitting, wrote_length, line-start, line-next, line-end}
use Rattle.text.proofs.put_line.Goals as goal

pub loop-n-init : goal.loop-n-init
loop-n-init g c = line-start _ _ c.push.ensures.items

pub put_number-requires : goal.put_number-requires
put_number-requires g c =
    omega (arith, wrote_length c.loop-n.invariant, c.push-in-loop-n.ensures.len, at-most-20 (get_or c.args.numbers.now c.loop-n.n-index 0))

pub loop-n-preserved : goal.loop-n-preserved
loop-n-preserved g c = line-next _ c.args.numbers.now _ c.loop-n.invariant c.loop-n-test.true c.push-in-loop-n.ensures.items c.put_number.ensures

pub returns : goal.returns
returns g c =
    let t = c.try_extend_from_slice in
    line-end _ c.args.numbers.now _ c.loop-n.invariant (omega arith) (omega arith) (fitting t.result t.ensures.variant t.ensures.ok (omega (arith, wrote_length c.loop-n.invariant)))
