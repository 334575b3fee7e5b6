-- `copy_bytes`: a byte more, and at the end all are copied.
use Rattle.std.proofs.Common.{refl, sym, ◌∙◌, arith}
use native.Mathlib.Numerals.{add-one}
use lib.Seq.{take_all, take-suc, take-suc-set}
use Rattle.store.proofs.copy_bytes.Goals as goal

pub loop-i-init : goal.loop-i-init
loop-i-init c = refl

pub loop-i-preserved : goal.loop-i-preserved
loop-i-preserved c =
    let i = c.loop-i.i in
    rw (add-one, take-suc-set c.loop-i.part i _ (omega arith), take-suc c.args.bytes.now i 0 (omega arith), c.loop-i.invariant)

pub returns : goal.returns
returns c =
    let i = c.loop-i.i in
    sym (take_all i c.loop-i.part (omega arith)) ∙ c.loop-i.invariant ∙ take_all i c.args.bytes.now (omega arith)
