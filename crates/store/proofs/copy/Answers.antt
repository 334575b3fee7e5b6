-- `copy`: a block more, and then what is left behind the blocks.
use Rattle.std.proofs.Common.{rules, ◌≡◌, ℕ, ◌+◌, ◌*◌, ◌/◌, length, refl, sym, ◌∙◌, arith}
use lib.Seq.{take_all}
use Rattle.store.proofs.Copying.{grown}
use Rattle.store.proofs.copy.Goals as goal

pub loop-k-init : goal.loop-k-init
loop-k-init c = refl

pub loop-k-preserved : goal.loop-k-preserved
loop-k-preserved c =
    let i = 16384 * c.loop-k.k in
    let e : 16384 * (c.loop-k.k + 1) ≡ 16384 * c.loop-k.k + 16384 = omega arith in
    rw (e, c.copy_from_slice.ensures.after) (grown i (i + 16384) c.loop-k.part c.args.bytes.now (omega arith) (omega arith) c.loop-k.invariant)

pub returns : goal.returns
returns c =
    let n = length c.args.bytes.now in
    let k : c.loop-k.k ≡ n / 16384 = omega arith in
    let l : length c.loop-k.part ≡ n = omega arith in
    sym (take_all n _ (search rules))
    ∙ rw (c.copy_bytes.ensures, l) (grown (16384 * (n / 16384)) n c.loop-k.part c.args.bytes.now (omega arith) (omega arith) (rw k at c.loop-k.invariant))
    ∙ take_all n c.args.bytes.now (omega arith)
