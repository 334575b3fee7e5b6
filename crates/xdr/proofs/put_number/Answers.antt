-- `put_number`: a byte more is one step of `put_be`.
use Rattle.std.proofs.Common.{◌≡◌, arith, rules, refl}
use native.Mathlib.Numerals.{add-one}
use native.Mathlib.Nat.{sub_self, div-one}
use Rattle.std.proofs.lemmas.Grind.{and_numeral}
use Rattle.xdr.specs.Be.{put_be}
use Rattle.xdr.proofs.Powers.{put_more}
use Rattle.xdr.proofs.put_number.Goals as goal

pub loop-j-init : goal.loop-j-init
unfolding put_be
loop-j-init g c = search rules

pub loop-j-preserved : goal.loop-j-preserved
loop-j-preserved g c =
    rw (add-one, and_numeral _ 254 refl, c.loop-j.invariant)
    (put_more g.row.N c.loop-j.j c.args.s.now c.args.at c.args.v (omega arith))

pub returns : goal.returns
returns g c =
    let e : c.loop-j.j ≡ g.row.N = omega arith in
    rw (c.loop-j.invariant, e, sub_self, div-one)
