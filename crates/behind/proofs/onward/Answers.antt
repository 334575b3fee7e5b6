-- `onward`: the tests of the byte and of the ages are those of the rule.
use Rattle.std.proofs.Common.{◌≡◌, true, false, arith}
use lib.Dec.{leb}
use Rattle.std.proofs.lemmas.Grind.{common_steps}
use Rattle.runs.specs.Ages.{value_of}
use Rattle.runs.specs.Owner.{age_of}
use Rattle.runs.proofs.Ages.{pass-exact, valid-exact}
use Rattle.common.specs.Ranges.{within}
use Rattle.common.proofs.Bools.{and-false}
use Rattle.behind.specs.Onward.{onward}
use Rattle.behind.proofs.onward.Goals.{else-contains-via-then-contains+else-not-older, else-contains-via-else-contains}
use Rattle.behind.proofs.onward.Goals as goal

pub older-requires : goal.older-requires
older-requires c = (valid-exact c.args.r c.requires, pass-exact c.args.piece.age c.args.piece.fits)

pub returns-then-not-older : goal.returns-then-not-older
unfolding onward
returns-then-not-older c =
    let w : c.contains.result ≡ within c.args.r.first c.args.b c.args.r.last = grind (arith, common_steps) in
    let e : leb (value_of c.args.piece.age) (age_of c.args.r) ≡ true = grind (arith, common_steps) in
    rw (← w, c.if-contains.true, e)

pub returns-else-contains : goal.returns-else-contains
unfolding onward
returns-else-contains c =
    let w : c.contains.result ≡ within c.args.r.first c.args.b c.args.r.last = grind (arith, common_steps) in
    elim c.else-contains.branch [
      | else-contains-via-then-contains+else-not-older v ↦
          let e : leb (value_of c.args.piece.age) (age_of c.args.r) ≡ false = grind (arith, common_steps) in
          rw (e, and-false)
      | else-contains-via-else-contains v ↦ rw (← w, v.if-contains.false)
    ]
