-- `older`: the number decides, and at equal numbers the pass.
use native.Mathlib.Omega.{arith}
use mathlib.Core.Path.{◌≡◌}
use mathlib.Core.Bool.{true, ◌&&◌, cond}
use lib.Dec.{eqb, ltb}
use Rattle.std.proofs.lemmas.Grind.{common_steps}
use Rattle.runs.proofs.Ages.{older-pair}
use Rattle.runs.proofs.older.Goals as goal

pub returns : goal.returns
returns c =
    let e : c.lt.result ≡ cond (ltb c.args.a.number.0 c.args.b.number.0) true (eqb c.args.a.number.0 c.args.b.number.0 && ltb c.args.a.pass.0 c.args.b.pass.0) = grind (arith, common_steps) in
    let p = older-pair c.args.a c.args.b c.requires.0 c.requires.1 in
    cc
