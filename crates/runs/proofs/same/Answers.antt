-- `same`: two ages are one where number and pass are.
use native.Mathlib.Omega.{arith}
use mathlib.Core.Bool.{◌&&◌}
use mathlib.Core.Path.{◌≡◌, ◌∙◌}
use lib.Dec.{eqb}
use Rattle.std.proofs.lemmas.Grind.{common_steps}
use Rattle.runs.proofs.Ages.{same-pair}
use Rattle.runs.proofs.same.Goals as goal

pub returns : goal.returns
returns c =
    let e : c.eq.result ≡ (eqb c.args.a.number.0 c.args.b.number.0 && eqb c.args.a.pass.0 c.args.b.pass.0) = grind (arith, common_steps) in
    e ∙ same-pair c.args.a c.args.b c.requires.0 c.requires.1
