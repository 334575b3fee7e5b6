-- `is_none`: both numbers are 0 where the ℕ is.
use native.Mathlib.Omega.{arith}
use mathlib.Core.Bool.{◌&&◌}
use mathlib.Core.Path.{◌≡◌, ◌∙◌}
use lib.Dec.{eqb}
use Rattle.std.proofs.lemmas.Grind.{common_steps}
use Rattle.runs.specs.Ages.{age}
use Rattle.runs.proofs.Ages.{none-pair}
use Rattle.runs.proofs.is_none.Goals as goal

pub returns : goal.returns
unfolding age
returns c =
    let e : c.eq.result ≡ (eqb c.args.a.number.0 0 && eqb c.args.a.pass.0 0) = grind (arith, common_steps, c.none.ensures) in
    e ∙ none-pair c.args.a
