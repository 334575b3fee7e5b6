-- `none`: the age of the ℕ 0.
use mathlib.Core.Path.{refl}
use Rattle.runs.specs.Ages.{age}
use Rattle.runs.proofs.none.Goals as goal

pub returns : goal.returns
unfolding age
returns c = refl
