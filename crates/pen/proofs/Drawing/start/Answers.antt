-- `start`: the fresh pen is fine.
use Rattle.pen.proofs.Steps.{fresh-fine}
use Rattle.pen.proofs.Drawing.start.Goals as goal

pub invariant_of-result : goal.invariant_of-result
invariant_of-result c = record { fine = rw c.none.ensures fresh-fine }
