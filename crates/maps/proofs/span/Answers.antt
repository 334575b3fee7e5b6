-- `span`: all of it is before the piece, or after it, or it crosses the piece.
use native.Mathlib.Omega.{arith}
use Rattle.std.proofs.lemmas.Grind.{common_steps}
use Rattle.maps.proofs.Raising.{span-before, span-after}
use Rattle.maps.proofs.span.Goals as goal
use Rattle.maps.proofs.span.Goals.{then-q-piece, else-q-piece}

pub returns-then-piece-d-clause-went : goal.returns-then-piece-d-clause-went
returns-then-piece-d-clause-went c = elim c.if-q-piece.branch [
  | then-q-piece w ↦ span-before _ _ _ _ _ _ _ c.push.ensures.went w.if-q-piece.true
  | else-q-piece w ↦ span-after _ _ _ _ _ _ _ c.push.ensures.went (grind (arith, common_steps, w.value-is, c.if-piece-d.true))
]
