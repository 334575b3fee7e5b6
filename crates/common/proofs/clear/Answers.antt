-- `clear`: zeros from a place on.
use Rattle.common.proofs.Blank.{filled-cleared}
use Rattle.common.proofs.clear.Goals as goal

pub returns : goal.returns
returns c = filled-cleared _ _ _ _ c.min-from.ensures (c.fill.ensures.after (λ y e. e))
