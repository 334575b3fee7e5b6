use Rattle.std.proofs.Common.{refl}
use Rattle.settle.proofs.Sweep.{nothing-wanted}
use Rattle.settle.proofs.revocations.Goals as goal

pub returns-in_default : goal.returns-in_default
returns-in_default c = (nothing-wanted _ _ _ _ c.args.t.now.shape c.in_default.ensures, refl, refl, refl)
