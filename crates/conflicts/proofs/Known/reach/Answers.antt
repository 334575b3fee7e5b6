use Rattle.std.proofs.Common.{rules, tests, refl}
use Rattle.conflicts.proofs.Widths.{reached}
use Rattle.conflicts.proofs.Known.reach.Goals as goal

pub returns : goal.returns
returns c = reached _ _ c.args.self.now.moded.shape _ _ _ _ c.fold.ensures.ran refl (λ m j a q e. search (rules, tests))
