use Rattle.std.proofs.Common.{rules, tests, refl}
use Rattle.conflicts.proofs.Asking.{asked_from}
use Rattle.conflicts.proofs.Known.hurried.Goals as goal

pub returns : goal.returns
returns c = asked_from _ _ c.args.self.now.moded.shape _ _ _ _ _ c.any.ensures.ran refl (c.requires.1) (λ j b q e. search (rules, tests))
