use Rattle.std.proofs.Common.{rules, tests, refl}
use Rattle.settle.proofs.Waiting.{found-first}
use Rattle.settle.proofs.first_waiting.Goals as goal

pub returns : goal.returns
returns c = found-first _ _ c.args.t.now.shape _ _ _ _ _ c.find.ensures.ran refl (λ i b q e. search (rules, tests))
