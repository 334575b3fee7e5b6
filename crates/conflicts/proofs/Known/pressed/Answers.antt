use Rattle.std.proofs.Common.{rules, tests, refl}
use Rattle.table.specs.Places.{lock_at}
use Rattle.conflicts.proofs.Tests.{none-press}
use Rattle.conflicts.proofs.Asking.{asked_from}
use Rattle.conflicts.proofs.Known.pressed.Goals as goal

pub returns : goal.returns
returns c = asked_from _ _ c.args.self.now.moded.shape _ _ _ _ _ c.any.ensures.ran refl (none-press _ _ _ (lock_at c.args.self.now.records.bytes.now c.args.i) c.requires.0) (λ j b q e. search (rules, tests))
