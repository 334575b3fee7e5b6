use Rattle.std.proofs.Common.{rules, refl}
use Rattle.settle.proofs.Written.{event-put}
use Rattle.settle.proofs.Events.put.Goals as goal

pub returns : goal.returns
returns c = (event-put _ _ _ _ _ _ c.args.l c.put_number.ensures (search rules) c.put_shown.ensures, refl, search rules)
