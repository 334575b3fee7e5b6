use Rattle.std.proofs.Common.{rules}
use Rattle.settle.proofs.Revoking.{ask-did}
use Rattle.settle.proofs.ask.Goals as goal

pub returns : goal.returns
returns c = (rw (c.put_lock.ensures.1, c.put.ensures.1) (ask-did _ _ _ _ _ c.requires.0 c.remade-q.ensures _ _ _ _ (rw c.put_lock.ensures.1 at c.put_lock.ensures.0) c.put.ensures.0), search rules, search rules, search rules)
