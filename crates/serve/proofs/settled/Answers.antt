-- `settled`: what it answers is how many events the settling gave.
use Rattle.serve.proofs.Behind.{behind-settled}
use Rattle.serve.proofs.settled.Goals as goal

pub returns : goal.returns
returns c = (behind-settled _ c.args.e.now.k c.args.h _ _ _ _ _ c.settle.ensures.0, ((cc), (cc)))
