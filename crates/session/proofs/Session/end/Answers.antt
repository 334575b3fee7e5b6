-- `end` of a session: what the function of that name does with its buffers.
use Rattle.session.proofs.Session.end.Goals as goal

pub returns-clause-out : goal.returns-clause-out
returns-clause-out c = c.end.ensures.out
