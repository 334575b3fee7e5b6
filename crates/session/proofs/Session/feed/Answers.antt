-- `feed` of a session: what the function of that name does with its buffers.
use Rattle.session.proofs.Session.feed.Goals as goal

pub returns : goal.returns
returns c = c.feed.ensures
