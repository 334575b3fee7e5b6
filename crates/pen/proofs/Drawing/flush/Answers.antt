-- `flush`: no run at the age of no run, a count alone past the room, and else one run at place k.
use Rattle.pen.proofs.Steps.{flush-none, flush-one}
use Rattle.pen.proofs.Drawing.flush.Goals as goal

pub returns-then-is_none-clause-stored : goal.returns-then-is_none-clause-stored
returns-then-is_none-clause-stored c = search flush-none

pub returns-clause-stored : goal.returns-clause-stored
returns-clause-stored c = search flush-one
