-- `run_at`: the run is its three fields.
use Rattle.runbytes.proofs.run_at.Goals as goal

pub returns : goal.returns
returns c = (rw (c.first_at.ensures, c.last_at.ensures, c.age_at.ensures.0), c.age_at.ensures.1)
