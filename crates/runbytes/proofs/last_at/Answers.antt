-- `last_at`: what the code reads is the second field of the layout.
use Rattle.xdr.specs.Layout.{fields}
use Rattle.runbytes.specs.Places.{run_at}
use Rattle.runbytes.proofs.last_at.Goals as goal

pub returns : goal.returns
unfolding run_at fields
returns c = rw (c.number_at.ensures.0, c.place.ensures)
