-- `first_at`: what the code reads is the first field of the layout.
use native.Mathlib.Nat.{add-zero}
use Rattle.xdr.specs.Layout.{fields}
use Rattle.runbytes.specs.Places.{run_at}
use Rattle.runbytes.proofs.first_at.Goals as goal

pub returns : goal.returns
unfolding run_at fields
returns c = rw (c.number_at.ensures.0, c.place.ensures, add-zero)
