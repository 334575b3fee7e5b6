-- `age_at`: what the code reads is the third field of the layout, and the pass behind it; 4 bytes hold no pass above the highest.
use native.Mathlib.Omega.{arith}
use Rattle.xdr.specs.Layout.{fields}
use Rattle.runbytes.specs.Places.{run_at}
use Rattle.runbytes.proofs.age_at.Goals as goal

pub returns : goal.returns
unfolding run_at fields
returns c = (rw (c.counter_at.ensures.0, c.number_at.ensures.0, c.place-at.ensures), omega (arith, c.number_at.ensures.1))
