-- `put_run`: its four stores are those of the layout.
use native.Mathlib.Nat.{add-zero}
use Rattle.xdr.specs.Layout.{put_fields}
use Rattle.runbytes.proofs.put_run.Goals as goal

pub returns : goal.returns
unfolding put_fields
returns c = rw (c.put_number-3.ensures, c.put_counter.ensures, c.put_number-2.ensures, c.put_number.ensures, c.place-at.ensures, add-zero)
