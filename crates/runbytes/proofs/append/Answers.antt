-- `append`: the two stores are those of `appended`.
use Rattle.runs.specs.Bytes.{appended}
use Rattle.runbytes.proofs.append.Goals as goal

pub returns : goal.returns
unfolding appended
returns c = rw (c.put_count.ensures, c.put_run.ensures, c.count-n.ensures.0)
