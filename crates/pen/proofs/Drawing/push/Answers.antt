-- `push`: the age stays, or it turns and what was pending is stored.
use Rattle.pen.proofs.Steps.{push-new}
use Rattle.pen.proofs.Drawing.push.Goals as goal

pub returns : goal.returns
returns c = search push-new
