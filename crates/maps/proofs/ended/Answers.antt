-- `ended`: a run ends before the next starts.
use Rattle.maps.proofs.Untouched.{begun-ended}
use Rattle.maps.proofs.ended.Goals as goal

pub returns : goal.returns
returns c = rw c.saturating_sub.ensures (begun-ended c.args.map.now.bytes.now c.args.x _ c.args.map.now.sound c.begun.ensures)
