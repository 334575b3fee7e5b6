use Rattle.table.proofs.Reading.{lock-read, lock-read-fits}
use Rattle.table.proofs.Records.lock.Goals as goal

pub returns : goal.returns
returns c = (search lock-read, search lock-read-fits)
