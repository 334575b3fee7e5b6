use lib.Dec.{lit<}
use Rattle.table.proofs.Reading.{field-read}
use Rattle.table.proofs.Records.number.Goals as goal

pub returns : goal.returns
returns c = (search (field-read 5 (lit< tt)), c.counter_at.ensures.1)
