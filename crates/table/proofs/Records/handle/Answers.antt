use lib.Dec.{lit<}
use Rattle.table.proofs.Reading.{field-read}
use Rattle.table.proofs.Records.handle.Goals as goal

pub returns : goal.returns
returns c = search (field-read 0 (lit< tt))
