use lib.Dec.{lit<}
use Rattle.table.proofs.Reading.{field-read}
use Rattle.table.proofs.Records.mode.Goals as goal

pub returns : goal.returns
returns c = search (field-read 3 (lit< tt))
