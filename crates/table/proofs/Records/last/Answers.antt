use lib.Dec.{lit<}
use Rattle.table.proofs.Reading.{field-read}
use Rattle.table.proofs.Records.last.Goals as goal

pub returns : goal.returns
returns c = search (field-read 7 (lit< tt))
