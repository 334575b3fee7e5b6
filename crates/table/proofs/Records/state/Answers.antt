use lib.Dec.{lit<}
use Rattle.table.proofs.Reading.{field-read}
use Rattle.table.proofs.Records.state.Goals as goal

pub returns : goal.returns
returns c = search (field-read 4 (lit< tt))
