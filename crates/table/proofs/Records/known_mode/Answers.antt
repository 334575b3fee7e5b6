use Rattle.table.proofs.Known.{mode-byte}
use Rattle.table.proofs.Records.known_mode.Goals as goal

pub returns : goal.returns
returns c = mode-byte _ _ _ _ c.requires.0 c.requires.1 c.place.ensures
