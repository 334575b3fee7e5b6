use mathlib.Core.Path.{sym, ◌∙◌}
use Rattle.table.proofs.Reading.{last-at}
use Rattle.table.proofs.Records.last_of.Goals as goal

pub returns : goal.returns
returns c = (c.counter_at.ensures.0 ∙ sym (last-at c.args.self.now.bytes.now c.args.s c.requires), c.counter_at.ensures.1)
