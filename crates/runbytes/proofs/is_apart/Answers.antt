-- `is_apart`: the test is the rule, to the letter.
use Rattle.runs.proofs.Ages.{valid-exact}
use Rattle.runbytes.proofs.is_apart.Goals as goal

pub same-requires : goal.same-requires
same-requires c = (valid-exact _ c.requires.0, valid-exact _ c.requires.1)
