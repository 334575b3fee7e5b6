-- `draw_run`: the gap before the run has the age of no run, and the run its own.
use Rattle.runs.proofs.Ages.{is-exact, valid-exact}
use Rattle.maps.proofs.Raising.{run-went}
use Rattle.maps.proofs.draw_run.Goals as goal

pub span-requires : goal.span-requires
span-requires c = (is-exact _ _ c.none.ensures, c.requires.1)

pub span-requires-2 : goal.span-requires-2
span-requires-2 c = (valid-exact _ c.requires.0, c.requires.1)

pub returns-clause-went : goal.returns-clause-went
returns-clause-went c = search run-went
