-- `cross`: the bytes before, inside and after the piece.
use borrow.Author.Rules.{rules}
use Rattle.runs.proofs.Ages.{is-exact, valid-exact}
use Rattle.maps.proofs.Raising.{cross-went}
use Rattle.maps.proofs.cross.Goals as goal

pub later-requires : goal.later-requires
later-requires c = search (rules, valid-exact)

pub push-requires-2 : goal.push-requires-2
push-requires-2 c = is-exact _ _ c.later.ensures

pub returns-clause-went : goal.returns-clause-went
returns-clause-went c =
    cross-went _ _ _ _ _ _ _ _ _ _ _ _ _ c.args.piece c.requires.1 c.min.ensures c.min-2.ensures c.later.ensures c.push.ensures.went c.push-2.ensures.went c.push-3.ensures.went
