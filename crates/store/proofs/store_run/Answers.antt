-- `store_run`: the part that it lends on and the piece's part are the stretch of the piece that lies in the run.
use Rattle.std.proofs.Common.{◌≡◌, ◌+◌, ◌-◌, min, length, arith, sym, ◌∙◌}
use borrow.Author.Tests.{eqb-true, eqb-false}
use Rattle.std.proofs.lemmas.Grind.{common_steps}
use Rattle.runs.specs.Ages.{value_of}
use Rattle.runs.proofs.Ages.{pass-exact, valid-exact}
use Rattle.stripe.proofs.Stretch.{run-still, run-stretch}
use Rattle.store.proofs.store_run.Goals as goal

pub same-requires : goal.same-requires
same-requires c = (valid-exact c.args.r c.requires.1, pass-exact c.args.piece.age c.args.piece.fits)

pub returns-then-same : goal.returns-then-same
returns-then-same c =
    let a = c.args in
    let f : c.min-from.result ≡ min (a.r.first - a.piece.first) (length a.bytes.now) = grind (arith, common_steps) in
    let t : c.min-to.result ≡ min (a.r.last + 1 - a.piece.first) (length a.bytes.now) = grind (arith, common_steps) in
    rw c.copy.ensures
    (run-stretch a.r (value_of a.piece.age) a.piece.first a.bytes.now a.part.now a.piece.granted _ _ f t c.requires.1.rising
    (eqb-true _ _ (sym c.same.ensures ∙ c.if-same.true)) c.requires.0)

pub returns-else-same : goal.returns-else-same
returns-else-same c =
    let a = c.args in
    run-still a.r (value_of a.piece.age) a.piece.first a.bytes.now a.part.now a.piece.granted (eqb-false _ _ (sym c.same.ensures ∙ c.if-same.false))
