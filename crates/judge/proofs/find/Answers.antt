-- `find`: what the search over the places answers.
use Rattle.std.proofs.Common.{rules, ◌≡◌}
use Rattle.std.proofs.lemmas.Iterator.{first_from_Range}
use mathlib.Core.Logic.{◌≢◌}
use borrow.Author.Tests.{tests}
use Rattle.table.specs.Table.{handle_of}
use Rattle.table.specs.Places.{lock_at}
use Rattle.judge.proofs.Finding.{first-has}
use Rattle.judge.proofs.find.Goals as goal

pub returns : goal.returns
returns c =
    let t = c.args.t.now.records.bytes.now in
    first-has c.args.t.now.n c.args.h.0 t c.args.t.now.shape c.find.result
    (first_from_Range _ _ _ c.find.result (λ i. handle_of (lock_at t i) ≡ c.args.h.0) (λ i. handle_of (lock_at t i) ≢ c.args.h.0) c.find.ensures.ran (λ x q k. search (rules, tests)) (λ x q k. search (rules, tests)))
