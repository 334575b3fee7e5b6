use Rattle.std.proofs.Common.{rules, arith}
use Rattle.settle.proofs.Written.{did-long}
use Rattle.settle.proofs.Settling.{told, settle-moded, left-told, settle-done}
use Rattle.settle.proofs.settle.Goals as goal

pub grants-requires : goal.grants-requires
grants-requires c = (c.requires.0, omega (arith, told _ _ c.requires.0, c.requires.1))

pub revocations-requires : goal.revocations-requires
revocations-requires c =
    let e = c.grants.ensures.1 in
    let D = rw e at c.grants.ensures.0 in (
      rw e (settle-moded _ _ c.requires.0 _ _ _ _ _ D),
      omega (arith, told _ _ c.requires.0, left-told _ _ c.requires.0 _ _ _ _ _ D, did-long _ _ _ _ _ _ _ D, D.count, c.requires.1),
    )

pub returns : goal.returns
returns c =
    let D = rw c.grants.ensures.1 at c.grants.ensures.0 in
    let e = rw c.grants.ensures.1 at c.revocations.ensures.1 in
    (rw e (settle-done _ _ c.requires.0 _ _ _ _ _ D _ _ _ (rw e at c.revocations.ensures.0)), e, search rules, search rules)
