use Rattle.std.proofs.Common.{rules}
use Rattle.settle.proofs.Granting.{due-stripe, due-number, due-moded, due-here, due-first, granted-fits, due-did}
use Rattle.settle.proofs.grant.Goals as goal

pub take_number-v-requires : goal.take_number-v-requires
take_number-v-requires c = search (due-stripe, due-number)

pub known-requires : goal.known-requires
known-requires c = rw c.take_number-v.ensures.1 (due-moded _ _ _ _ c.requires.0 _ _ (rw c.take_number-v.ensures.1 at c.take_number-v.ensures.0))

pub granted-g-requires : goal.granted-g-requires
granted-g-requires c =
    let K = rw c.take_number-v.ensures.1 at c.take_number-v.ensures.0 in
    rw (c.known.ensures.0, c.known.ensures.1, c.take_number-v.ensures.1) (c.requires.0.place, due-here _ _ _ _ c.requires.0 _ _ K, due-first _ _ _ _ c.requires.0 _ _ K)

pub put_lock-requires : goal.put_lock-requires
put_lock-requires c =
    let K = rw c.take_number-v.ensures.1 at c.take_number-v.ensures.0 in
    rw c.take_number-v.ensures.1 (c.requires.0.place, granted-fits _ _ _ _ c.requires.0 _ _ K _ (rw c.known.ensures.1 at c.granted-g.ensures))

pub returns : goal.returns
returns c =
    let K = rw c.take_number-v.ensures.1 at c.take_number-v.ensures.0 in (
      rw (c.put_lock.ensures.1, c.take_number-v.ensures.1, c.put.ensures.1)
          (due-did _ _ _ _ c.requires.0 _ _ K _ (rw c.known.ensures.1 at c.granted-g.ensures) _ _ _ _ (rw (c.put_lock.ensures.1, c.take_number-v.ensures.1) at c.put_lock.ensures.0) c.put.ensures.0),
      search rules,
      search rules,
      search rules,
    )
