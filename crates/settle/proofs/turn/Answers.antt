use Rattle.std.proofs.Common.{refl}
use Rattle.settle.proofs.Granting.{good-moded, due-room}
use Rattle.settle.proofs.Turning.{turn-held, turn-blocked, turn-due}
use Rattle.settle.proofs.turn.Goals as goal
use Rattle.settle.proofs.turn.Goals.{then-state-ne-WAITING-via-then-state-ne-WAITING, then-state-ne-WAITING-via-else-state-ne-WAITING+then-blocked}

pub known-requires : goal.known-requires
known-requires c = good-moded _ _ c.requires.0

pub returns-then-state-ne-WAITING : goal.returns-then-state-ne-WAITING
returns-then-state-ne-WAITING c = (
  elim c.then-state-ne-WAITING.branch [
    | then-state-ne-WAITING-via-then-state-ne-WAITING w ↦ turn-held _ _ _ c.requires.0 c.requires.1 _ _ _ (rw c.records.ensures at c.state.ensures) w.if-state-ne-WAITING.true
    | then-state-ne-WAITING-via-else-state-ne-WAITING+then-blocked w ↦ turn-blocked _ _ _ c.requires.0 c.requires.1 _ (rw w.known.ensures.1 at w.blocked.ensures) _ _ w.if-blocked.true
  ],
  refl,
  refl,
  refl,
)

pub grant-requires : goal.grant-requires
grant-requires c =
    let D = turn-due _ _ _ c.requires.0 c.requires.1 _ (rw c.known.ensures.1 at c.blocked.ensures) _ _ (rw c.records.ensures at c.state.ensures) c.if-state-ne-WAITING.false c.if-blocked.false (rw c.records-2.ensures at c.lock-w.ensures.0) in
    (D, due-room _ _ _ _ D _ _ c.requires.2)
