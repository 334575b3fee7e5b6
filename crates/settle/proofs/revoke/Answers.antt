use Rattle.std.proofs.Common.{refl}
use Rattle.settle.proofs.Revoking.{revoke-other, revoke-free, revoke-wanted, revoke-room}
use Rattle.settle.proofs.revoke.Goals as goal
use Rattle.settle.proofs.revoke.Goals.{then-state-ne-GRANTED-via-then-state-ne-GRANTED, then-state-ne-GRANTED-via-else-state-ne-GRANTED+then-not-pressed}

pub returns-then-state-ne-GRANTED : goal.returns-then-state-ne-GRANTED
returns-then-state-ne-GRANTED c = (
  elim c.then-state-ne-GRANTED.branch [
    | then-state-ne-GRANTED-via-then-state-ne-GRANTED w ↦ revoke-other _ _ _ c.args.t.now.shape c.requires.2 _ _ _ (rw c.records.ensures at c.state.ensures) w.if-state-ne-GRANTED.true
    | then-state-ne-GRANTED-via-else-state-ne-GRANTED+then-not-pressed w ↦ revoke-free _ _ _ c.args.t.now.shape c.requires.2 _ (rw w.known.ensures.1 at w.pressed.ensures) _ _ w.if-not-pressed.true
  ],
  refl,
  refl,
  refl,
)

pub ask-requires : goal.ask-requires
ask-requires c =
    let W = revoke-wanted _ _ _ c.args.t.now.shape c.requires.2 _ (rw c.known.ensures.1 at c.pressed.ensures) _ _ (rw c.records.ensures at c.state.ensures) c.if-state-ne-GRANTED.false c.if-not-pressed.false (rw c.records-2.ensures at c.lock-r.ensures.0) c.lock-r.ensures.1 in
    (W, revoke-room _ _ _ _ _ _ W c.requires.3)
