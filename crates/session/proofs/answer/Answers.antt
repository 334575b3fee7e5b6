-- `answer`: the entry's events stand in the event buffer, and the lines of the answer are put from there.
use Rattle.std.proofs.Common.{arith, refl}
use Rattle.session.proofs.Serving.{counted, answered-good}
use Rattle.session.proofs.answer.Goals as goal

pub put_outcome-requires : goal.put_outcome-requires
put_outcome-requires g c =
    let h = c.requires.0 in
    let n = counted _ _ _ h.sound h.event_room c.call-a.ensures in
    rw c.clear.ensures (omega (arith, h))

pub returns-in-Some : goal.returns-in-Some
returns-in-Some g c =
    let h = c.requires.0 in
    rw c.in-Some.is (answered-good _ _ _ h.sound h.event_room c.call-a.ensures refl (rw c.clear.ensures at c.put_outcome.ensures))
