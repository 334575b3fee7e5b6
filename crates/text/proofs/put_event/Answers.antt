-- `put_event`: the line of the numbers that stand in the event's bytes.
use Rattle.locks.specs.Events.{event_place}
use Rattle.text.proofs.Events.{event-line}
use Rattle.text.proofs.put_event.Goals as goal

pub returns : goal.returns
returns g c =
    event-line c.args.events.now (event_place c.args.k) _ _ c.number_at-kind.ensures.0 c.shown_at-l.ensures.0 (rw c.letter_of.ensures at c.put_line.ensures)
