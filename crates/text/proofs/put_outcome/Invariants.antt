-- `put_outcome`: after k turns the lines of the first k events stand behind the answer's line.
use Rattle.std.proofs.Common.{◌*◌}
use Rattle.text.specs.Text.{events_text, line_size}
use Rattle.text.specs.Buffers.{Wrote, events_in}
use Rattle.text.proofs.put_outcome.Given as goal

abbrev pub invariant-loop-k : goal.invariant-loop-k
invariant-loop-k g l = Wrote (line_size 8 * l.k) l.initial.out.items l.out.items (events_text (events_in l.events l.k))
