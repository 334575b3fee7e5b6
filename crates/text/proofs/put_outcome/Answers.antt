-- `put_outcome`: the line of one event more.
use Rattle.xdr.specs.Tab.{tab}
use Rattle.text.specs.Text.{events_text}
use Rattle.text.proofs.Writing.{wrote_none, wrote-event}
use Rattle.text.proofs.put_outcome.Goals as goal

pub loop-k-init : goal.loop-k-init
unfolding tab events_text
loop-k-init g c = wrote_none c.put_line.new.out.items

pub loop-k-preserved : goal.loop-k-preserved
loop-k-preserved g c = wrote-event _ _ c.loop-k.invariant c.put_event.ensures
