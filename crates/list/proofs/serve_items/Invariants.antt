use Rattle.serve.specs.Posts.{StillLent}
use Rattle.list.proofs.Going.{State}
use Rattle.list.proofs.serve_items.Given as goal

abbrev pub invariant-loop-i : goal.invariant-loop-i
invariant-loop-i l =
    State l.initial.e.k l.initial.items l.initial.t.bytes.now l.initial.e.bytes.now l.i l.e.k l.items l.t.bytes.now l.e.bytes.now × StillLent l.initial.t l.initial.e l.t l.e
