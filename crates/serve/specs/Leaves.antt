-- What a call of the lock table leaves, on bytes.
use Rattle.std.specs.Prelude.{ℕ, ◌≡◌, not, cond, List, T, eqb, length}
use Rattle.common.specs.Counters.{width}
use Rattle.table.specs.Places.{Holds}
use Rattle.locks.specs.Serve.{Outcome}
use Rattle.locks.specs.Events.{events_over}
use Rattle.serve.specs.declared.Answer.{Answer}

-- the answer r, and the bytes u of the table and c of the events' buffer, which were t and b, are those of the outcome o
pub record Leaves (o : Outcome) (t b : List ℕ) (r : Answer) (u c : List ℕ) : Type 0 where
  pub answer : r ≡ record { refusal = o.refusal; handle = o.handle; events = length o.events }
  pub same : T (not (eqb o.refusal 0)) → u ≡ t
  pub table : T (eqb o.refusal 0) → Holds (length o.table.locks) o.table u
  pub events : c ≡ cond (eqb o.refusal 0) (events_over width b o.events) b
