-- NOBODY IS OVERTAKEN, and nobody starves. A request waits only for records that were there before it; once these let it pass it is granted, in that very
-- call. "A handle is taken by each accepted request", so what was there before has a smaller handle.
use Rattle.std.specs.Prelude.{ℕ, ◌≤◌, ◌<◌, ◌≡◌, not, List, T, length, replicate}
use Rattle.common.specs.Counters.{width}
use Rattle.table.specs.declared.Lock.{Lock}
use Rattle.table.specs.Table.{handle_of, waits, held}
use Rattle.table.specs.Bytes.{table_size, locks_of}
use Rattle.locks.specs.declared.Item.{Item}
use Rattle.locks.specs.declared.Message.{Message}
use Rattle.locks.specs.Conflicts.{obstacle}
use Rattle.locks.specs.Settle.{Event}
use Rattle.locks.specs.Events.{events_size}
use Rattle.locks.specs.List.{max_items, list_events_size}
use Rattle.serve.specs.declared.Answer.{Answer}
use Rattle.message.specs.Messages.{outcome, Serves}
use Rattle.list.specs.Lists.{list_outcome, ServesList}
use Rattle.promises.specs.Among.{Among}
use Rattle.promises.specs.Session.{Session}

-- The records that the table's bytes say
abbrev pub records : List ℕ → List Lock
records t = locks_of width t

-- A waiting request w of the bytes t that stands in the bytes u as v, with no record of a smaller handle in its way, is granted by one of the events
abbrev pub GrantedAmong : List ℕ → List ℕ → List Event → Type 0
GrantedAmong t u es =
    (w v : Lock) → Among w (records t) → T (waits w) → Among v (records u) → handle_of v ≡ handle_of w
    → ((r : Lock) → Among r (records u) → handle_of r < handle_of w → T (not (obstacle w r)))
    → (e : Event) × Among e es × (e.kind ≡ 1) × (handle_of e.lock ≡ handle_of w)

-- Of the bytes t that a session leaves, and of any message or list that comes next
pub record Orderly (t : List ℕ) : Type 0 where
  -- every obstacle of a waiting request has a smaller handle than it
  pub obstacles : (w r : Lock) → Among w (records t) → Among r (records t) → T (waits w) → T (obstacle w r) → handle_of r < handle_of w
  -- so the record with the smallest handle never waits
  pub first : (w : Lock) → Among w (records t) → ((r : Lock) → Among r (records t) → handle_of w ≤ handle_of r) → T (held w)
  -- a waiting request that a call finds, and leaves in the table with no record of a smaller handle in its way, is granted by that very call
  pub granted :
      (m : Message) (b : List ℕ) (a : Answer) (u c : List ℕ) → events_size width ≤ length b → Serves m t b a u c
      → GrantedAmong t u (outcome m t b).events
  pub granted-list :
      (xs : List Item) (b : List ℕ) (a : Answer) (ys : List Item) (u c : List ℕ) → length xs ≤ max_items → list_events_size width ≤ length b
      → ServesList xs t b a ys u c → GrantedAmong t u (list_outcome xs t b).events

abbrev pub NoneOvertaken : Type 0
NoneOvertaken = (ms : List Message) (es : List Event) (t : List ℕ) → Session (replicate (table_size width) 0) ms es t → Orderly t
