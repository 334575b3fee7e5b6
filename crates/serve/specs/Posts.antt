-- What the functions of serving promise each other and their callers. No public contract of the store cites this file.
use Rattle.std.specs.Prelude.{ℕ, ◌+◌, ◌≡◌, not, List, T, eqb, length, Result, Ok, Err, OnErr}
use Rattle.common.specs.declared.Refusal.{Refusal}
use Rattle.common.specs.Counters.{width}
use Rattle.common.specs.Refusals.{refusal_number}
use Rattle.table.specs.Table.{Table, max_records}
use Rattle.table.specs.declared.Table as lent
use Rattle.table.specs.Bytes.{table_of}
use Rattle.table.specs.Places.{Holds, Good}
use Rattle.locks.specs.declared.Message.{Message}
use Rattle.locks.specs.Settle.{settle}
use Rattle.locks.specs.Serve.{Outcome, accepted, serve}
use Rattle.locks.specs.Events.{Room}
use Rattle.settle.specs.declared.Events.{Events}
use Rattle.settle.specs.Posts.{put_events}
use Rattle.serve.specs.declared.Accepted.{Accepted}
use Rattle.serve.specs.declared.Answer.{Answer}
use Rattle.serve.specs.Leaves.{Leaves}

-- "A refused call returns its number with handle 0 and event count 0": the three numbers that C is answered
abbrev pub answer_to : Result Accepted Refusal → Answer
answer_to (Ok a) = record { refusal = 0; handle = a.handle.0; events = a.events }
answer_to (Err r) = record { refusal = refusal_number r; handle = 0; events = 0 }

-- the message m is served, on a sound table
abbrev pub OnSound : Message → List ℕ → List ℕ → Answer → List ℕ → List ℕ → Type 0
OnSound m t b r u c = Leaves (serve (table_of width t) m) t b r u c

-- the changed table X is settled, and the handle h answered; how its bytes stood before does not matter
abbrev pub Ends : ℕ → Table → List ℕ → Answer → List ℕ → List ℕ → Type 0
Ends h X b r u c = Leaves (accepted h (settle X)) u b r u c

-- the answer r, and the bytes u of the table and c of the events' buffer, which were t and b, are those of the outcome o; its events stand behind
-- j others, so that there are k, and their count is not stored
pub record Behind (j : ℕ) (o : Outcome) (t b : List ℕ) (r : Answer) (k : ℕ) (u c : List ℕ) : Type 0 where
  pub answer : r ≡ record { refusal = o.refusal; handle = o.handle; events = length o.events }
  pub same : T (not (eqb o.refusal 0)) → u ≡ t
  pub table : T (eqb o.refusal 0) → Holds (length o.table.locks) o.table u
  pub events : c ≡ put_events b j o.events
  pub count : k ≡ j + length o.events

-- the changed table X is settled behind j events, and the handle h answered
abbrev pub EndsBehind : ℕ → ℕ → Table → List ℕ → Answer → ℕ → List ℕ → List ℕ → Type 0
EndsBehind j h X b r k u c = Behind j (accepted h (settle X)) u b r k u c

-- the lent table t is sound, and the buffer e, in which no events stand, has room for those of any call
abbrev pub Lent : lent.Table → Events → Type 0
Lent t e = Good t.n t.bytes.now × (e.k ≡ 0) × Room max_records e.bytes.now

-- what was lent is still lent: a struct's bytes are those that it was made of
abbrev pub StillLent : lent.Table → Events → lent.Table → Events → Type 0
StillLent t e u f = (u.bytes.ghost_name ≡ t.bytes.ghost_name) × (f.bytes.ghost_name ≡ e.bytes.ghost_name)

-- the message m is served on the table t and the buffer e, which become u and f, and r is answered; refused, it leaves none of its events
abbrev pub Gives : Message → lent.Table → Events → Result Accepted Refusal → lent.Table → Events → Type 0
Gives m t e r u f = OnSound m t.bytes.now e.bytes.now (answer_to r) u.bytes.now f.bytes.now × StillLent t e u f × OnErr r (f.k ≡ e.k)
