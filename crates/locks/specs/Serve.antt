-- Serving a call on a sound table, and one message.
use Rattle.std.specs.Prelude.{ℕ, ◌+◌, Bool, not, cond, List, [], ◌∷◌, ◌++◌, map, eqb}
use Rattle.common.specs.Counters.{handle, number}
use Rattle.common.specs.Refusals.{Rule, first_hit}
use Rattle.common.specs.Tests.{keep}
use Rattle.modes.specs.Codes.{waiting, canceling, nbw}
use Rattle.table.specs.declared.Lock.{Lock}
use Rattle.table.specs.Table.{Table, number_of, remade}
use Rattle.table.specs.Places.{with_locks}
use Rattle.locks.specs.declared.Message.{Message}
use Rattle.locks.specs.declared.Message.TheVariants.{Request, Acknowledge, Downgrade, Release}
use Rattle.locks.specs.Settle.{Event, Settled, settle, in_state}
use Rattle.locks.specs.Refusals.{named, may_acknowledge, may_downgrade, rules}

-- A new record, which waits; its mark is 1 where the request is marked
abbrev pub asking : ℕ → ℕ → ℕ → ℕ → ℕ → ℕ → Bool → Lock
asking h c s m f l k =
    record {
      handle = handle h;
      client = c;
      stripe = s;
      mode = m;
      state = waiting;
      number = number 0;
      first = f;
      last = l;
      mark = cond k 1 0;
    }

abbrev pub downgraded : Lock → Lock
downgraded r = remade r nbw r.state (number_of r) r.last

-- "An accepted message does its own change (add a waiting record; state 2 to 3; mode to NBW; remove the record)."
unfoldable pub change : Table → Message → Table
change t (Request c s m f l k) =
    record { issued = t.issued + 1; lasts = t.lasts; locks = t.locks ++ asking (t.issued + 1) c s m f l k ∷ [] }
change t (Acknowledge c h) = with_locks t (map (λ r. cond (may_acknowledge c h r) (in_state canceling r) r) t.locks)
change t (Downgrade c h) = with_locks t (map (λ r. cond (may_downgrade c h r) (downgraded r) r) t.locks)
change t (Release c h) = with_locks t (keep (λ r. not (named c h r)) t.locks)

-- "all four messages answer the handle they made or named"
unfoldable pub answered : Table → Message → ℕ
answered t (Request c s m f l k) = t.issued + 1
answered t (Acknowledge c h) = h
answered t (Downgrade c h) = h
answered t (Release c h) = h

-- What a call answers, and the table after it
pub record Outcome : Type 0 where
  pub refusal : ℕ
  pub handle : ℕ
  pub table : Table
  pub events : List Event

abbrev pub accepted : ℕ → Settled → Outcome
accepted h s = record { refusal = 0; handle = h; table = s.table; events = s.events }

-- "A refused call returns its number with handle 0 and event count 0, and changes nothing in any buffer."
abbrev pub refused : Table → ℕ → Outcome
refused t n = record { refusal = n; handle = 0; table = t; events = [] }

-- A call on the table t, whatever it asks: its rules in order, the handle that it answers, and the table with its own change, which is then settled
abbrev pub served : List Rule → ℕ → Table → Table → Outcome
served list h changed t = cond (eqb (first_hit list) 0) (accepted h (settle changed)) (refused t (first_hit list))

-- A message is a call by its own rules, answer and change
unfoldable pub serve : Table → Message → Outcome
serve t m = served (rules t m) (answered t m) (change t m) t
