-- A session: messages served one after the other.
use Rattle.std.specs.Prelude.{ℕ, Bool, true, false, not, ◌&&◌, cond, List, [], ◌∷◌, ◌++◌, map, eqb}
use Rattle.common.specs.Tests.{keep}
use Rattle.table.specs.Table.{Table, number_of, writes}
use Rattle.locks.specs.declared.Message.{Message}
use Rattle.locks.specs.declared.Message.TheVariants.{Request, Acknowledge, Downgrade, Release}
use Rattle.locks.specs.Settle.{Event}
use Rattle.locks.specs.Serve.{serve}

-- A message that comes by itself; a marked request is an item of a list
abbrev pub single : Message → Bool
single (Request c s m f l k) = not k
single (Acknowledge c h) = true
single (Downgrade c h) = true
single (Release c h) = true

-- The table after the messages, and their events in order
abbrev pub table_after : Table → List Message → Table
table_after t [] = t
table_after t (m ∷ ms) = table_after (serve t m).table ms

abbrev pub events : Table → List Message → List Event
events t [] = []
events t (m ∷ ms) = (serve t m).events ++ events (serve t m).table ms

-- "A handle is taken by each accepted request": those that the messages are answered, in order
abbrev pub requests : Message → Bool
requests (Request c s m f l k) = true
requests (Acknowledge c h) = false
requests (Downgrade c h) = false
requests (Release c h) = false

abbrev pub handle_taken : Table → Message → List ℕ
handle_taken t m = cond (requests m && eqb (serve t m).refusal 0) ((serve t m).handle ∷ []) []

abbrev pub handles_taken : Table → List Message → List ℕ
handles_taken t [] = []
handles_taken t (m ∷ ms) = handle_taken t m ++ handles_taken (serve t m).table ms

-- The numbers of a stripe's write grants among the events
abbrev pub write_grant : ℕ → Event → Bool
write_grant s e = eqb e.kind 1 && (writes e.lock && eqb e.lock.stripe s)

abbrev pub numbers : ℕ → List Event → List ℕ
numbers s es = map (λ e. number_of e.lock) (keep (write_grant s) es)
