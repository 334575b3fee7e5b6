-- DEMAND 2 speaks of sessions: messages and lists of requests through the lock entries on bytes, each lent an event buffer that is long enough, each
-- with the table that the call before it left. What a call leaves is what its contract says.
use Rattle.std.specs.Prelude.{ℕ, ◌≤◌, List, [], ◌∷◌, ◌++◌, map, T, length}
use Rattle.common.specs.Counters.{width}
use Rattle.locks.specs.declared.Item.{Item}
use Rattle.locks.specs.declared.Message.{Message}
use Rattle.locks.specs.Settle.{Event}
use Rattle.locks.specs.Events.{events_size}
use Rattle.locks.specs.Session.{single}
use Rattle.locks.specs.List.{max_items, request_of, list_events_size}
use Rattle.serve.specs.declared.Answer.{Answer}
use Rattle.message.specs.Messages.{outcome, Serves}
use Rattle.list.specs.Lists.{list_outcome, ServesList}

-- From the table's bytes t the messages lead to v, with these events. A list is its items' messages, one after the other: "the table, answers and event
-- sequence of single marked requests in list order"
pub data Session : List ℕ → List Message → List Event → List ℕ → Type 0 where
  done : {t : List ℕ} → Session t [] [] t
  call : {t u v b c : List ℕ} {m : Message} {ms : List Message} {r : Answer} {es : List Event}
      → T (single m) → events_size width ≤ length b → Serves m t b r u c → Session u ms es v → Session t (m ∷ ms) ((outcome m t b).events ++ es) v
  list : {t u v b c : List ℕ} {xs ys : List Item} {ms : List Message} {r : Answer} {es : List Event}
      → length xs ≤ max_items → list_events_size width ≤ length b → ServesList xs t b r ys u c → Session u ms es v
      → Session t (map request_of xs ++ ms) ((list_outcome xs t b).events ++ es) v
