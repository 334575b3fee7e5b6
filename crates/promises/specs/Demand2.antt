-- DEMAND 2. "A session is a list of messages from the empty table through the entries on bytes. Grants, waits, revocations and widened ranges are those
-- of the rules; the table stays sound; the bytes are what XDR says; each record at most one event a call; no waiter without an obstacle; every
-- revocation goes to a lock that conflicts with a waiting request, and each such lock in state 1 gets one."
use Rattle.std.specs.Prelude.{ℕ, ◌≤◌, ◌<◌, ◌≡◌, true, not, List, ◌++◌, map, T, eqb, ltb, length, get_or, take, replicate}
use Rattle.common.specs.Counters.{width}
use Rattle.common.specs.Tests.{pairs, up_from}
use Rattle.xdr.specs.Array.{array, array_size}
use Rattle.table.specs.declared.Lock.{Lock}
use Rattle.table.specs.Table.{Table, empty, handle_of, last_of, max_records}
use Rattle.table.specs.Bytes.{table_size, table_of, sound_table_bytes}
use Rattle.locks.specs.declared.Item.{Item}
use Rattle.locks.specs.declared.Message.{Message}
use Rattle.locks.specs.Settle.{Event, grant_event, revocation}
use Rattle.locks.specs.Serve.{serve}
use Rattle.locks.specs.Events.{event_layout, event_fields, events_size}
use Rattle.locks.specs.Session.{table_after, events, handles_taken, numbers}
use Rattle.locks.specs.List.{max_items, item_at, request_of, answered_item, max_list_events, list_events_size}
use Rattle.serve.specs.declared.Answer.{Answer}
use Rattle.message.specs.Messages.{Serves}
use Rattle.list.specs.Lists.{ServesList}
use Rattle.promises.specs.Session.{Session}
use Rattle.promises.specs.Reasoned.{Reasoned}

abbrev pub Rising : List Lock → Type 0
Rising rs = T (pairs (λ a b. ltb (handle_of a) (handle_of b)) rs)

-- The events of one message: "each record at most one event a call", so at most 256; grants in rising handle, then revocations in rising handle
pub record Told (es : List Event) : Type 0 where
  pub once : T (pairs (λ x y. not (eqb (handle_of x.lock) (handle_of y.lock))) es)
  pub few : length es ≤ max_records
  pub order : (gs rs : List Lock) × (es ≡ map grant_event gs ++ map revocation rs) × Rising gs × Rising rs

-- A call on a table that the rules have as X: it answers r, and leaves u in the table and c in the event buffer, which was b
pub record Called (X : Table) (m : Message) (b : List ℕ) (r : Answer) (u c : List ℕ) : Type 0 where
  -- "those of the rules": the answer, the table, the events. "The bytes are what XDR says"
  pub answer : r ≡ record { refusal = (serve X m).refusal; handle = (serve X m).handle; events = length (serve X m).events }
  pub table : table_of width u ≡ (serve X m).table
  pub events : (serve X m).refusal ≡ 0 → array (event_layout width) c 0 ≡ map event_fields (serve X m).events
  pub beyond : (k : ℕ) → array_size (length (serve X m).events) (event_layout width) ≤ k → get_or c k 0 ≡ get_or b k 0
  pub long : length c ≡ length b
  -- "the table stays sound"
  pub sound : sound_table_bytes u ≡ true
  pub told : Told (serve X m).events
  pub reasoned : (serve X m).refusal ≡ 0 → Reasoned X m

-- Any call on the bytes t, lent an event buffer that is long enough, goes as the rules say of the table X
abbrev pub Goes : List ℕ → Table → Type 0
Goes t X =
    (m : Message) (b : List ℕ) (r : Answer) (u c : List ℕ) → events_size width ≤ length b → Serves m t b r u c → Called X m b r u c

-- A list of requests on a table that the rules have as X, lent the items xs and the event buffer b: it answers r, and leaves ys, u and c in them
pub record CalledList (X : Table) (xs : List Item) (b : List ℕ) (r : Answer) (ys : List Item) (u c : List ℕ) : Type 0 where
  -- "the table, answers and event sequence of single marked requests in list order"
  pub answer : r ≡ record { refusal = 0; handle = 0; events = length (events X (map request_of xs)) }
  pub long-items : length ys ≡ length xs
  pub each : (k : ℕ) → k < length xs
      → item_at ys k ≡ answered_item (item_at xs k) (serve (table_after X (map request_of (take k xs))) (request_of (item_at xs k)))
  pub table : table_of width u ≡ table_after X (map request_of xs)
  pub sound : sound_table_bytes u ≡ true
  -- "At most 512 events arise"
  pub few : length (events X (map request_of xs)) ≤ max_list_events
  pub beyond : (k : ℕ) → array_size (length (events X (map request_of xs))) (event_layout width) ≤ k → get_or c k 0 ≡ get_or b k 0
  pub long : length c ≡ length b
  pub events : array (event_layout width) c 0 ≡ map event_fields (events X (map request_of xs))
  -- what each item tells; an item that is accepted is granted, waits and asks back as any request does
  pub told : (k : ℕ) → k < length xs → Told (serve (table_after X (map request_of (take k xs))) (request_of (item_at xs k))).events
  pub reasoned : (k : ℕ) → k < length xs → (item_at ys k).refusal ≡ 0 → Reasoned (table_after X (map request_of (take k xs))) (request_of (item_at xs k))

abbrev pub GoesList : List ℕ → Table → Type 0
GoesList t X =
    (xs : List Item) (b : List ℕ) (r : Answer) (ys : List Item) (u c : List ℕ) → length xs ≤ max_items → list_events_size width ≤ length b
    → ServesList xs t b r ys u c → CalledList X xs b r ys u c

-- After a session of the entries: its table and events are the rules', and so goes any call that comes next. Each call of a session comes next after
-- those before it
pub record Followed (ms : List Message) (es : List Event) (t : List ℕ) : Type 0 where
  pub table : table_of width t ≡ table_after empty ms
  pub sound : sound_table_bytes t ≡ true
  pub events : es ≡ events empty ms
  -- "A handle is taken by each accepted request, over all stripes, from 1": 1, 2, 3, .., so none is given twice
  pub handles : handles_taken empty ms ≡ up_from 1 (table_after empty ms).issued
  pub distinct : T (pairs (λ a b. not (eqb a b)) (handles_taken empty ms))
  -- "A sequence number is taken by each grant of NBW, BW or PW, per stripe, from 1"
  pub numbered : (s : ℕ) → numbers s es ≡ up_from 1 (last_of (table_after empty ms) s)
  pub next : Goes t (table_after empty ms)
  pub next-list : GoesList t (table_after empty ms)

pub record Demand2 : Type 0 where
  -- on every sound table, wherever it comes from, settled or not
  pub anywhere : (t : List ℕ) → sound_table_bytes t ≡ true → Goes t (table_of width t)
  pub lists-anywhere : (t : List ℕ) → sound_table_bytes t ≡ true → GoesList t (table_of width t)
  -- "A session is a list of messages": every list of messages is one
  pub sessions : (ms : List Message) → (es : List Event) × (t : List ℕ) × Session (replicate (table_size width) 0) ms es t
  pub follow : (ms : List Message) (es : List Event) (t : List ℕ) → Session (replicate (table_size width) 0) ms es t → Followed ms es t
