-- The events' bytes.
use Rattle.std.specs.Prelude.{ℕ, ◌≤◌, ◌≡◌, refl, List, ◌∷◌, map, length}
use Rattle.common.specs.Counters.{width}
use Rattle.xdr.specs.Layout.{size}
use Rattle.xdr.specs.Array.{element, array_size, put_array}
use Rattle.table.specs.Table.{max_records}
use Rattle.table.specs.Bytes.{shown_layout, shown_fields}
use Rattle.locks.specs.Settle.{Event}

-- An event is its kind and what is shown of the record.
-- "One event is kind, handle, client, stripe, mode, state, number as 4-byte integers, then first and last as hypers: 44 bytes."
abbrev pub event_layout : ℕ → List ℕ
event_layout w = 4 ∷ shown_layout w

abbrev pub event_fields : Event → List ℕ
event_fields e = e.kind ∷ shown_fields e.lock

-- where event k of a buffer starts; the buffer b has room for k events
abbrev pub event_place : ℕ → ℕ
event_place k = element (event_layout width) 0 k

abbrev pub Room : ℕ → List ℕ → Type 0
Room k b = array_size k (event_layout width) ≤ length b

-- "At most 256 events arise in a call"
abbrev pub events_size : ℕ → ℕ
events_size w = array_size max_records (event_layout w)

-- "The event buffer receives their XDR array; bytes after it stay unchanged."
unfoldable pub events_over : ℕ → List ℕ → List Event → List ℕ
events_over w buffer es = put_array (event_layout w) buffer 0 (map event_fields es)

pub event-size : size (event_layout 4) ≡ 44
event-size = refl

pub events-size : events_size 4 ≡ 11268
events-size = refl
