-- Lists of requests: document 02, #101, "Lists of locks ahead of a write".
use Rattle.std.specs.Prelude.{ℕ, ◌*◌, ◌≡◌, refl, true, List, [], ◌∷◌, ◌++◌, length, get_or}
use Rattle.xdr.specs.Array.{array_size}
use Rattle.table.specs.Table.{Table, max_records}
use Rattle.locks.specs.declared.Item.{Item}
use Rattle.locks.specs.declared.Message.{Message}
use Rattle.locks.specs.declared.Message.TheVariants.{Request}
use Rattle.locks.specs.Settle.{Event}
use Rattle.locks.specs.Serve.{Outcome, serve}
use Rattle.locks.specs.Events.{event_layout}

-- "up to 64 descriptions (client, stripe, mode, first, last)": how many there are at most, the one at place i, counted from 0, and
-- the message that one of them is. "Such a request is marked"
abbrev pub max_items : ℕ
max_items = 64

abbrev pub no_item : Item
no_item = record { client = 0; stripe = 0; mode = 0; first = 0; last = 0; refusal = 0; handle = 0; events = 0 }

abbrev pub item_at : List Item → ℕ → Item
item_at xs i = get_or xs i no_item

abbrev pub request_of : Item → Message
request_of i = Request i.client i.stripe i.mode i.first i.last true

-- "find each one's answer stored in its own description": what was asked stays
abbrev pub answered_item : Item → Outcome → Item
answered_item i o =
    record {
      client = i.client;
      stripe = i.stripe;
      mode = i.mode;
      first = i.first;
      last = i.last;
      refusal = o.refusal;
      handle = o.handle;
      events = length o.events;
    }

-- What a list leaves: its items with their answers, the table, and the events of all items
pub record Listed : Type 0 where
  pub items : List Item
  pub table : Table
  pub events : List Event

-- the item i, whose outcome is o, before the others
abbrev pub before : Item → Outcome → Listed → Listed
before i o l = record { items = answered_item i o ∷ l.items; table = l.table; events = o.events ++ l.events }

-- "The list must give the table, answers and event sequence of single marked requests in list order."
unfoldable pub serve_list : Table → List Item → Listed
serve_list t [] = record { items = []; table = t; events = [] }
serve_list t (i ∷ is) = before i (serve t (request_of i)) (serve_list (serve t (request_of i)).table is)

-- "At most 512 events arise, so a list's event buffer has 22,532 bytes."
abbrev pub max_list_events : ℕ
max_list_events = 2 * max_records

abbrev pub list_events_size : ℕ → ℕ
list_events_size w = array_size max_list_events (event_layout w)

pub list-events-size : list_events_size 4 ≡ 22532
list-events-size = refl
