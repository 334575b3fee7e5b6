-- What is put into a buffer, and what an event buffer holds.
use Rattle.std.specs.Prelude.{ℕ, ◌≤◌, ◌≡◌, List, ◌++◌, length}
use Rattle.common.specs.Counters.{width}
use Rattle.xdr.specs.Layout.{fields}
use Rattle.xdr.specs.Tab.{tab}
use Rattle.locks.specs.Events.{event_layout, event_place}

-- A text of at most `most` bytes is put behind what is there
pub record Wrote (most : ℕ) (before after : List ℕ) (text : List ℕ) : Type 0 where
  pub short : length text ≤ most
  pub says : after ≡ before ++ text

-- The numbers of event k of an event buffer; those of its first n events
abbrev pub event_at : List ℕ → ℕ → List ℕ
event_at b k = fields (event_layout width) b (event_place k) 0

abbrev pub events_in : List ℕ → ℕ → List (List ℕ)
events_in b n = tab n (event_at b)
