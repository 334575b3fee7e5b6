-- What the functions of a list promise each other. No public contract of the store cites this file.
use Rattle.std.specs.Prelude.{ℕ, ◌+◌, ◌≡◌, List, length}
use Rattle.common.specs.Counters.{width}
use Rattle.table.specs.Bytes.{table_of}
use Rattle.table.specs.Places.{count_of, Holds}
use Rattle.locks.specs.declared.Item.{Item}
use Rattle.locks.specs.Serve.{Outcome, serve}
use Rattle.locks.specs.List.{request_of, answered_item, serve_list}
use Rattle.settle.specs.Posts.{put_events}

-- what becomes of the item x on the table in t
abbrev pub outcome_of : List ℕ → Item → Outcome
outcome_of t x = serve (table_of width t) (request_of x)

-- the item x, served on the table t and behind k events, comes back as r, and u and c are the table and the event buffer after it, with s events
pub record ServesItem (k : ℕ) (x : Item) (t b : List ℕ) (r : Item) (s : ℕ) (u c : List ℕ) : Type 0 where
  pub item : r ≡ answered_item x (outcome_of t x)
  pub table : Holds (count_of u) (outcome_of t x).table u
  pub events : c ≡ put_events b k (outcome_of t x).events
  pub count : s ≡ k + length (outcome_of t x).events

-- the same of the items xs in their order, which become ys
pub record Walks (k : ℕ) (xs : List Item) (t b : List ℕ) (s : ℕ) (ys : List Item) (u c : List ℕ) : Type 0 where
  pub items : ys ≡ (serve_list (table_of width t) xs).items
  pub table : Holds (count_of u) (serve_list (table_of width t) xs).table u
  pub events : c ≡ put_events b k (serve_list (table_of width t) xs).events
  pub count : s ≡ k + length (serve_list (table_of width t) xs).events
