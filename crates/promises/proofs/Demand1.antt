-- Demand 1, of all entries together, with an input for each number of each entry's list.
use Prim.Native.Nat.{ℕ}
use native.Mathlib.Omega.{arith}
use mathlib.Core.Bool.{true, false}
use mathlib.Core.List.{List, [], ◌∷◌, map}
use mathlib.Core.Path.{◌≡◌, refl}
use lib.Dec.{T}
use lib.ListN.{replicate}
use Rattle.common.specs.Counters.{width}
use Rattle.common.specs.Refusals.{first_hit}
use Rattle.common.proofs.Blank.{blank-bytes}
use Rattle.xdr.specs.Be.{Bytes}
use Rattle.xdr.proofs.Arrays.{put-array-bytes}
use Rattle.table.specs.Table.{Table, empty, max_records}
use Rattle.table.specs.Sound.{sound}
use Rattle.table.proofs.Encoding.{table_bytes, table-bytes}
use Rattle.table.proofs.Zeros.{empty-sound}
use Rattle.runs.specs.declared.Run.{Run}
use Rattle.runs.specs.Sound.{max_entries}
use Rattle.runs.specs.Bytes.{run_layout, run_fields, map_size, log_size, bytes_of, map_bytes, log_bytes}
use Rattle.locks.specs.declared.Item.{Item}
use Rattle.locks.specs.declared.Message.{Message}
use Rattle.locks.specs.declared.Message.TheVariants.{Request, Acknowledge, Downgrade, Release}
use Rattle.locks.specs.Refusals.{rules}
use Rattle.locks.specs.Events.{events_size}
use Rattle.locks.specs.Session.{single}
use Rattle.locks.specs.List.{no_item, request_of, list_events_size}
use Rattle.message.specs.Messages.{outcome}
use Rattle.stripe.specs.Piece.{extent, piece}
use Rattle.promises.specs.Demand1.{Entry, request, acknowledge, downgrade, release, list, note, write, restart, compact, numbers, entry_of}
use Rattle.promises.specs.Demand1.{Words, fields, item_words, Gets, message, listing, noting, writing, restarting, compacting, Reached, ItemGets, ItemsReached, Demand1}
use Rattle.promises.proofs.Determined.{of-message, of-list, of-note, of-write, of-restart, of-compact}
use Rattle.promises.proofs.Spaced.{spaced}
use Rattle.promises.proofs.Reached.{buffer, no-events, another-length, on-empty, spent, spent-sound, none_left, queued, queued-sound, crowded, no_room, lonely, on-lonely}
use Rattle.promises.proofs.Reached.{list-buffer, list-no-events, list-no-table, too_many, lets-through, item-gets}
use Rattle.promises.proofs.StripeReached.{map0, log0, one, note-12, note-13, note-14, note-15, note-16, note-17, write-12, write-14, write-15, write-18, restart-12, restart-13, restart-16, compact-13, compact-16}

-- one input after the other
infixr 5 ◌also◌
◌also◌ : {A B : Type 0} → A → B → A × B
a also b = (a, b)

no_bytes : Bytes []
no_bytes = blank-bytes 0

runs-bytes : (n : ℕ) (rs : List Run) → Bytes (bytes_of width n rs)
runs-bytes n rs = put-array-bytes (run_layout width) (replicate n 0) 0 (map run_fields rs) (blank-bytes n)

map-bytes : (rs : List Run) → Bytes (map_bytes width rs)
unfolding map_bytes
map-bytes rs = runs-bytes (map_size width) rs

log-bytes : (es : List Run) → Bytes (log_bytes width es)
unfolding log_bytes
log-bytes es = runs-bytes (log_size width) es

-- A message on no table, on the empty table, on a table
module _ (m : Message) (i : T (single m)) (f : Words (fields m)) where
  short : Gets (entry_of m) 1
  short = message m [] [] i f no_bytes no_bytes (no-events m)

  absent : Gets (entry_of m) 2
  absent = message m [] buffer i f no_bytes (blank-bytes (events_size width)) (another-length m)

  on : (X : Table) (n : ℕ) → (outcome m (table_bytes X) buffer).refusal ≡ n → Gets (entry_of m) n
  on X n e = message m (table_bytes X) buffer i f (table-bytes X) (blank-bytes (events_size width)) e

  first : (n : ℕ) → first_hit (rules empty m) ≡ n → Gets (entry_of m) n
  first n e = on empty n (on-empty m n e)

  lone : (n : ℕ) → first_hit (rules lonely m) ≡ n → Gets (entry_of m) n
  lone n e = on lonely n (on-lonely m n e)

map0-bytes : Bytes map0
map0-bytes = blank-bytes (map_size width)

log0-bytes : Bytes log0
log0-bytes = blank-bytes (log_size width)

reached : (e : Entry) → Reached e (numbers e)
unfolding rules
reached request =
    short (Request 0 0 1 0 0 false) tt tt
    also absent (Request 0 0 1 0 0 false) tt tt
    also first (Request 64 0 1 0 0 false) tt tt 3 refl
    also first (Request 0 16 1 0 0 false) tt tt 4 refl
    also first (Request 0 0 5 0 0 false) tt tt 5 refl
    also first (Request 0 0 1 5 4 false) tt tt 6 refl
    also on (Request 0 0 1 0 0 false) tt tt spent 7 none_left
    also on (Request 0 0 1 0 0 false) tt tt (queued max_records) 8 no_room
    also tt
reached acknowledge =
    short (Acknowledge 0 1) tt tt
    also absent (Acknowledge 0 1) tt tt
    also first (Acknowledge 64 1) tt tt 3 refl
    also first (Acknowledge 0 1) tt tt 9 refl
    also lone (Acknowledge 1 1) tt tt 10 refl
    also lone (Acknowledge 0 1) tt tt 11 refl
    also tt
reached downgrade =
    short (Downgrade 0 1) tt tt
    also absent (Downgrade 0 1) tt tt
    also first (Downgrade 64 1) tt tt 3 refl
    also first (Downgrade 0 1) tt tt 9 refl
    also lone (Downgrade 1 1) tt tt 10 refl
    also lone (Downgrade 0 1) tt tt 11 refl
    also tt
reached release =
    short (Release 0 1) tt tt
    also absent (Release 0 1) tt tt
    also first (Release 64 1) tt tt 3 refl
    also first (Release 0 1) tt tt 9 refl
    also lone (Release 1 1) tt tt 10 refl
    also tt
reached list =
    listing [] [] [] tt no_bytes no_bytes list-no-events
    also listing [] [] list-buffer tt no_bytes (blank-bytes (list_events_size width)) list-no-table
    also listing (replicate 65 no_item) (table_bytes empty) list-buffer tt (table-bytes empty) (blank-bytes (list_events_size width)) (too_many empty empty-sound (replicate 65 no_item) (omega arith))
    also tt
reached note =
    noting [] [] (extent 0 1 1 1) 1 tt no_bytes no_bytes note-12
    also noting map0 [] (extent 0 1 1 1) 1 tt map0-bytes no_bytes note-13
    also noting map0 log0 (extent 0 0 1 1) 1 tt map0-bytes log0-bytes note-14
    also noting map0 log0 (extent 0 1 0 1) 1 tt map0-bytes log0-bytes note-15
    also noting (map_bytes width (spaced 1 1024)) log0 (extent 2049 1 1 1) 2050 tt (map-bytes (spaced 1 1024)) log0-bytes note-16
    also noting map0 (log_bytes width (replicate max_entries one)) (extent 0 1 1 1) 1 tt map0-bytes (log-bytes (replicate max_entries one)) note-17
    also tt
reached write =
    writing [] (piece 0 (0 ∷ []) 1 1) (0 ∷ []) tt no_bytes (blank-bytes 1) (blank-bytes 1) write-12
    also writing map0 (piece 0 [] 1 1) (0 ∷ []) tt map0-bytes no_bytes (blank-bytes 1) write-14
    also writing map0 (piece 0 (0 ∷ []) 1 0) (0 ∷ []) tt map0-bytes (blank-bytes 1) (blank-bytes 1) write-15
    also writing map0 (piece 0 (0 ∷ []) 1 1) (0 ∷ []) tt map0-bytes (blank-bytes 1) (blank-bytes 1) write-18
    also tt
reached restart =
    restarting [] [] no_bytes no_bytes restart-12
    also restarting map0 [] map0-bytes no_bytes restart-13
    also restarting map0 (log_bytes width (spaced 1 1025)) map0-bytes (log-bytes (spaced 1 1025)) restart-16
    also tt
reached compact =
    compacting [] [] no_bytes no_bytes compact-13
    also compacting (log_bytes width (spaced 1 1025)) log0 (log-bytes (spaced 1 1025)) log0-bytes compact-16
    also tt

-- A list of one item on a table
item : (X : Table) → T (sound X) → (x : Item) → Words (item_words (x ∷ [])) → (n : ℕ) → first_hit (rules X (request_of x)) ≡ n → ItemGets n
item X s x f n e = record {
  items = x ∷ [];
  k = 0;
  table = table_bytes X;
  events = list-buffer;
  inside = omega arith;
  words = f;
  table-bytes = table-bytes X;
  event-bytes = blank-bytes (list_events_size width);
  accepted = lets-through X s (x ∷ []) (omega arith);
  gets = item-gets X s x n e;
}

abbrev asking : ℕ → ℕ → ℕ → ℕ → ℕ → Item
asking c s m f l = record { client = c; stripe = s; mode = m; first = f; last = l; refusal = 0; handle = 0; events = 0 }

items-reached : ItemsReached (3 ∷ 4 ∷ 5 ∷ 6 ∷ 7 ∷ 8 ∷ [])
unfolding rules
items-reached =
    item empty empty-sound (asking 64 0 1 0 0) tt 3 refl
    also item empty empty-sound (asking 0 16 1 0 0) tt 4 refl
    also item empty empty-sound (asking 0 0 5 0 0) tt 5 refl
    also item empty empty-sound (asking 0 0 1 5 4) tt 6 refl
    also item spent spent-sound (asking 0 0 1 0 0) tt 7 refl
    also item (queued max_records) (queued-sound max_records (omega arith)) (asking 0 0 1 0 0) tt 8 (crowded max_records true refl)
    also tt

pub demand1 : Demand1
demand1 = record {
  messages = of-message;
  lists = of-list;
  notes = of-note;
  writes = of-write;
  restarts = of-restart;
  compactions = of-compact;
  reached = reached;
  items-reached = items-reached;
}
