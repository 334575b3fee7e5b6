-- DEMAND 1, for each public entry. "For every input there is an outcome, the contract allows only one, a refusal's answer is (number, 0, 0) or the
-- number alone, from the list, the first hit in the stated order, and leaves every buffer as it was. For each number an input that gets it."
use Rattle.std.specs.Prelude.{ℕ, ◌^◌, ◌<◌, ◌≡◌, Bool, not, ◌⊎◌, List, [], ◌∷◌, ◌++◌, T, eqb, ltb, length}
use Rattle.common.specs.Counters.{width}
use Rattle.common.specs.Refusals.{Rule}
use Rattle.common.specs.Tests.{all, any}
use Rattle.xdr.specs.Be.{Bytes}
use Rattle.table.specs.Bytes.{table_of}
use Rattle.locks.specs.declared.Item.{Item}
use Rattle.locks.specs.declared.Message.{Message}
use Rattle.locks.specs.declared.Message.TheVariants.{Request, Acknowledge, Downgrade, Release}
use Rattle.locks.specs.Refusals.{rules}
use Rattle.locks.specs.Session.{single}
use Rattle.locks.specs.List.{item_at}
use Rattle.runs.specs.Bytes.{runs_of, map_size, log_size, sound_map_bytes, sound_log_bytes}
use Rattle.stripe.specs.declared.Extent.{Extent}
use Rattle.stripe.specs.Piece.{Piece, extent_of}
use Rattle.stripe.specs.Refusals.{write_rules, restart_rules, compact_rules}
use Rattle.serve.specs.declared.Answer.{Answer}
use Rattle.message.specs.Messages.{entry_rules, outcome, Serves}
use Rattle.list.specs.Lists.{list_rules, list_refusal, list_items, ServesList}
use Rattle.note.specs.Note.{note_list, note_answer, Notes}
use Rattle.write.specs.Write.{write_answer, Writes}
use Rattle.restart.specs.Restart.{restart_answer, Restarts}
use Rattle.compact.specs.Compact.{compact_answer, Compacts}

-- "the first hit in the stated order": n is the number of a rule that the call breaks, and it keeps every rule before that one
abbrev pub keeps : List Rule → Bool
keeps = all (λ r. not r.broken)

pub record FirstHit (rows : List Rule) (n : ℕ) : Type 0 where
  pub before : List Rule
  pub hit : Rule
  pub after : List Rule
  pub order : rows ≡ before ++ (hit ∷ after)
  pub kept : T (keeps before)
  pub broken : T hit.broken
  pub number : n ≡ hit.answer

-- "Accepted is 0": the call keeps them all
abbrev pub Judged : List Rule → ℕ → Type 0
Judged rows n = ((n ≡ 0) × T (keeps rows)) ⊎ FirstHit rows n

-- An entry at one input. R is what a call answers and leaves, Meets the entry's contract, `number` the refusal number that it answers;
-- `rows` its rules in order and `numbers` their numbers; `refused n` the answer n with every buffer as it was
pub record Promised {R : Type 0} (Meets : R → Type 0) (number : R → ℕ) (rows : List Rule) (numbers : List ℕ) (refused : ℕ → R) : Type 0 where
  -- "there is an outcome"
  pub some : R
  pub meets : Meets some
  -- "the contract allows only one"
  pub only : (x y : R) → Meets x → Meets y → x ≡ y
  -- "from the list, the first hit in the stated order"
  pub listed : (x : R) → Meets x → T (any (eqb (number x)) (0 ∷ numbers))
  pub judged : (x : R) → Meets x → Judged rows (number x)
  -- "(number, 0, 0) or the number alone, .. and leaves every buffer as it was"
  pub unchanged : (x : R) → Meets x → (number x ≡ 0 → ⊥) → x ≡ refused (number x)

-- What each entry answers, and the buffers that it may change
pub record Served : Type 0 where
  pub answer : Answer
  pub table : List ℕ
  pub events : List ℕ

pub record ListServed : Type 0 where
  pub answer : Answer
  pub items : List Item
  pub table : List ℕ
  pub events : List ℕ

pub record Noted : Type 0 where
  pub answer : ℕ
  pub map : List ℕ
  pub log : List ℕ

pub record Written : Type 0 where
  pub answer : ℕ
  pub image : List ℕ

pub record Restarted : Type 0 where
  pub answer : ℕ
  pub map : List ℕ

pub record CompactServed : Type 0 where
  pub answer : ℕ
  pub log : List ℕ

-- "Order, first hit answers: request 1 to 8; the others 1, 2, 3, 9, 10, 11; note 12 to 17; write 12, 14, 15, 18; restart 12 (length only), 13, 16."
-- A release has nothing that 11 could say. A list: "1 (at its new size), 2, then 19". A compaction: "13 for either buffer's length or an unsound old
-- log, then 16"
pub data Entry : Type 0 where
  request : Entry
  acknowledge : Entry
  downgrade : Entry
  release : Entry
  list : Entry
  note : Entry
  write : Entry
  restart : Entry
  compact : Entry

abbrev pub numbers : Entry → List ℕ
numbers request = 1 ∷ 2 ∷ 3 ∷ 4 ∷ 5 ∷ 6 ∷ 7 ∷ 8 ∷ []
numbers acknowledge = 1 ∷ 2 ∷ 3 ∷ 9 ∷ 10 ∷ 11 ∷ []
numbers downgrade = 1 ∷ 2 ∷ 3 ∷ 9 ∷ 10 ∷ 11 ∷ []
numbers release = 1 ∷ 2 ∷ 3 ∷ 9 ∷ 10 ∷ []
numbers list = 1 ∷ 2 ∷ 19 ∷ []
numbers note = 12 ∷ 13 ∷ 14 ∷ 15 ∷ 16 ∷ 17 ∷ []
numbers write = 12 ∷ 14 ∷ 15 ∷ 18 ∷ []
numbers restart = 12 ∷ 13 ∷ 16 ∷ []
numbers compact = 13 ∷ 16 ∷ []

abbrev pub entry_of : Message → Entry
entry_of (Request c s m f l k) = request
entry_of (Acknowledge c h) = acknowledge
entry_of (Downgrade c h) = downgrade
entry_of (Release c h) = release

-- The four messages. A slice of bytes holds bytes: of the table that the call leaves this is said openly
abbrev pub OfMessage : Message → List ℕ → List ℕ → Type 0
OfMessage m table events =
    Promised {R = Served}
    (λ x. Serves m table events x.answer x.table x.events × Bytes x.table)
    (λ x. x.answer.refusal)
    (entry_rules table events ++ rules (table_of width table) m) (numbers (entry_of m))
    (λ n. record { answer = record { refusal = n; handle = 0; events = 0 }; table = table; events = events })

-- A list of requests
abbrev pub OfList : List Item → List ℕ → List ℕ → Type 0
OfList items table events =
    Promised {R = ListServed}
    (λ x. ServesList items table events x.answer x.items x.table x.events × Bytes x.table)
    (λ x. x.answer.refusal)
    (list_rules table (length events) (length items)) (numbers list)
    (λ n. record { answer = record { refusal = n; handle = 0; events = 0 }; items = items; table = table; events = events })

-- Note, write, restart and compaction
abbrev pub OfNote : List ℕ → List ℕ → Extent → ℕ → Type 0
OfNote map log e image =
    Promised {R = Noted}
    (λ x. Notes map log e image x.answer x.map x.log)
    (λ x. x.answer)
    (note_list map log e image) (numbers note)
    (λ n. record { answer = n; map = map; log = log })

abbrev pub OfWrite : List ℕ → Piece → List ℕ → Type 0
OfWrite map p image =
    Promised {R = Written}
    (λ x. Writes map p image x.answer x.image)
    (λ x. x.answer)
    (write_rules (sound_map_bytes map) (runs_of width map) (extent_of p) (length image)) (numbers write)
    (λ n. record { answer = n; image = image })

abbrev pub OfRestart : List ℕ → List ℕ → Type 0
OfRestart map log =
    Promised {R = Restarted}
    (λ x. Restarts map log x.answer x.map)
    (λ x. x.answer)
    (restart_rules (eqb (length map) (map_size width)) (sound_log_bytes log) (runs_of width log)) (numbers restart)
    (λ n. record { answer = n; map = map })

abbrev pub OfCompact : List ℕ → List ℕ → Type 0
OfCompact log new =
    Promised {R = CompactServed}
    (λ x. Compacts log new x.answer x.log)
    (λ x. x.answer)
    (compact_rules (eqb (length new) (log_size width)) (sound_log_bytes log) (runs_of width log)) (numbers compact)
    (λ n. record { answer = n; log = new })

-- "Numbers arrive as 64-bit values"
abbrev pub Words : List ℕ → Type 0
Words ns = T (all (λ n. ltb n (2 ^ 64)) ns)

abbrev pub fields : Message → List ℕ
fields (Request c s m f l k) = c ∷ s ∷ m ∷ f ∷ l ∷ []
fields (Acknowledge c h) = c ∷ h ∷ []
fields (Downgrade c h) = c ∷ h ∷ []
fields (Release c h) = c ∷ h ∷ []

abbrev pub item_words : List Item → List ℕ
item_words [] = []
item_words (i ∷ is) = i.client ∷ i.stripe ∷ i.mode ∷ i.first ∷ i.last ∷ i.refusal ∷ i.handle ∷ i.events ∷ item_words is

-- An input of the entry that gets the number n: 64-bit numbers, and buffers of bytes
pub data Gets : Entry → ℕ → Type 0 where
  message : {n : ℕ} (m : Message) (table events : List ℕ)
      → T (single m) → Words (fields m) → Bytes table → Bytes events → (outcome m table events).refusal ≡ n → Gets (entry_of m) n
  listing : {n : ℕ} (items : List Item) (table events : List ℕ)
      → Words (item_words items) → Bytes table → Bytes events → list_refusal items table events ≡ n → Gets list n
  noting : {n : ℕ} (map log : List ℕ) (e : Extent) (image : ℕ)
      → Words (e.first ∷ e.len ∷ e.age.number.0 ∷ e.age.pass.0 ∷ image ∷ []) → Bytes map → Bytes log → note_answer map log e image ≡ n → Gets note n
  writing : {n : ℕ} (map : List ℕ) (p : Piece) (image : List ℕ)
      → Words (p.first ∷ p.number ∷ p.pass ∷ []) → Bytes map → Bytes p.bytes → Bytes image → write_answer map (extent_of p) (length image) ≡ n → Gets write n
  restarting : {n : ℕ} (map log : List ℕ) → Bytes map → Bytes log → restart_answer map log ≡ n → Gets restart n
  compacting : {n : ℕ} (log new : List ℕ) → Bytes log → Bytes new → compact_answer log new ≡ n → Gets compact n

abbrev pub Reached : Entry → List ℕ → Type 0
Reached e [] = Unit {0}
Reached e (n ∷ ns) = Gets e n × Reached e ns

-- "the rest go into each description": an accepted list that stores the number n in the item at place k
pub record ItemGets (n : ℕ) : Type 0 where
  pub items : List Item
  pub k : ℕ
  pub table : List ℕ
  pub events : List ℕ
  pub inside : k < length items
  pub words : Words (item_words items)
  pub table-bytes : Bytes table
  pub event-bytes : Bytes events
  pub accepted : list_refusal items table events ≡ 0
  pub gets : (item_at (list_items items table events) k).refusal ≡ n

abbrev pub ItemsReached : List ℕ → Type 0
ItemsReached [] = Unit {0}
ItemsReached (n ∷ ns) = ItemGets n × ItemsReached ns

pub record Demand1 : Type 0 where
  pub messages : (m : Message) (table events : List ℕ) → Bytes table → OfMessage m table events
  pub lists : (items : List Item) (table events : List ℕ) → Bytes table → OfList items table events
  pub notes : (map log : List ℕ) (e : Extent) (image : ℕ) → OfNote map log e image
  pub writes : (map : List ℕ) (p : Piece) (image : List ℕ) → OfWrite map p image
  pub restarts : (map log : List ℕ) → OfRestart map log
  pub compactions : (log new : List ℕ) → OfCompact log new
  -- "For each number an input that gets it, so that no refusal is dead": for each number of each entry, so for 1 to 19, and for each of an item
  pub reached : (e : Entry) → Reached e (numbers e)
  pub items-reached : ItemsReached (3 ∷ 4 ∷ 5 ∷ 6 ∷ 7 ∷ 8 ∷ [])
