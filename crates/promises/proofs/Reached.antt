-- No refusal of a message is dead: for each of 1 to 11 a table in bytes and a message that get it. The thought: a sound table has bytes, and of these
-- bytes the message's number is the first hit of its own list.
use Prim.Native.Nat.{ℕ, zero, suc, ◌+◌, ◌≤◌, ◌<◌}
use native.Mathlib.Omega.{arith}
use native.Mathlib.Numerals.{add-one}
use mathlib.Core.Bool.{Bool, true, false}
use mathlib.Core.List.{List, [], ◌∷◌, ◌++◌}
use mathlib.Core.Path.{◌≡◌, refl, ap, subst, ◌∙◌}
use lib.Dec.{T}
use lib.ListN.{length, replicate, length-replicate, length-append}
use borrow.Author.Tests.{le-leb, le-ltb}
use Rattle.common.specs.Counters.{width, handle, number}
use Rattle.common.specs.Refusals.{first_hit}
use Rattle.table.specs.declared.Lock.{Lock}
use Rattle.table.specs.Table.{Table, empty, stripe_count, max_records}
use Rattle.table.specs.Sound.{sound, valid, room, agree}
use Rattle.table.specs.Bytes.{sound_table_bytes}
use Rattle.table.proofs.Facts.{Sound, sound→, →sound}
use Rattle.table.proofs.Encoding.{table_bytes, table-held}
use Rattle.table.proofs.Fitting.{sound-fits}
use Rattle.table.proofs.Zeros.{holds-sound, empty-sound}
use Rattle.locks.specs.declared.Item.{Item}
use Rattle.locks.specs.declared.Message.{Message}
use Rattle.locks.specs.declared.Message.TheVariants.{Request}
use Rattle.locks.specs.Refusals.{rules}
use Rattle.locks.specs.Serve.{Outcome, asking, serve}
use Rattle.locks.specs.Events.{events_size}
use Rattle.locks.specs.List.{max_items, item_at, request_of, serve_list, list_events_size}
use Rattle.locks.proofs.Served.{asked}
use Rattle.message.specs.Messages.{outcome}
use Rattle.list.specs.Lists.{list_refusal, list_items}
use Rattle.promises.proofs.Outcomes.{served-hit}
use Rattle.promises.proofs.Lists.{list-unsound, list-crowded, list-accepted, items-are}
use Rattle.promises.proofs.Sessions.{outcome-is}

abbrev pub buffer : List ℕ
buffer = replicate (events_size width) 0

pub buffer-long : length buffer ≡ events_size width
buffer-long = length-replicate {A = ℕ} (events_size width) 0

abbrev pub list-buffer : List ℕ
list-buffer = replicate (list_events_size width) 0

pub list-buffer-long : length list-buffer ≡ list_events_size width
list-buffer-long = length-replicate {A = ℕ} (list_events_size width) 0

-- the message's own list decides
pub gets-own : (X : Table) (m : Message) → T (sound X) → (outcome m (table_bytes X) buffer).refusal ≡ first_hit (rules X m)
gets-own X m s =
    let H = table-held X (sound-fits X s) in
    ap (λ (o : Outcome). o.refusal) (outcome-is m (table_bytes X) buffer (holds-sound (length X.locks) X (table_bytes X) H s) (let e = buffer-long in omega arith))
    ∙ ap (λ (Y : Table). (serve Y m).refusal) H.says
    ∙ served-hit X m

-- 1 and 2, of any message
pub no-events : (m : Message) → (outcome m [] []).refusal ≡ 1
unfolding outcome
no-events m = refl

no_table : (m : Message) (b : List ℕ) → events_size width ≤ length b → (outcome m [] b).refusal ≡ 2
unfolding outcome sound_table_bytes
no_table m b h = rw (le-ltb (length b) (events_size width) h)

pub another-length : (m : Message) → (outcome m [] buffer).refusal ≡ 2
another-length m = no_table m buffer (let e = buffer-long in omega arith)

-- 3 to 6, and 9, on the empty table
pub on-empty : (m : Message) (n : ℕ) → first_hit (rules empty m) ≡ n → (outcome m (table_bytes empty) buffer).refusal ≡ n
on-empty m n e = gets-own empty m empty-sound ∙ e

-- 7 on a table that issued every handle
abbrev pub spent : Table
spent = record { issued = 4294967295; lasts = replicate stripe_count 0; locks = [] }

pub spent-sound : T (sound spent)
unfolding sound room
spent-sound = tt

pub none_left : (outcome (Request 0 0 1 0 0 false) (table_bytes spent) buffer).refusal ≡ 7
unfolding rules
none_left = gets-own spent (Request 0 0 1 0 0 false) spent-sound

-- 8 on a table of 256 requests, each added as a request is
pub queue : ℕ → List Lock
queue zero = []
queue (suc n) = queue n ++ (asking (n + 1) 0 0 1 0 0 false ∷ [])

queue_long : (n : ℕ) → length (queue n) ≡ n
unfolding queue
queue_long zero = refl
queue_long (suc n) = let e = queue_long n in omega (arith, length-append (queue n) (asking (n + 1) 0 0 1 0 0 false ∷ []))

queue-sound : (n : ℕ) → n ≤ max_records → Sound n (replicate stripe_count 0) (queue n)
unfolding queue
queue-sound zero h = sound→ empty empty-sound
queue-sound (suc n) h =
    subst (λ (k : ℕ). Sound k (replicate stripe_count 0) (queue n ++ (asking (n + 1) 0 0 1 0 0 false ∷ []))) (add-one n)
    (asked n (replicate stripe_count 0) (queue n) 0 0 1 0 0 false (queue-sound n (omega arith)) (omega arith) (omega arith) (omega arith) (omega arith) (omega arith) (omega arith) (omega arith) (let e = queue_long n in omega arith))

module _ (n : ℕ) where
  pub queued : Table
  queued = record { issued = n; lasts = replicate stripe_count 0; locks = queue n }

  pub queued-sound : n ≤ max_records → T (sound queued)
  unfolding queued
  queued-sound h = →sound queued (queue-sound n h)

  pub crowded : (k : Bool) → n ≡ max_records → first_hit (rules queued (Request 0 0 1 0 0 k)) ≡ 8
  unfolding rules queued
  crowded k e = rw (queue_long n, le-leb max_records n (omega arith), e)

pub no_room : (outcome (Request 0 0 1 0 0 false) (table_bytes (queued max_records)) buffer).refusal ≡ 8
no_room = gets-own (queued max_records) (Request 0 0 1 0 0 false) (queued-sound max_records (omega arith)) ∙ crowded max_records false refl

-- Of a list: 1, 2 and 19, and each number of an item on the same tables
pub list-no-events : list_refusal [] [] [] ≡ 1
list-no-events = refl

pub list-no-table : list_refusal [] [] list-buffer ≡ 2
unfolding sound_table_bytes
list-no-table = list-unsound [] [] list-buffer (let e = list-buffer-long in omega arith) refl

-- the table X in bytes, and its list
module _ (X : Table) (s : T (sound X)) (xs : List Item) where
  sounds : sound_table_bytes (table_bytes X) ≡ true
  sounds = holds-sound (length X.locks) X (table_bytes X) (table-held X (sound-fits X s)) s

  pub too_many : max_items < length xs → list_refusal xs (table_bytes X) list-buffer ≡ 19
  too_many h = list-crowded xs (table_bytes X) list-buffer (let e = list-buffer-long in omega arith) sounds h

  pub lets-through : length xs ≤ max_items → list_refusal xs (table_bytes X) list-buffer ≡ 0
  lets-through h = list-accepted xs (table_bytes X) list-buffer sounds h (let e = list-buffer-long in omega arith)

pub item-gets : (X : Table) (s : T (sound X)) (x : Item) (n : ℕ) → first_hit (rules X (request_of x)) ≡ n → (item_at (list_items (x ∷ []) (table_bytes X) list-buffer) 0).refusal ≡ n
unfolding serve_list
item-gets X s x n e =
    ap (λ (l : List Item). (item_at l 0).refusal) (items-are (x ∷ []) (table_bytes X) list-buffer (sounds X s (x ∷ [])) (omega arith) (let l = list-buffer-long in omega arith))
    ∙ ap (λ (Y : Table). (serve Y (request_of x)).refusal) (table-held X (sound-fits X s)).says ∙ served-hit X (request_of x) ∙ e

-- 10 and 11 on a table of one lock in state 1
abbrev pub lonely : Table
lonely =
    record {
      issued = 1;
      lasts = replicate stripe_count 0;
      locks = record { handle = handle 1; client = 0; stripe = 0; mode = 1; state = 1; number = number 0; first = 0; last = 0; mark = 0 } ∷ [];
    }

lonely-sound : T (sound lonely)
unfolding sound room valid agree
lonely-sound = tt

pub on-lonely : (m : Message) (n : ℕ) → first_hit (rules lonely m) ≡ n → (outcome m (table_bytes lonely) buffer).refusal ≡ n
on-lonely m n e = gets-own lonely m lonely-sound ∙ e
