-- What a call grants, lets wait and asks back, and why. A request has its turn at its place n in the table: "waiting records of all stripes are taken
-- in rising handle".
use Rattle.std.specs.Prelude.{ℕ, ◌≤◌, ◌<◌, ◌≡◌, not, List, T, length}
use Rattle.common.specs.Ranges.{eof}
use Rattle.common.specs.Tests.{any}
use Rattle.modes.specs.Codes.{granted, asked, canceling}
use Rattle.table.specs.declared.Lock.{Lock}
use Rattle.table.specs.Table.{Table, nth, waits, marked}
use Rattle.locks.specs.declared.Message.{Message}
use Rattle.locks.specs.Conflicts.{against, obstacle, hurries}
use Rattle.locks.specs.Settle.{Event, grant_event, revocation, given, in_state, next_number, turns, presses}
use Rattle.locks.specs.Serve.{change, serve}
use Rattle.promises.specs.Among.{Among}

-- The last byte l of a grant of w among the records rs is "the greatest one up to EOF for which the range conflicts with no held lock and no other
-- waiting request"
pub record Widest (w : Lock) (rs : List Lock) (l : ℕ) : Type 0 where
  pub reaches : w.last ≤ l
  pub ends : l ≤ eof
  pub clear : T (not (any (against w l) rs))
  pub greatest : (k : ℕ) → l < k → k ≤ eof → T (any (against w k) rs)

-- The event e is the grant of w in the table t: it shows w's handle, client, stripe, mode and first byte, and the next number of its stripe (0 for PR)
pub record Granted (t : Table) (w : Lock) (e : Event) : Type 0 where
  -- nothing keeps it waiting
  pub unhindered : T (not (any (obstacle w) t.locks))
  -- "if a waiting request with a larger handle conflicts with its asked range, it is granted canceling, with the asked range (early revocation)"
  pub early : T (any (hurries w) t.locks) → e ≡ grant_event (given w canceling (next_number t.lasts w) w.last)
  -- "otherwise it is granted in state 1, first byte as asked, last byte the greatest one ..": "Widening in demand 2 now speaks of requests without this mark"
  pub widened :
      T (not (any (hurries w) t.locks)) → T (not (marked w))
      → (l : ℕ) × (e ≡ grant_event (given w granted (next_number t.lasts w) l)) × Widest w t.locks l
  -- "Such a request is marked: its grant ends where it asked"
  pub exact : T (not (any (hurries w) t.locks)) → T (marked w) → e ≡ grant_event (given w granted (next_number t.lasts w) w.last)

-- The table X with the message's own change, when the first n places had their turn; the record at the place n, whose turn it is; that it is a request
-- which waits
abbrev pub turned : Table → Message → ℕ → Table
turned X m n = (turns n (change X m)).table

abbrev pub at_turn : Table → Message → ℕ → Lock
at_turn X m n = nth (turned X m n) n

abbrev pub Asks : Table → Message → ℕ → Type 0
Asks X m n = (n < length (change X m).locks) × T (waits (at_turn X m n))

-- The records when all had their turn
abbrev pub settling : Table → Message → List Lock
settling X m = (turned X m (length (change X m).locks)).locks

-- Where the rules accept the message m on the table X
pub record Reasoned (X : Table) (m : Message) : Type 0 where
  -- each grant is that of a waiting request at its turn
  pub grants : (e : Event) → Among e (serve X m).events → e.kind ≡ 1 → (n : ℕ) × Asks X m n × Granted (turned X m n) (at_turn X m n) e
  -- "A request goes on waiting exactly when some held lock, or some waiting request with a smaller handle, conflicts with its asked range."
  pub exactly : (n : ℕ) → Asks X m n → waits (nth (serve X m).table n) ≡ any (obstacle (at_turn X m n)) (turned X m n).locks
  -- "Otherwise it is granted": the record that then stands there is told
  pub otherwise :
      (n : ℕ) → Asks X m n → T (not (any (obstacle (at_turn X m n)) (turned X m n).locks))
      → Among (grant_event (nth (serve X m).table n)) (serve X m).events
  -- "no waiter without an obstacle", when the call is over
  pub waiters : (w : Lock) → Among w (serve X m).table.locks → T (waits w) → T (any (obstacle w) (serve X m).table.locks)
  -- "every revocation goes to a lock that conflicts with a waiting request, and each such lock in state 1 gets one"
  pub revoked :
      (e : Event) → Among e (serve X m).events → e.kind ≡ 2
      → (r : Lock) × Among r (settling X m) × (e ≡ revocation (in_state asked r)) × (r.state ≡ granted) × T (any (presses r) (settling X m))
  pub each : (r : Lock) → Among r (settling X m) → r.state ≡ granted → T (any (presses r) (settling X m)) → Among (revocation (in_state asked r)) (serve X m).events
