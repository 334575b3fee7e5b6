-- What the functions of settling promise each other. Of these `Leads`, `Did` and `put_events` are seen outside, by what serves a message or an item of a list.
use Rattle.std.specs.Prelude.{ℕ, ◌+◌, ◌<◌, ◌≡◌, Bool, cond, List, [], ◌∷◌, map, T, length, Option}
use Rattle.std.specs.Option.{MatchOption}
use Rattle.common.specs.Counters.{width}
use Rattle.common.specs.Tests.{any}
use Rattle.xdr.specs.Array.{put_elements}
use Rattle.modes.specs.Codes.{granted, asked, canceling}
use Rattle.table.specs.declared.Lock.{Lock}
use Rattle.table.specs.declared.Table as lent
use Rattle.table.specs.Table.{Table, nth}
use Rattle.table.specs.Bytes.{locks_of, table_of}
use Rattle.table.specs.Places.{LockFits, Shape, Holds, Good, First, with_lock}
use Rattle.locks.specs.Conflicts.{hurries}
use Rattle.locks.specs.Settle.{Event, Settled, given, in_state, revocation, last_given, next_number, lasts_after, free, wanted}
use Rattle.locks.specs.Events.{event_layout, event_fields}
use Rattle.settle.specs.declared.Events.{Events}
use Rattle.settle.specs.declared.Kind.{Kind}
use Rattle.settle.specs.declared.Kind.TheVariants.{Grant, Revocation}

-- what w becomes when it is granted among the records rs with the number v
abbrev pub granted_as : List Lock → Lock → ℕ → Lock
granted_as rs w v = cond (any (hurries w) rs) (given w canceling v w.last) (given w granted v (last_given rs w))

abbrev pub with_lasts : Table → List ℕ → Table
with_lasts t ls = record { issued = t.issued; lasts = ls; locks = t.locks }

-- r is the number that w's grant takes from the table T, and u is the table after it
pub record Took (n : ℕ) (w : Lock) (T : Table) (r : ℕ) (u : List ℕ) : Type 0 where
  pub number : r ≡ next_number T.lasts w
  pub table : Holds n (with_lasts T (lasts_after T.lasts w)) u

-- w, the record at place i, is due to be granted
pub record Due (n i : ℕ) (w : Lock) (t : List ℕ) : Type 0 where
  pub good : Good n t
  pub place : i < n
  pub is : nth (table_of width t) i ≡ w
  pub free : T (free (locks_of width t) w)

-- the number of a kind of event
abbrev pub number_of : Kind → ℕ
number_of k = elim k [ Grant ↦ 1 | Revocation ↦ 2 ]

-- the events es in the buffer b, after k others
abbrev pub put_events : List ℕ → ℕ → List Event → List ℕ
put_events b k es = put_elements (event_layout width) b 0 k (map event_fields es)

-- a table with no events yet
abbrev pub fresh : Table → Settled
fresh t = record { table = t; events = [] }

-- the bytes u and c, from the buffer b, and the count r are what s says: its table, and its events after k others
pub record Did (n k : ℕ) (s : Settled) (b : List ℕ) (r : ℕ) (u c : List ℕ) : Type 0 where
  pub table : Holds n s.table u
  pub bytes : c ≡ put_events b k s.events
  pub count : r ≡ k + length s.events

-- the table u and the buffer f, lent as the table t and the buffer e were, are what s says
abbrev pub Leads : lent.Table → Events → Settled → lent.Table → Events → Type 0
Leads t e s u f =
    Did u.n e.k s e.bytes.now f.k u.bytes.now f.bytes.now × (u.n ≡ t.n) × (u.bytes.ghost_name ≡ t.bytes.ghost_name) × (f.bytes.ghost_name ≡ e.bytes.ghost_name)

-- the revocation of the record at place i, if it is wanted
unfoldable pub revoke_at : ℕ → Table → Settled
revoke_at i t =
    let r = in_state asked (nth t i) in
    cond (wanted t.locks (nth t i)) (record { table = with_lock t i r; events = revocation r ∷ [] }) (fresh t)

-- r, the record at place i, is wanted
pub record Wanted (n i : ℕ) (r : Lock) (t : List ℕ) : Type 0 where
  pub shape : Shape n t
  pub place : i < n
  pub is : nth (table_of width t) i ≡ r
  pub fits : LockFits r
  pub wanted : T (wanted (locks_of width t) r)

-- r is the first of n records that has p, or none has it
abbrev pub FirstOf : (Lock → Bool) → ℕ → List Lock → Option ℕ → Type 0
FirstOf p n rs r = MatchOption r (First p n rs n) (λ f. (f < n) × First p n rs f)
