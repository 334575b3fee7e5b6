-- "Settling the table".
use Rattle.std.specs.Prelude.{ℕ, zero, suc, ◌+◌, ◌-◌, min, Bool, not, ◌&&◌, cond, List, [], ◌∷◌, ◌++◌, map, eqb, leb, length, get_or, set}
use Rattle.common.specs.Ranges.{eof}
use Rattle.common.specs.Tests.{any, keep}
use Rattle.modes.specs.Codes.{granted, asked, canceling}
use Rattle.modes.specs.Conflict.{conflict}
use Rattle.table.specs.declared.Lock.{Lock}
use Rattle.table.specs.Table.{Table, number_of, remade, nth, waits, writes, marked}
use Rattle.locks.specs.Conflicts.{other, conflicts, obstacle, hurries}

-- An event is of kind 1, a grant, or 2, a revocation, and shows the record as it then is
pub record Event : Type 0 where
  pub kind : ℕ
  pub lock : Lock

abbrev pub grant_event : Lock → Event
grant_event r = record { kind = 1; lock = r }

abbrev pub revocation : Lock → Event
revocation r = record { kind = 2; lock = r }

-- A record with another state, number and last byte; with another state
abbrev pub given : Lock → ℕ → ℕ → ℕ → Lock
given r state n last = remade r r.mode state n last

abbrev pub in_state : ℕ → Lock → Lock
in_state state r = given r state (number_of r) r.last

-- w would conflict with r if its range reached r's first byte
abbrev pub ahead : Lock → Lock → Bool
ahead w r = (other w r && (eqb w.stripe r.stripe && leb w.first r.last)) && conflict w.mode r.mode r.state

-- The greatest last byte up to `top` with which w, which conflicts with none of the records, still conflicts with none
unfoldable pub widest : Lock → ℕ → List Lock → ℕ
widest w top [] = top
widest w top (r ∷ rs) = cond (ahead w r) (min (r.first - 1) (widest w top rs)) (widest w top rs)

-- "A sequence number is taken by each grant of NBW, BW or PW, per stripe": w's, and the last numbers after it
abbrev pub next_number : List ℕ → Lock → ℕ
next_number lasts w = cond (writes w) (get_or lasts w.stripe 0 + 1) 0

abbrev pub lasts_after : List ℕ → Lock → List ℕ
lasts_after lasts w = cond (writes w) (set lasts w.stripe (get_or lasts w.stripe 0 + 1)) lasts

-- The last byte of a grant that nothing hurries: a marked request's "grant ends where it asked"; any other's is "the greatest one up to EOF for which
-- the range conflicts with no held lock and no other waiting request"
abbrev pub last_given : List Lock → Lock → ℕ
last_given rs w = cond (marked w) w.last (widest w eof rs)

-- What w becomes when it is granted among the records rs: "canceling, with the asked range (early revocation)"; "otherwise in state 1, first
-- byte as asked", and the last byte above
unfoldable pub grant : List ℕ → List Lock → Lock → Lock
grant lasts rs w =
    cond (any (hurries w) rs)
    (given w canceling (next_number lasts w) w.last)
    (given w granted (next_number lasts w) (last_given rs w))

-- w waits, and nothing keeps it waiting
abbrev pub free : List Lock → Lock → Bool
free rs w = waits w && not (any (obstacle w) rs)

-- A table that is being settled, and the events so far
pub record Settled : Type 0 where
  pub table : Table
  pub events : List Event

-- The turn of the record at place i
abbrev pub granting : ℕ → Settled → Lock → Lock → Settled
granting i s w g =
    record {
      table = record { issued = s.table.issued; lasts = lasts_after s.table.lasts w; locks = set s.table.locks i g };
      events = s.events ++ grant_event g ∷ [];
    }

unfoldable pub turn : ℕ → Settled → Settled
turn i s =
    let w = nth s.table i in
    cond (free s.table.locks w) (granting i s w (grant s.table.lasts s.table.locks w)) s

-- "waiting records of all stripes are taken in rising handle": the turns of the first n places
unfoldable pub turns : ℕ → Table → Settled
turns zero t = record { table = t; events = [] }
turns (suc n) t = turn n (turns n t)

-- "each lock in state 1 that conflicts with a waiting request becomes asked and is sent one revocation. Here the waiting request is the
-- asking side of the matrix."
abbrev pub presses : Lock → Lock → Bool
presses r w = waits w && conflicts w r

abbrev pub wanted : List Lock → Lock → Bool
wanted rs r = eqb r.state granted && any (presses r) rs

abbrev pub revoked : List Lock → Lock → Lock
revoked rs r = cond (wanted rs r) (in_state asked r) r

abbrev pub revocations : List Lock → List Event
revocations rs = map (λ r. revocation (in_state asked r)) (keep (wanted rs) rs)

-- "Events of a call: grants in rising handle, then revocations in rising handle."
abbrev pub revoke : Settled → Settled
revoke s =
    let rs = s.table.locks in
    record {
      table = record { issued = s.table.issued; lasts = s.table.lasts; locks = map (revoked rs) rs };
      events = s.events ++ revocations rs;
    }

unfoldable pub settle : Table → Settled
settle t = revoke (turns (length t.locks) t)
