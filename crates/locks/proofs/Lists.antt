-- A list of requests is its items' messages one after the other: what it sends, and the table that it leaves, are those of the session.
use Prim.Native.Nat.{ℕ, zero, suc, ◌≤◌, ◌<◌}
use native.Mathlib.Omega.{arith}
use mathlib.Core.List.{List, [], ◌∷◌, ◌++◌, map, append_assoc}
use mathlib.Core.Path.{◌≡◌, refl, sym, ap, ◌∙◌}
use lib.Dec.{T}
use lib.ListN.{length, take}
use Rattle.common.specs.Tests.{all}
use Rattle.table.specs.Table.{Table}
use Rattle.table.specs.Sound.{sound}
use Rattle.locks.specs.declared.Item.{Item}
use Rattle.locks.specs.declared.Message.{Message}
use Rattle.locks.specs.Settle.{Event}
use Rattle.locks.specs.Serve.{serve}
use Rattle.locks.specs.Session.{table_after, events, requests}
use Rattle.locks.specs.List.{item_at, request_of, answered_item, serve_list, max_list_events}
use Rattle.locks.proofs.Served.{serve-sound}
use Rattle.locks.proofs.Fitting.{FitEvents, fit-join, serve-fit}
use Rattle.locks.proofs.Weight.{requests-few}

pub list-table : (t : Table) (is : List Item) → (serve_list t is).table ≡ table_after t (map request_of is)
unfolding serve_list
list-table t [] = refl
list-table t (i ∷ is) = list-table (serve t (request_of i)).table is

pub list-events : (t : Table) (is : List Item) → (serve_list t is).events ≡ events t (map request_of is)
unfolding serve_list
list-events t [] = refl
list-events t (i ∷ is) = ap (λ (es : List Event). (serve t (request_of i)).events ++ es) (list-events (serve t (request_of i)).table is)

-- messages, and then others
pub tables-join : (t : Table) (ms ns : List Message) → table_after t (ms ++ ns) ≡ table_after (table_after t ms) ns
tables-join t [] ns = refl
tables-join t (m ∷ ms) ns = tables-join (serve t m).table ms ns

pub events-join : (t : Table) (ms ns : List Message) → events t (ms ++ ns) ≡ events t ms ++ events (table_after t ms) ns
events-join t [] ns = refl
events-join t (m ∷ ms) ns =
    ap (λ (es : List Event). (serve t m).events ++ es) (events-join (serve t m).table ms ns)
    ∙ sym (append_assoc (serve t m).events (events (serve t m).table ms) (events (table_after (serve t m).table ms) ns))

-- "find each one's answer stored in its own description": that of the single marked request on the table that the items before it left
pub list-long : (t : Table) (is : List Item) → length (serve_list t is).items ≡ length is
unfolding serve_list
list-long t [] = refl
list-long t (i ∷ is) = ap suc (list-long (serve t (request_of i)).table is)

pub list-item : (t : Table) (is : List Item) (k : ℕ) → k < length is
    → item_at (serve_list t is).items k ≡ answered_item (item_at is k) (serve (table_after t (map request_of (take k is))) (request_of (item_at is k)))
unfolding serve_list
list-item t [] k h = absurd (let z : ⊥ = omega arith in z)
list-item t (i ∷ is) zero h = refl
list-item t (i ∷ is) (suc k) h = list-item (serve t (request_of i)).table is k (omega arith)

-- the table stays sound on the way
pub after-sound : (t : Table) (ms : List Message) → T (sound t) → T (sound (table_after t ms))
after-sound t [] s = s
after-sound t (m ∷ ms) s = after-sound (serve t m).table ms (serve-sound t m s)

-- all events fit their fields
pub list-fit : (t : Table) (is : List Item) → T (sound t) → FitEvents (serve_list t is).events
unfolding serve_list
list-fit t [] s = tt
list-fit t (i ∷ is) s =
    fit-join (serve t (request_of i)).events (serve_list (serve t (request_of i)).table is).events (serve-fit t (request_of i) s)
    (list-fit (serve t (request_of i)).table is (serve-sound t (request_of i) s))

-- each item comes back, with what it asked
pub list-asked : (t : Table) (is : List Item) → map request_of (serve_list t is).items ≡ map request_of is
unfolding serve_list
list-asked t [] = refl
list-asked t (i ∷ is) = ap (λ ms. request_of i ∷ ms) (list-asked (serve t (request_of i)).table is)

-- a list leaves a sound table
pub list-sound : (t : Table) (is : List Item) → T (sound t) → T (sound (serve_list t is).table)
unfolding serve_list
list-sound t [] s = s
list-sound t (i ∷ is) s = list-sound (serve t (request_of i)).table is (serve-sound t (request_of i) s)

-- "At most 512 events arise"
pub all-requests : (is : List Item) → T (all requests (map request_of is))
all-requests [] = tt
all-requests (i ∷ is) = all-requests is

pub list-few : (t : Table) (is : List Item) → T (sound t) → length (serve_list t is).events ≤ max_list_events
list-few t is s = rw (list-events t is) (requests-few t (map request_of is) (all-requests is) s)
