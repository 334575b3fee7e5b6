-- One item: what the single request leaves is what the item's outcome says, refused or not.
use Prim.Native.Nat.{ℕ}
use mathlib.Core.Bool.{Bool, true, false, not}
use mathlib.Core.List.{List}
use mathlib.Core.Path.{◌≡◌, refl, sym, ap, subst}
use lib.Dec.{T, eqb}
use lib.ListN.{length}
use Rattle.common.specs.Counters.{width}
use Rattle.table.specs.Table.{Table}
use Rattle.table.specs.Sound.{sound}
use Rattle.table.specs.Bytes.{table_of}
use Rattle.table.specs.Places.{count_of, Shape, Holds, Good}
use Rattle.locks.specs.declared.Item.{Item}
use Rattle.locks.specs.Refusals.{rules}
use Rattle.locks.specs.Serve.{Outcome, answered, change, serve}
use Rattle.locks.specs.List.{request_of}
use Rattle.locks.proofs.Served.{by-served, serve-sound}
use Rattle.serve.specs.declared.Answer.{Answer}
use Rattle.serve.specs.Posts.{Behind}
use Rattle.list.specs.Posts.{outcome_of, ServesItem}

-- the shape that the bytes have, told by their own count
pub own-count : (n : ℕ) (u : List ℕ) → Shape n u → Shape (count_of u) u
own-count n u S = subst (λ (m : ℕ). Shape m u) (sym S.count) S

-- a table that a call has refused is as it was
still : (o : Outcome) (t u : List ℕ) → Shape (count_of t) t → (T (not (eqb o.refusal 0)) → o.table ≡ table_of width t)
    → (T (not (eqb o.refusal 0)) → u ≡ t) → (T (eqb o.refusal 0) → Holds (length o.table.locks) o.table u) → Holds (count_of u) o.table u
still o t u S z same table = go (eqb o.refusal 0) z same table
  where
    go : (y : Bool) → (T (not y) → o.table ≡ table_of width t) → (T (not y) → u ≡ t) → (T y → Holds (length o.table.locks) o.table u) → Holds (count_of u) o.table u
    go true z same table = record { shape = own-count (length o.table.locks) u (table tt).shape; says = (table tt).says }
    go false z same table = subst (λ (v : List ℕ). Holds (count_of v) o.table v) (sym (same tt)) (record { shape = S; says = sym (z tt) })

refused-table : (x : Item) (X : Table) → T (not (eqb (serve X (request_of x)).refusal 0)) → (serve X (request_of x)).table ≡ X
unfolding serve
refused-table x X =
    by-served (rules X (request_of x)) (answered X (request_of x)) (change X (request_of x)) X (λ (o : Outcome). T (not (eqb o.refusal 0)) → o.table ≡ X) (λ e n. absurd n) (λ n. refl)

pub item-served : (k : ℕ) (x : Item) (t b : List ℕ) (a : Answer) (s : ℕ) (u c : List ℕ) (n : ℕ) → Shape n t → Behind k (outcome_of t x) t b a s u c
    → ServesItem k x t b (record { client = x.client; stripe = x.stripe; mode = x.mode; first = x.first; last = x.last; refusal = a.refusal; handle = a.handle; events = a.events }) s u c
item-served k x t b a s u c n S B = record {
  item = ap (λ (q : Answer). record { client = x.client; stripe = x.stripe; mode = x.mode; first = x.first; last = x.last; refusal = q.refusal; handle = q.handle; events = q.events }) B.answer;
  table = still (outcome_of t x) t u (own-count n t S) (refused-table x (table_of width t)) B.same B.table;
  events = B.events;
  count = B.count;
}

-- an item leaves a good table
pub item-good : (t u : List ℕ) (x : Item) → Good (count_of t) t → Holds (count_of u) (outcome_of t x).table u → Good (count_of u) u
item-good t u x G H = record { shape = H.shape; sounds = subst (λ (Y : Table). T (sound Y)) (sym H.says) (serve-sound (table_of width t) (request_of x) G.sounds) }
