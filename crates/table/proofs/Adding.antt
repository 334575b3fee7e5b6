-- `add`: with the count one more, the place behind the last record is a record, whatever it says; then it is stored as any record is.
use mathlib.Core.Path.{◌≡◌, subst, ◌∙◌}
use mathlib.Core.List.{List, [], ◌∷◌, ◌++◌}
use Prim.Native.Nat.{ℕ, ◌+◌, ◌<◌}
use native.Mathlib.Numerals.{add-one}
use native.Mathlib.Omega.{arith}
use lib.Seq.{set_at}
use Rattle.common.specs.Counters.{width}
use Rattle.xdr.specs.Be.{put_be}
use Rattle.xdr.specs.Tab.{tab}
use Rattle.xdr.proofs.Tabs.{tab-snoc}
use Rattle.table.specs.declared.Lock.{Lock}
use Rattle.table.specs.Table.{Table, max_records}
use Rattle.table.specs.Bytes.{array_at, locks_of, table_of}
use Rattle.table.specs.Places.{lock_at, Shape, Holds, with_lock, with_locks}
use Rattle.table.proofs.Reading.{locks-tab, locks-length}
use Rattle.table.proofs.Stores.{recounted}

module _ (n : ℕ) (t : List ℕ) (T : Shape n t) (h : n < max_records) where
  more : tab (n + 1) (lock_at t) ≡ locks_of width t ++ (lock_at t n ∷ [])
  more = rw (add-one, locks-tab t, T.count) (tab-snoc n (lock_at t))

  pub grown : Holds (n + 1) (with_locks (table_of width t) (locks_of width t ++ (lock_at t n ∷ []))) (put_be 4 t (array_at width) (n + 1))
  grown =
      let c = T.count in
      subst (λ (ls : List Lock). Holds (n + 1) (with_locks (table_of width t) ls) (put_be 4 t (array_at width) (n + 1))) more
      (recounted n (n + 1) t T (omega arith) (λ b q. T.zeros b (omega arith)))

  pub added : (l : Lock) (u : List ℕ) → Holds (n + 1) (with_lock (table_of width (put_be 4 t (array_at width) (n + 1))) n l) u
      → Holds (n + 1) (with_locks (table_of width t) (locks_of width t ++ (l ∷ []))) u
  added l u H =
      subst (λ (ls : List Lock). Holds (n + 1) (with_locks (table_of width t) ls) u)
      (set_at (locks_of width t) (lock_at t n) [] l n (locks-length t ∙ T.count))
      (subst (λ (X : Table). Holds (n + 1) (with_lock X n l) u) grown.says H)
