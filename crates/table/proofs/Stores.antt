-- A store in one part of the table's bytes changes that part of the table, and the others stay.
use mathlib.Core.Path.{◌≡◌, refl, sym, ap, ◌∙◌}
use mathlib.Core.List.{List}
use Prim.Native.Nat.{ℕ, ◌+◌, ◌^◌, ◌≤◌, ◌<◌}
use native.Mathlib.Nat.{zero-add}
use native.Mathlib.Omega.{arith}
use lib.ListN.{length, get_or, set}
use Rattle.common.specs.Counters.{width}
use Rattle.xdr.specs.Be.{be, put_be}
use Rattle.xdr.specs.Layout.{fields, put_fields, size}
use Rattle.xdr.specs.Tab.{tab}
use Rattle.xdr.proofs.Numbers.{be-ext, be-put-same, put_other, put-length}
use Rattle.xdr.proofs.Fields.{fields-ext, fields-put, put-fields-other, put-fields-length}
use Rattle.xdr.proofs.Tabs.{tab-ext, tab-set}
use Rattle.table.specs.declared.Lock.{Lock}
use Rattle.table.specs.Table.{Table, stripe_count, max_records}
use Rattle.table.specs.Bytes.{shown_layout, shown_fields, lock_layout, lock_fields, lock_of, lasts_layout, array_at, locks_of, table_of}
use Rattle.table.specs.Places.{last_place, lock_place, lock_at, count_of, LockFits, Shape, Holds, with_issued, with_last, with_lock, with_locks}
use Rattle.table.proofs.Reading.{locks-tab, lock-ext, lasts-tab}

-- the bytes of t and u agree but in the k from a on
abbrev pub Beside : ℕ → ℕ → List ℕ → List ℕ → Type 0
Beside a k t u = (b : ℕ) → ((j : ℕ) → j < k → b ≡ a + j → ⊥) → get_or u b 0 ≡ get_or t b 0

-- the w bytes from x on are none of the k from a on
abbrev Apart : ℕ → ℕ → ℕ → ℕ → Type 0
Apart x w a k = (i j : ℕ) → i < w → j < k → x + i ≡ a + j → ⊥

module _ (a k : ℕ) (t u : List ℕ) (b : Beside a k t u) where
  number-kept : (w x : ℕ) → Apart x w a k → be w u x ≡ be w t x
  number-kept w x h = be-ext w u t x x (λ i p. b (x + i) (λ j. h i j p))

  lasts-kept : Apart width (size (lasts_layout width)) a k → fields (lasts_layout width) u width 0 ≡ fields (lasts_layout width) t width 0
  lasts-kept h = fields-ext (lasts_layout width) u t width width 0 (λ i p. rw zero-add (b (width + i) (λ j. h i j p)))

  lock-kept : (i : ℕ) → Apart (lock_place i) (size (lock_layout width)) a k → lock_at u i ≡ lock_at t i
  lock-kept i h = lock-ext u t i (λ j p. b (lock_place i + j) (λ m. h j m p))

  -- u is the table X of m records, if each part of it is X's
  told : (n m : ℕ) (X : Table) → Shape n t → length u ≡ length t → m ≤ max_records → a + k ≤ lock_place m → ((x : ℕ) → lock_place m ≤ x → get_or t x 0 ≡ 0)
      → count_of u ≡ m → be width u 0 ≡ X.issued → fields (lasts_layout width) u width 0 ≡ X.lasts → tab m (lock_at u) ≡ X.locks → Holds m X u
  told n m X T long most low z c i f ls =
      record {
        shape = record { size = long ∙ T.size; count = c; most = most; zeros = λ x q. b x (λ j r w. omega arith) ∙ z x (omega arith) };
        says = λ x. record { issued = i x; lasts = f x; locks = (locks-tab u ∙ ap (λ (m : ℕ). tab m (lock_at u)) c ∙ ls) x };
      }

  -- the count is beside them
  same : (n : ℕ) (X : Table) → Shape n t → length u ≡ length t → Apart (array_at width) 4 a k → a + k ≤ lock_place n
      → be width u 0 ≡ X.issued → fields (lasts_layout width) u width 0 ≡ X.lasts → tab (count_of t) (lock_at u) ≡ X.locks → Holds n X u
  same n X T long h low i f ls =
      let c = T.count in
      told n n X T long T.most low (λ x q. T.zeros x (omega arith)) (number-kept 4 (array_at width) h ∙ c) i f (rw (← c) ls)

  front : (n : ℕ) (X : Table) → Shape n t → length u ≡ length t → a + k ≤ array_at width
      → be width u 0 ≡ X.issued → fields (lasts_layout width) u width 0 ≡ X.lasts → locks_of width t ≡ X.locks → Holds n X u
  front n X T long low i f ls =
      same n X T long (λ x y p q w. omega arith) (omega arith) i f
      (tab-ext (count_of t) (lock_at u) (lock_at t) (λ i p. lock-kept i (λ x y q r w. omega arith)) ∙ sym (locks-tab t) ∙ ls)

module _ (n v : ℕ) (t u : List ℕ) (T : Shape n t) (p : v < 256 ^ width) where
  pub issued-stored : u ≡ put_be width t 0 v → Holds n (with_issued (table_of width t) v) u
  issued-stored e =
      let b : Beside 0 width t u = rw e (put_other width t 0 v) in
      front 0 width t u b n (with_issued (table_of width t) v) T (rw e (put-length width t 0 v)) (omega arith)
      (rw e (be-put-same width t 0 v (let s = T.size in omega arith) p)) (lasts-kept 0 width t u b (λ i j p q w. omega arith)) refl

  pub last_stored : (s : ℕ) → s < stripe_count → u ≡ put_be width t (last_place s) v → Holds n (with_last (table_of width t) s v) u
  last_stored s h e =
      let b : Beside (last_place s) width t u = rw e (put_other width t (last_place s) v) in
      front (last_place s) width t u b n (with_last (table_of width t) s v) T (rw e (put-length width t (last_place s) v)) (omega arith)
      (number-kept (last_place s) width t u b width 0 (λ i j p q w. omega arith))
      (lasts-tab u
      ∙ tab-set stripe_count (λ k. be width t (last_place k)) (λ k. be width u (last_place k)) s v
      (rw e (be-put-same width t (last_place s) v (let z = T.size in omega arith) p))
      (λ k q. number-kept (last_place s) width t u b width (last_place k) (λ i j x y w. omega arith)) h
      ∙ ap (λ (ls : List ℕ). set ls s v) (sym (lasts-tab t)))
      refl

-- one record's bytes changed, and the record there is l
module _ (n i : ℕ) (l : Lock) (t u : List ℕ) (T : Shape n t) (p : i < n) (long : length u ≡ length t) (b : Beside (lock_place i) (size (lock_layout width)) t u) (here : lock_at u i ≡ l) where
  pub changed : Holds n (with_lock (table_of width t) i l) u
  changed =
      let a : ℕ = lock_place i in
      let m : ℕ = size (lock_layout width) in
      let c = T.count in
      same a m t u b n (with_lock (table_of width t) i l) T long (λ i j p q w. omega arith) (omega arith)
      (number-kept a m t u b width 0 (λ i j p q w. omega arith)) (lasts-kept a m t u b (λ i j p q w. omega arith))
      (tab-set (count_of t) (lock_at t) (lock_at u) i l here (λ k q. lock-kept a m t u b k (λ x y r s w. omega arith)) (omega arith)
      ∙ ap (λ (ls : List Lock). set ls i l) (sym (locks-tab t)))

-- what is shown and then the mark are stored: the whole record
pub record-put : (p : ℕ) (l : Lock) (t v u : List ℕ) → v ≡ put_fields (shown_layout width) t p 0 (shown_fields l)
    → u ≡ put_be 4 v (p + size (shown_layout width)) l.mark → u ≡ put_fields (lock_layout width) t p 0 (lock_fields l)
unfolding put_fields
record-put p l t v u e f = f ∙ ap (λ (x : List ℕ). put_be 4 x (p + size (shown_layout width)) l.mark) e

pub lock-stored : (n i p : ℕ) (l : Lock) (t u : List ℕ) → Shape n t → i < n → LockFits l → p ≡ lock_place i
    → u ≡ put_fields (lock_layout width) t p 0 (lock_fields l) → Holds n (with_lock (table_of width t) i l) u
unfolding lock_at
lock-stored n i p l t u T h f e q =
    rw (q, e)
    (changed n i l t _ T h (put-fields-length (lock_layout width) t (lock_place i) 0 (lock_fields l))
    (λ k h. put-fields-other (lock_layout width) t (lock_place i) 0 (lock_fields l) k (λ j r e. h j r (omega arith)))
    (ap lock_of (fields-put (lock_layout width) t (lock_place i) 0 (lock_fields l) (let s = T.size in let m = T.most in omega arith) f)))

-- the count is stored, where zeros stand after so many records
pub recounted : (n m : ℕ) (t : List ℕ) → Shape n t → m ≤ max_records → ((x : ℕ) → lock_place m ≤ x → get_or t x 0 ≡ 0)
    → Holds m (with_locks (table_of width t) (tab m (lock_at t))) (put_be 4 t (array_at width) m)
recounted n m t T h z =
    let u : List ℕ = put_be 4 t (array_at width) m in
    let b = put_other 4 t (array_at width) m in
    told (array_at width) 4 t u b n m (with_locks (table_of width t) (tab m (lock_at t))) T (put-length 4 t (array_at width) m) h (omega arith) z
    (be-put-same 4 t (array_at width) m (let s = T.size in omega arith) (omega arith))
    (number-kept (array_at width) 4 t u b width 0 (λ i j p q w. omega arith)) (lasts-kept (array_at width) 4 t u b (λ i j p q w. omega arith))
    (tab-ext m (lock_at u) (lock_at t) (λ i p. lock-kept (array_at width) 4 t u b i (λ x y q r w. omega arith)))
