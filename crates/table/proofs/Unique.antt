-- A table has one spelling in bytes: each byte belongs to a part that the table tells, or stands behind the records and is 0.
use mathlib.Core.Path.{◌≡◌, sym, ap, ◌∙◌}
use mathlib.Core.List.{List}
use Prim.Native.Nat.{ℕ, ◌+◌, ◌-◌, ◌/◌, ◌%◌, ◌<◌}
use native.Mathlib.Nat.{zero-add}
use native.Mathlib.Decide.{dec_lt}
use native.Mathlib.Omega.{arith}
use lib.ListN.{length, get_or}
use lib.Seq.{ext_get_or}
use Rattle.common.specs.Counters.{width}
use Rattle.xdr.specs.Be.{Bytes}
use Rattle.xdr.specs.Layout.{size}
use Rattle.xdr.proofs.Numbers.{be-inj}
use Rattle.xdr.proofs.Fields.{fields-inj}
use Rattle.table.specs.Table.{Table, blank}
use Rattle.table.specs.Bytes.{lock_layout, lasts_layout, array_at, table_of}
use Rattle.table.specs.Places.{lock_place, lock_at, count_of, Holds}
use Rattle.table.proofs.Reading.{locks-length, locks-at, lock-inj}

pub holds-unique : (n m : ℕ) (X : Table) (u v : List ℕ) → Holds n X u → Holds m X v → Bytes u → Bytes v → u ≡ v
holds-unique n m X u v U W p q =
    ext_get_or 0 u v (U.shape.size ∙ sym W.shape.size) (λ b h. go b (dec_lt b width) (dec_lt b (array_at width)) (dec_lt b (lock_place 0)) (dec_lt b (lock_place n)))
  where
    same : table_of width u ≡ table_of width v
    same = U.says ∙ sym W.says

    counts : count_of u ≡ count_of v
    counts = sym (locks-length u) ∙ ap (λ (Y : Table). length Y.locks) same ∙ locks-length v

    lock : (i : ℕ) → i < n → lock_at u i ≡ lock_at v i
    lock i h =
        let c = U.shape.count in
        let d = counts in
        sym (locks-at u i (omega arith)) ∙ ap (λ (Y : Table). get_or Y.locks i blank) same ∙ locks-at v i (omega arith)

    go : (b : ℕ) → Dec (b < width) → Dec (b < array_at width) → Dec (b < lock_place 0) → Dec (b < lock_place n) → get_or u b 0 ≡ get_or v b 0
    go b (yes h) x y z = rw zero-add at (be-inj width u v 0 p q (ap (λ (Y : Table). Y.issued) same) b h)
    go b (no h) (yes x) y z =
        let k : ◌≡◌ {A = ℕ} (width + (0 + (b - width))) b = omega arith in
        rw k at (fields-inj (lasts_layout width) u v width 0 p q (ap (λ (Y : Table). Y.lasts) same) (b - width) (omega arith))
    go b (no h) (no x) (yes y) z =
        let k : ◌≡◌ {A = ℕ} (array_at width + (b - array_at width)) b = omega arith in
        rw k at (be-inj 4 u v (array_at width) p q counts (b - array_at width) (omega arith))
    go b (no h) (no x) (no y) (yes z) =
        let m : ℕ = size (lock_layout width) in
        let i : ℕ = (b - lock_place 0) / m in
        let k : ◌≡◌ {A = ℕ} (lock_place i + (b - lock_place 0) % m) b = omega arith in
        rw k at (lock-inj u v i p q (lock i (omega arith)) ((b - lock_place 0) % m) (omega arith))
    go b (no h) (no x) (no y) (no z) =
        let c = U.shape.count in
        let d = counts in
        U.shape.zeros b (omega arith) ∙ sym (W.shape.zeros b (omega arith))
