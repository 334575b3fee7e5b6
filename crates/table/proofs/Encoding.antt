-- Every table that fits its fields has bytes that hold it: zeros, with the records' array, the last numbers and the handles issued put in.
use Prim.Native.Nat.{ℕ, ◌+◌, ◌^◌, ◌≤◌, ◌<◌}
use native.Mathlib.Omega.{arith}
use mathlib.Core.List.{List, [], ◌∷◌, map}
use mathlib.Core.Path.{◌≡◌, refl, sym, ap, ◌∙◌}
use lib.ListN.{length, get_or, replicate, length-replicate, length-map}
use Rattle.common.specs.Counters.{width}
use Rattle.common.proofs.Blank.{blank, blank-bytes}
use Rattle.xdr.specs.Be.{Bytes, be, put_be}
use Rattle.xdr.specs.Layout.{fields, put_fields, Fit}
use Rattle.xdr.specs.Array.{array, put_array, Fits}
use Rattle.xdr.proofs.Numbers.{be-put-same, put_other, put-length, put-bytes}
use Rattle.xdr.proofs.Fields.{fields-ext, fields-put, put-fields-other, put-fields-length, put-fields-bytes}
use Rattle.xdr.proofs.Arrays.{array-ext, array-put, put-array-length, put-array-other, put-array-bytes}
use Rattle.xdr.proofs.Tabs.{length-tab}
use Rattle.table.specs.declared.Lock.{Lock}
use Rattle.table.specs.Table.{Table, max_records}
use Rattle.table.specs.Bytes.{lock_layout, lock_fields, lock_of, lasts_layout, array_at, table_size}
use Rattle.table.specs.Places.{lock_place, count_of, Holds}

same-locks : (rs : List Lock) → map lock_of (map lock_fields rs) ≡ rs
same-locks [] = refl
same-locks (r ∷ rs) = ap (λ (l : List Lock). r ∷ l) (same-locks rs)

rows : Table → List ℕ
rows X = put_array (lock_layout width) (replicate (table_size width) 0) (array_at width) (map lock_fields X.locks)

lasts : Table → List ℕ
lasts X = put_fields (lasts_layout width) (rows X) width 0 X.lasts

pub table_bytes : Table → List ℕ
table_bytes X = put_be width (lasts X) 0 X.issued

pub table-bytes : (X : Table) → Bytes (table_bytes X)
unfolding table_bytes lasts rows
table-bytes X =
    put-bytes width (lasts X) 0 X.issued
    (put-fields-bytes (lasts_layout width) (rows X) width 0 X.lasts
    (put-array-bytes (lock_layout width) (replicate (table_size width) 0) (array_at width) (map lock_fields X.locks) (blank-bytes (table_size width))))

pub record FitTable (X : Table) : Type 0 where
  pub few : length X.locks ≤ max_records
  pub issued : X.issued < 256 ^ width
  pub lasts : Fit (lasts_layout width) X.lasts
  pub locks : Fits (lock_layout width) (map lock_fields X.locks)

module _ (X : Table) (F : FitTable X) where
  rows_long : length (rows X) ≡ table_size width
  unfolding rows
  rows_long = put-array-length (lock_layout width) (replicate (table_size width) 0) (array_at width) (map lock_fields X.locks) ∙ length-replicate {A = ℕ} (table_size width) 0

  lasts-long : length (lasts X) ≡ table_size width
  unfolding lasts
  lasts-long = put-fields-length (lasts_layout width) (rows X) width 0 X.lasts ∙ rows_long

  -- past the last numbers stand the rows
  past : (b : ℕ) → array_at width ≤ b → get_or (table_bytes X) b 0 ≡ get_or (rows X) b 0
  unfolding table_bytes lasts
  past b h =
      put_other width (lasts X) 0 X.issued b (λ j p e. omega arith)
      ∙ put-fields-other (lasts_layout width) (rows X) width 0 X.lasts b (λ j p e. omega arith)

  array-said : array (lock_layout width) (table_bytes X) (array_at width) ≡ map lock_fields X.locks
  unfolding rows
  array-said =
      let e = length-map X.locks lock_fields in
      let f = F.few in
      array-ext (lock_layout width) (table_bytes X) (rows X) (array_at width) (array_at width) (λ j p. past (array_at width + j) (omega arith))
      ∙ array-put (lock_layout width) (replicate (table_size width) 0) (array_at width) (map lock_fields X.locks) (rw (length-replicate {A = ℕ} (table_size width) 0) (omega arith)) (omega arith) F.locks

  count : count_of (table_bytes X) ≡ length X.locks
  unfolding array
  count = sym (length-tab (count_of (table_bytes X)) (λ i. fields (lock_layout width) (table_bytes X) (lock_place i) 0)) ∙ ap length array-said ∙ length-map X.locks lock_fields

  issued-said : be width (table_bytes X) 0 ≡ X.issued
  unfolding table_bytes
  issued-said = be-put-same width (lasts X) 0 X.issued (let l = lasts-long in omega arith) F.issued

  lasts-said : fields (lasts_layout width) (table_bytes X) width 0 ≡ X.lasts
  unfolding table_bytes lasts
  lasts-said =
      fields-ext (lasts_layout width) (table_bytes X) (lasts X) width width 0 (λ j p. put_other width (lasts X) 0 X.issued (width + (0 + j)) (λ k q e. omega arith))
      ∙ fields-put (lasts_layout width) (rows X) width 0 X.lasts (let l = rows_long in omega arith) F.lasts

  pub table-held : Holds (length X.locks) X (table_bytes X)
  unfolding table_bytes rows
  table-held =
      record {
        shape = record {
          size = put-length width (lasts X) 0 X.issued ∙ lasts-long;
          count = count;
          most = F.few;
          zeros = λ b h.
              let c = count in
              let e = length-map X.locks lock_fields in
              past b (omega arith)
              ∙ put-array-other (lock_layout width) (replicate (table_size width) 0) (array_at width) (map lock_fields X.locks) b (λ j p q. omega arith)
              ∙ blank (table_size width) b;
        };
        says = λ i. record { issued = issued-said i; lasts = lasts-said i; locks = (ap (map lock_of) array-said ∙ same-locks X.locks) i };
      }
