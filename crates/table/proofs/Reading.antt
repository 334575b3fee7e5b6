-- From the table's bytes to what they say: the records, the last numbers, and which bytes decide each of them.
use mathlib.Core.Path.{◌≡◌, refl, sym, ap, ap₂, ◌∙◌}
use mathlib.Core.List.{List, [], ◌∷◌}
use Prim.Native.Nat.{ℕ, zero, suc, ◌+◌, ◌*◌, ◌^◌, ◌≤◌, ◌<◌}
use native.Mathlib.Nat.{add-zero, zero-add, add_assoc, mul-zero, mul-suc, add_comm}
use native.Mathlib.Numerals.{add-one}
use native.Mathlib.Omega.{arith}
use lib.ListN.{length, get_or, take, drop, replicate, drop_of_length-le}
use lib.Seq.{drop-cons}
use Rattle.common.specs.Counters.{width}
use Rattle.xdr.specs.Be.{Bytes, be}
use Rattle.xdr.specs.Layout.{fields, size}
use Rattle.xdr.specs.Array.{array}
use Rattle.xdr.specs.Tab.{tab}
use Rattle.xdr.proofs.Fields.{fields-ext, fields_at, fields-inj}
use Rattle.xdr.proofs.Tabs.{length-tab, get_or-tab, tab-ext, map-tab}
use Rattle.table.specs.declared.Lock.{Lock}
use Rattle.table.specs.Table.{blank, with_mark, last_of, stripe_count}
use Rattle.table.specs.Bytes.{shown_layout, shown_of, lock_layout, lock_fields, lock_of, lasts_layout, locks_of, table_of}
use Rattle.table.specs.Places.{last_place, lock_place, lock_at, count_of, ShownFits, LockFits, Shape}

pub locks-tab : (t : List ℕ) → locks_of width t ≡ tab (count_of t) (lock_at t)
unfolding array lock_at
locks-tab t = map-tab lock_of (count_of t) (λ i. fields (lock_layout width) t (lock_place i) 0)

pub locks-length : (t : List ℕ) → length (locks_of width t) ≡ count_of t
locks-length t = rw (locks-tab t) (length-tab (count_of t) (lock_at t))

pub locks-at : (t : List ℕ) (i : ℕ) → i < count_of t → get_or (locks_of width t) i blank ≡ lock_at t i
locks-at t i h = rw (locks-tab t) (get_or-tab (count_of t) (lock_at t) i blank h)

-- the records from place i on, for a loop that goes up by one
pub locks-from : (t : List ℕ) (i : ℕ) → i < count_of t → drop i (locks_of width t) ≡ lock_at t i ∷ drop (i + 1) (locks_of width t)
locks-from t i h =
    rw (add-one) (drop-cons (locks_of width t) i blank (rw locks-length h) ∙ ap (λ (l : Lock). l ∷ drop (suc i) (locks_of width t)) (locks-at t i h))

pub locks-end : (t : List ℕ) (i : ℕ) → count_of t ≤ i → drop i (locks_of width t) ≡ []
locks-end t i h = drop_of_length-le (locks_of width t) {i = i} (rw locks-length h)

pub inside : (n i : ℕ) (t : List ℕ) → Shape n t → i < n → i < length (locks_of width t)
inside n i t S h = let l = locks-length t in let c = S.count in omega arith

-- r is the record at place i
pub nth-is : (n i : ℕ) (t : List ℕ) (r : Lock) → Shape n t → i < n → r ≡ lock_at t i → get_or (locks_of width t) i blank ≡ r
nth-is n i t r S h e = locks-at t i (let c = S.count in omega arith) ∙ sym e

-- r, of what is shown where the record at place i starts and of the mark behind it, is that record
module _ (t : List ℕ) (i p m : ℕ) (s r : Lock) (h : r ≡ with_mark s m) where
  pub lock-read : p ≡ lock_place i → s ≡ shown_of (fields (shown_layout width) t p 0) → m ≡ be 4 t (p + size (shown_layout width)) → r ≡ lock_at t i
  unfolding lock_at fields
  lock-read e f g =
      h ∙ ap₂ (λ (x : Lock) (y : ℕ). with_mark x y) f g
      ∙ ap (λ (k : ℕ). with_mark (shown_of (fields (shown_layout width) t k 0)) (be 4 t (k + size (shown_layout width)))) e

  pub lock-read-fits : ShownFits s → m < 256 ^ 4 → LockFits r
  lock-read-fits f k = rw h (f.0, (f.1.0, (f.1.1.0, (f.1.1.1.0, (f.1.1.1.1.0, (f.1.1.1.1.1.0, (f.1.1.1.1.1.1.0, (f.1.1.1.1.1.1.1.0, (k, tt)))))))))

-- r, read where field k of the record that starts at p stands, is the record's
pub field-read : (k : ℕ) → k < length (lock_layout width) → (t : List ℕ) (i p r : ℕ) → p ≡ lock_place i
    → r ≡ be (get_or (lock_layout width) k 0) t (p + size (take k (lock_layout width))) → r ≡ get_or (lock_fields (lock_at t i)) k 0
unfolding lock_at fields
field-read k h t i p r e q =
    rw (q, e) (sym (fields_at (lock_layout width) t (lock_place i) 0 k h ∙ rw zero-add refl))

-- bytes that agree have the same record, and the same record has bytes that agree
pub lock-ext : (s t : List ℕ) (i : ℕ) → ((j : ℕ) → j < size (lock_layout width) → get_or s (lock_place i + j) 0 ≡ get_or t (lock_place i + j) 0) → lock_at s i ≡ lock_at t i
unfolding lock_at
lock-ext s t i h = ap lock_of (fields-ext (lock_layout width) s t (lock_place i) (lock_place i) 0 (λ j p. rw zero-add (h j p)))

pub lock-inj : (s t : List ℕ) (i : ℕ) → Bytes s → Bytes t → lock_at s i ≡ lock_at t i
    → (j : ℕ) → j < size (lock_layout width) → get_or s (lock_place i + j) 0 ≡ get_or t (lock_place i + j) 0
unfolding lock_at fields
lock-inj s t i p q e j h = rw zero-add at (fields-inj (lock_layout width) s t (lock_place i) 0 p q (ap lock_fields e) j h)

-- fields of one width are a row
row : (n w : ℕ) (t : List ℕ) (at o : ℕ) → fields (replicate n w) t at o ≡ tab n (λ i. be w t (at + (o + w * i)))
unfolding fields tab
row zero w t at o = refl
row (suc n) w t at o =
    ap₂ (λ (x : ℕ) (l : List ℕ). x ∷ l) (rw (mul-zero, add-zero))
    (row n w t at (o + w) ∙ tab-ext n _ _ (λ i p. rw (mul-suc, add_assoc o w, add_comm w)))

pub lasts-tab : (t : List ℕ) → fields (lasts_layout width) t width 0 ≡ tab stripe_count (λ s. be width t (last_place s))
lasts-tab t = row stripe_count width t width 0 ∙ tab-ext stripe_count _ _ (λ i p. rw zero-add)

pub last-at : (t : List ℕ) (s : ℕ) → s < stripe_count → last_of (table_of width t) s ≡ be width t (last_place s)
last-at t s h = rw (lasts-tab t) (get_or-tab stripe_count (λ k. be width t (last_place k)) s 0 h)

pub lasts-length : (t : List ℕ) → length (table_of width t).lasts ≡ stripe_count
lasts-length t = rw (lasts-tab t) (length-tab stripe_count (λ s. be width t (last_place s)))
