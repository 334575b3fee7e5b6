-- Bytes and soundness: sound bytes say a sound table and are good, bytes that hold a sound table are sound, and so are zeros, which are the empty table.
use Prim.Native.Nat.{ℕ, zero, suc, ◌+◌, ◌-◌}
use native.Mathlib.Omega.{arith}
use mathlib.Core.Bool.{Bool, true, false, not, ◌&&◌}
use mathlib.Core.List.{List, [], ◌∷◌, map}
use mathlib.Core.Path.{◌≡◌, refl, sym, ap₂, subst, ◌∙◌}
use lib.Dec.{T, eqb, eqb→eq}
use lib.ListN.{length, get_or, drop, replicate, length-replicate}
use lib.Seq.{get_or-drop}
use borrow.Author.Tests.{eq-eqb, not-false}
use Rattle.common.specs.Counters.{width}
use Rattle.common.specs.Tests.{zeros}
use Rattle.common.proofs.Blank.{zeros-from, blank, be-blank}
use Rattle.common.proofs.Bools.{and_l, and_r, and_left, and_right, true-is}
use Rattle.xdr.specs.Layout.{fields}
use Rattle.xdr.specs.Array.{array}
use Rattle.xdr.specs.Tab.{tab}
use Rattle.table.specs.Table.{Table, empty}
use Rattle.table.specs.Sound.{room, sound}
use Rattle.table.specs.Bytes.{lock_layout, lock_of, lasts_layout, array_at, table_size, table_of, records_end, sound_table_bytes}
use Rattle.table.specs.Places.{lock_place, count_of, Holds, Good}
use Rattle.table.proofs.Facts.{sound→}
use Rattle.table.proofs.Reading.{locks-length}

pub bytes-sound : (t : List ℕ) → sound_table_bytes t ≡ true → T (sound (table_of width t))
unfolding sound_table_bytes
bytes-sound t e =
    let f = and_right (eqb (length t) (table_size width)) (sound (table_of width t) && zeros (drop (records_end width t) t)) e in
    rw (and_left (sound (table_of width t)) (zeros (drop (records_end width t) t)) f) tt

-- Bytes that hold a sound table are sound
pub holds-sound : (n : ℕ) (X : Table) (u : List ℕ) → Holds n X u → T (sound X) → sound_table_bytes u ≡ true
unfolding sound_table_bytes
holds-sound n X u H s =
    rw (eq-eqb (length u) (table_size width) H.shape.size, true-is (sound (table_of width u)) (subst (λ (x : Table). T (sound x)) (sym H.says) s))
    (zeros-from u (records_end width u) H.shape.zeros)

-- "All zeros is the empty table"
fields-blank : (ws : List ℕ) (n at o : ℕ) → fields ws (replicate n 0) at o ≡ map (λ w. 0) ws
unfolding fields
fields-blank [] n at o = refl
fields-blank (w ∷ ws) n at o = ap₂ (λ (x : ℕ) (l : List ℕ). x ∷ l) (be-blank w n (at + o)) (fields-blank ws n at (o + w))

pub zeros-empty : (n : ℕ) → table_of width (replicate n 0) ≡ empty
unfolding array tab
zeros-empty n =
    λ i. record {
      issued = be-blank width n 0 i;
      lasts = fields-blank (lasts_layout width) n width 0 i;
      locks = map lock_of (tab (be-blank 4 n (array_at width) i) (λ k. fields (lock_layout width) (replicate n 0) (lock_place k) 0));
    }

pub empty-sound : T (sound empty)
unfolding sound room
empty-sound = tt

pub zeros-sound : sound_table_bytes (replicate (table_size width) 0) ≡ true
unfolding sound_table_bytes
zeros-sound =
    rw (eq-eqb (length (replicate {A = ℕ} (table_size width) 0)) (table_size width) (length-replicate {A = ℕ} (table_size width) 0), true-is (sound (table_of width (replicate (table_size width) 0))) (subst (λ (x : Table). T (sound x)) (sym (zeros-empty (table_size width))) empty-sound))
    (zeros-from (replicate (table_size width) 0) (records_end width (replicate (table_size width) 0)) (λ b _. blank (table_size width) b))

-- A table whose bytes are sound is good: what a call knows once 2 is passed
all-zero : (xs : List ℕ) → T (zeros xs) → (k : ℕ) → get_or xs k 0 ≡ 0
all-zero [] t k = refl
all-zero (x ∷ xs) t zero = eqb→eq x 0 (and_l (eqb x 0) (zeros xs) t)
all-zero (x ∷ xs) t (suc k) = all-zero xs (and_r (eqb x 0) (zeros xs) t) k

pub sound-good : (t : List ℕ) (x : Bool) → x ≡ sound_table_bytes t → not x ≡ false → Good (count_of t) t
unfolding sound_table_bytes
sound-good t x e f =
    let from : ℕ = records_end width t in
    let s : T (eqb (length t) (table_size width) && (sound (table_of width t) && zeros (drop from t))) = subst T (sym (sym e ∙ not-false x f)) tt in
    let d : T (sound (table_of width t)) = search (and_l, and_r) in
    let z : T (zeros (drop from t)) = search (and_l, and_r) in
    let m = (sound→ (table_of width t) d).fits in
    record {
      shape = record {
        size = eqb→eq (length t) (table_size width) (search (and_l));
        count = refl;
        most = omega (arith, locks-length t);
        zeros = λ k h.
            let q : from + (k - from) ≡ k = omega arith in
            subst (λ (j : ℕ). get_or t j 0 ≡ 0) q (sym (get_or-drop from t (k - from) 0) ∙ all-zero (drop from t) z (k - from));
      };
      sounds = d;
    }
