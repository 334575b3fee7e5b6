-- The laws of `put_elements`: the first element is a structure, and the others are the elements from the next place on.
use mathlib.Core.Path.{◌≡◌, refl, ◌∙◌}
use mathlib.Core.List.{List, [], ◌∷◌}
use Prim.Native.Nat.{ℕ, zero, suc, ◌+◌, ◌*◌, ◌≤◌, ◌<◌}
use native.Mathlib.Nat.{add-zero, add-suc, suc-add, not-suc-le-zero}
use native.Mathlib.Omega.{arith}
use lib.ListN.{length, get_or}
use Rattle.xdr.specs.Be.{Bytes}
use Rattle.xdr.specs.Layout.{fields, put_fields, size}
use Rattle.xdr.specs.Tab.{tab}
use Rattle.xdr.specs.Array.{element, put_elements, Fits}
use Rattle.xdr.proofs.Fields.{fields-ext, fields-put, put-fields, put-fields-other, put-fields-length, put-fields-bytes}

-- a store of elements keeps the length
pub put-elements-length : (ws t : List ℕ) (at k : ℕ) (vss : List (List ℕ)) → length (put_elements ws t at k vss) ≡ length t
unfolding put_elements
put-elements-length ws t at k [] = refl
put-elements-length ws t at k (vs ∷ vss) =
    put-elements-length ws (put_fields ws t (element ws at k) 0 vs) at (suc k) vss ∙ put-fields-length ws t (element ws at k) 0 vs

-- bytes stay bytes
pub put-elements-bytes : (ws t : List ℕ) (at k : ℕ) (vss : List (List ℕ)) → Bytes t → Bytes (put_elements ws t at k vss)
unfolding put_elements
put-elements-bytes ws t at k [] h = h
put-elements-bytes ws t at k (vs ∷ vss) h =
    put-elements-bytes ws (put_fields ws t (element ws at k) 0 vs) at (suc k) vss (put-fields-bytes ws t (element ws at k) 0 vs h)

-- a byte that is not among them keeps its value
pub put-elements-other : (ws t : List ℕ) (at k : ℕ) (vss : List (List ℕ)) (b : ℕ)
    → ((j : ℕ) → j < size ws * length vss → b ≡ element ws at k + j → ⊥) → get_or (put_elements ws t at k vss) b 0 ≡ get_or t b 0
unfolding put_elements
put-elements-other ws t at k [] b h = refl
put-elements-other ws t at k (vs ∷ vss) b h =
    put-elements-other ws (put_fields ws t (element ws at k) 0 vs) at (suc k) vss b (λ j p e. h (size ws + j) (omega arith) (omega arith))
    ∙ put-fields-other ws t (element ws at k) 0 vs b (λ j p e. h j (omega arith) (omega arith))

-- what was stored is read, at each place
pub elements-put : (ws t : List ℕ) (at k : ℕ) (vss : List (List ℕ)) → element ws at (k + length vss) ≤ length t → Fits ws vss
    → (i : ℕ) → i < length vss → fields ws (put_elements ws t at k vss) (element ws at (k + i)) 0 ≡ get_or vss i []
unfolding put_elements
elements-put ws t at k [] h f i p = absurd (not-suc-le-zero p)
elements-put ws t at k (vs ∷ vss) h f zero p =
    let a = element ws at k in
    let X = put_fields ws t a 0 vs in
    rw (add-zero k)
    (fields-ext ws _ X a a 0 (λ j q. put-elements-other ws X at (suc k) vss (a + (0 + j)) (λ i r e. omega arith))
    ∙ fields-put ws t a 0 vs (omega arith) f.0)
elements-put ws t at k (vs ∷ vss) h f (suc i) p =
    rw (add-suc k i, ← suc-add k i)
    (elements-put ws (put_fields ws t (element ws at k) 0 vs) at (suc k) vss (rw put-fields-length (omega arith)) f.1 i (omega arith))

-- to store what stands there changes nothing
pub put-elements : (ws t : List ℕ) (at k n : ℕ) → Bytes t
    → put_elements ws t at k (tab n (λ i. fields ws t (element ws at (k + i)) 0)) ≡ t
unfolding put_elements tab
put-elements ws t at k zero h = refl
put-elements ws t at k (suc n) h =
    rw (add-zero k, put-fields ws t (element ws at k) 0 h) (simp add-suc (simp suc-add at (put-elements ws t at (suc k) n h)))
