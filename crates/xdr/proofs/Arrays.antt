-- The laws of `array` and `put_array`, over the widths and the elements: the count stands before the elements, and neither reaches the other.
use mathlib.Core.Path.{◌≡◌, ap, ◌∙◌}
use mathlib.Core.List.{List, []}
use Prim.Native.Nat.{ℕ, zero, suc, ◌+◌, ◌*◌, ◌^◌, ◌≤◌, ◌<◌}
use native.Mathlib.Nat.{zero-add, mul-le-mul_left}
use native.Mathlib.Omega.{arith}
use lib.ListN.{length, get_or}
use Rattle.xdr.specs.Be.{Bytes, be, put_be}
use Rattle.xdr.specs.Layout.{fields, size, Fit}
use Rattle.xdr.specs.Tab.{tab}
use Rattle.xdr.specs.Array.{element, array_size, array, put_elements, put_array, Fits}
use Rattle.xdr.proofs.Numbers.{be-ext, be-put-same, put-be, put_other, put-length, put-bytes}
use Rattle.xdr.proofs.Fields.{fields-ext, fields_fit}
use Rattle.xdr.proofs.Elements.{elements-put, put-elements, put-elements-other, put-elements-length, put-elements-bytes}
use Rattle.xdr.proofs.Tabs.{length-tab, tab-ext, tab-get_or}

-- a store of the count keeps the elements
pub fields-put-count : (ws t : List ℕ) (at n i : ℕ) → fields ws (put_be 4 t at n) (element ws at i) 0 ≡ fields ws t (element ws at i) 0
fields-put-count ws t at n i =
    let a = element ws at i in
    fields-ext ws _ t a a 0 (λ j p. put_other 4 t at n (a + (0 + j)) (λ k q e. omega arith))

-- byte j of element i
place : (ws : List ℕ) (at i j : ℕ) → element ws at i + (0 + j) ≡ at + (4 + (size ws * i + j))
place ws at i j = omega arith

-- bytes that agree have the same elements
pub array-ext : (ws s t : List ℕ) (a b : ℕ) → ((j : ℕ) → j < array_size (be 4 s a) ws → get_or s (a + j) 0 ≡ get_or t (b + j) 0)
    → array ws s a ≡ array ws t b
unfolding array
array-ext ws s t a b h =
    tab-ext (be 4 s a) (λ i. fields ws s (element ws a i) 0) (λ i. fields ws t (element ws b i) 0)
    (λ i p. fields-ext ws s t (element ws a i) (element ws b i) 0
    (λ j q. rw (place ws a i j, place ws b i j) (h (4 + (size ws * i + j)) (omega (arith, mul-le-mul_left (size ws) p)))))
    ∙ ap (λ n. tab n (λ i. fields ws t (element ws b i) 0)) (be-ext 4 s t a b (λ k p. h k (omega arith)))

-- the elements of an array fit
pub fits-tab : (ws : List ℕ) (n : ℕ) (f : ℕ → List ℕ) → ((i : ℕ) → i < n → Fit ws (f i)) → Fits ws (tab n f)
unfolding tab
fits-tab ws zero f h = tt
fits-tab ws (suc n) f h = (h 0 (omega arith), fits-tab ws n (λ i. f (suc i)) (λ i p. h (suc i) (omega arith)))

pub array_fit : (ws t : List ℕ) (at : ℕ) → Bytes t → Fits ws (array ws t at)
unfolding array
array_fit ws t at h = fits-tab ws (be 4 t at) (λ i. fields ws t (element ws at i) 0) (λ i p. fields_fit ws t (element ws at i) 0 h)

-- a store of an array keeps the length
pub put-array-length : (ws t : List ℕ) (at : ℕ) (vss : List (List ℕ)) → length (put_array ws t at vss) ≡ length t
unfolding put_array
put-array-length ws t at vss = put-length 4 (put_elements ws t at 0 vss) at (length vss) ∙ put-elements-length ws t at 0 vss

-- bytes stay bytes
pub put-array-bytes : (ws t : List ℕ) (at : ℕ) (vss : List (List ℕ)) → Bytes t → Bytes (put_array ws t at vss)
unfolding put_array
put-array-bytes ws t at vss h = put-bytes 4 (put_elements ws t at 0 vss) at (length vss) (put-elements-bytes ws t at 0 vss h)

-- a byte outside the array keeps its value
pub put-array-other : (ws t : List ℕ) (at : ℕ) (vss : List (List ℕ)) (b : ℕ)
    → ((j : ℕ) → j < array_size (length vss) ws → b ≡ at + j → ⊥) → get_or (put_array ws t at vss) b 0 ≡ get_or t b 0
unfolding put_array
put-array-other ws t at vss b h =
    put_other 4 (put_elements ws t at 0 vss) at (length vss) b (λ j p e. h j (omega arith) (omega arith))
    ∙ put-elements-other ws t at 0 vss b (λ j p e. h (4 + j) (omega arith) (omega arith))

-- what was stored is read
pub array-put : (ws t : List ℕ) (at : ℕ) (vss : List (List ℕ))
    → at + array_size (length vss) ws ≤ length t → length vss < 2 ^ 32 → Fits ws vss → array ws (put_array ws t at vss) at ≡ vss
unfolding array put_array
array-put ws t at vss h p f =
    let X = put_elements ws t at 0 vss in
    rw (be-put-same 4 X at (length vss) (rw put-elements-length (omega arith)) p)
    (tab-ext (length vss) _ (λ i. get_or vss i [])
    (λ i q. fields-put-count ws X at (length vss) i
    ∙ rw zero-add at (elements-put ws t at 0 vss (rw zero-add (omega arith)) f i q))
    ∙ tab-get_or vss [])

-- to store what stands there changes nothing
pub put-array : (ws t : List ℕ) (at : ℕ) → Bytes t → put_array ws t at (array ws t at) ≡ t
unfolding array put_array
put-array ws t at h = rw (simp zero-add at (put-elements ws t at 0 (be 4 t at) h), length-tab) (put-be 4 t at h)
