-- The laws of `be` and `put_be`, over the width: the last byte is peeled off, and the others are a narrower number.
use mathlib.Core.Path.{◌≡◌, refl, sym, ap, ap₂, ◌∙◌}
use mathlib.Core.List.{List, [], ◌∷◌}
use Prim.Native.Nat.{ℕ, zero, suc, ◌+◌, ◌*◌, ◌/◌, ◌%◌, ◌-◌, ◌^◌, ◌≤◌, ◌<◌}
use mathlib.Core.Logic.{⊎_elim}
use native.Mathlib.Nat.{add-zero, add-suc, mul_assoc, add_assoc, suc_inj, not-suc-le-zero, le-suc_iff, le_refl, le_step, pow-suc, pow-succ', div-one, div-div-eq-div-mul}
use native.Mathlib.Nat.{mod-lt, div-add-mod', div-lt_iff_lt-mul}
use native.Mathlib.Omega.{arith}
use lib.Dec.{lit<}
use lib.Arith.{digits_lt, digits_div, digits_mod}
use lib.ListN.{length, get_or, set, length-set}
use lib.Seq.{get_or-set_same, get_or-set_other, set-get_or}
use Rattle.xdr.specs.Be.{Bytes, be, put_be}

-- bytes that agree say the same number
pub be-ext : (n : ℕ) (s t : List ℕ) (a b : ℕ) → ((k : ℕ) → k < n → get_or s (a + k) 0 ≡ get_or t (b + k) 0)
    → be n s a ≡ be n t b
unfolding be
be-ext zero s t a b h = refl
be-ext (suc n) s t a b h = ap₂ (λ (x y : ℕ). x * 256 + y) (be-ext n s t a b (λ k p. h k (le_step p))) (h n (le_refl (suc n)))

-- n bytes say a number below 256 ^ n
pub be-lt : (n : ℕ) (s : List ℕ) (at : ℕ) → Bytes s → be n s at < 256 ^ n
unfolding be
be-lt zero s at h = lit< tt
be-lt (suc n) s at h = rw pow-suc (digits_lt (be-lt n s at h) (h (at + n)))

-- a number is two narrower ones, the upper one first
pub be-add : (m n : ℕ) (s : List ℕ) (at : ℕ) → be (m + n) s at ≡ be m s at * 256 ^ n + be n s (at + m)
unfolding be
be-add m zero s at = rw (add-zero m) (omega arith)
be-add m (suc n) s at = rw (add-suc, be-add m n s at, pow-suc, ← mul_assoc, add_assoc at m n) (omega arith)

pub be-words : (n : ℕ) (s : List ℕ) (at : ℕ) → 4 < n → be (n - 4) s at * 4294967296 + be 4 s (at + (n - 4)) ≡ be n s at
be-words n s at h =
    let e : n ≡ (n - 4) + 4 = omega arith in
    sym (ap (λ (k : ℕ). be k s at) e ∙ be-add (n - 4) 4 s at)

-- a store of a number keeps the length
pub put-length : (n : ℕ) (s : List ℕ) (at v : ℕ) → length (put_be n s at v) ≡ length s
unfolding put_be
put-length zero s at v = refl
put-length (suc n) s at v = rw length-set (put-length n s at (v / 256))

set-bytes : (s : List ℕ) (i b : ℕ) → Bytes s → b < 256 → Bytes (set s i b)
set-bytes [] i b h p k = h k
set-bytes (x ∷ s) zero b h p zero = p
set-bytes (x ∷ s) zero b h p (suc k) = h (suc k)
set-bytes (x ∷ s) (suc i) b h p zero = h zero
set-bytes (x ∷ s) (suc i) b h p (suc k) = set-bytes s i b (λ j. h (suc j)) p k

-- bytes stay bytes
pub put-bytes : (n : ℕ) (s : List ℕ) (at v : ℕ) → Bytes s → Bytes (put_be n s at v)
unfolding put_be
put-bytes zero s at v h = h
put-bytes (suc n) s at v h =
    set-bytes (put_be n s at (v / 256)) (at + n) (v % 256) (put-bytes n s at (v / 256) h) (mod-lt v (lit< tt))

-- a byte that is not among the n keeps its value
pub put_other : (n : ℕ) (s : List ℕ) (at v k : ℕ) → ((j : ℕ) → j < n → k ≡ at + j → ⊥)
    → get_or (put_be n s at v) k 0 ≡ get_or s k 0
unfolding put_be
put_other zero s at v k h = refl
put_other (suc n) s at v k h =
    get_or-set_other (put_be n s at (v / 256)) (at + n) k (v % 256) 0 (h n (le_refl (suc n)))
    ∙ put_other n s at (v / 256) k (λ j p. h j (le_step p))

-- a number that stands elsewhere is as it was
pub be-put-other : (m n : ℕ) (s : List ℕ) (b at v : ℕ) → ((i j : ℕ) → i < m → j < n → b + i ≡ at + j → ⊥)
    → be m (put_be n s at v) b ≡ be m s b
be-put-other m n s b at v h = be-ext m _ _ b b (λ i p. put_other n s at v (b + i) (λ j q. h i j p q))

-- what was stored is read
pub be-put-same : (n : ℕ) (s : List ℕ) (at v : ℕ) → at + n ≤ length s → v < 256 ^ n → be n (put_be n s at v) at ≡ v
unfolding be put_be
be-put-same zero s at v h p = omega arith
be-put-same (suc n) s at v h p =
    let X : List ℕ = put_be n s at (v / 256) in
    ap₂ (λ (x y : ℕ). x * 256 + y)
    (be-ext n _ X at at (λ k q. get_or-set_other X (at + n) (at + k) (v % 256) 0 (omega arith))
    ∙ be-put-same n s at (v / 256) (omega arith) ((div-lt_iff_lt-mul (lit< tt)).1 (rw pow-suc at p)))
    (get_or-set_same X (at + n) (v % 256) 0 (rw put-length (omega arith)))
    ∙ div-add-mod' v 256

-- to store what stands there changes nothing
pub put-be : (n : ℕ) (s : List ℕ) (at : ℕ) → Bytes s → put_be n s at (be n s at) ≡ s
unfolding be put_be
put-be zero s at h = refl
put-be (suc n) s at h =
    rw (digits_div (be n s at) (h (at + n)), digits_mod (be n s at) (h (at + n)), put-be n s at h) (set-get_or s (at + n) 0)

-- m + n bytes are stored in two parts
pub put-add : (m n : ℕ) (s : List ℕ) (at v : ℕ) → put_be (m + n) s at v ≡ put_be n (put_be m s at (v / 256 ^ n)) (at + m) v
unfolding put_be
put-add m zero s at v = rw (add-zero, div-one)
put-add m (suc n) s at v = rw (add-suc, put-add m n s at (v / 256), div-div-eq-div-mul, ← pow-succ', add_assoc at m n)

-- bytes that say the same number agree
pub be-inj : (n : ℕ) (s t : List ℕ) (a : ℕ) → Bytes s → Bytes t → be n s a ≡ be n t a
    → (k : ℕ) → k < n → get_or s (a + k) 0 ≡ get_or t (a + k) 0
unfolding be
be-inj zero s t a p q e k h = absurd (not-suc-le-zero h)
be-inj (suc n) s t a p q e k h =
    let x = p (a + n) in
    let y = q (a + n) in
    ⊎_elim (λ (r : k < n). be-inj n s t a p q (omega arith) k r) (λ (r : suc k ≡ suc n). rw (suc_inj r) (omega arith)) (le-suc_iff.0 h)
