-- The laws of `fields` and `put_fields`, over the widths: the first number, then a structure that starts behind it.
use mathlib.Core.Path.{◌≡◌, refl, ap₂, ◌∙◌}
use mathlib.Core.List.{List, [], ◌∷◌}
use Prim.Native.Nat.{ℕ, zero, suc, ◌+◌, ◌-◌, ◌≤◌, ◌<◌}
use native.Mathlib.Nat.{add-zero, add_assoc, not-suc-le-zero}
use native.Mathlib.Decide.{dec_lt}
use native.Mathlib.Omega.{arith}
use lib.ListN.{length, get_or, take}
use Rattle.xdr.specs.Be.{Bytes, be, put_be}
use Rattle.xdr.specs.Layout.{fields, put_fields, size, Fit}
use Rattle.xdr.proofs.Numbers.{be-ext, be-lt, be-inj, be-put-same, put-be, put_other, put-length, put-bytes}

-- bytes that agree have the same numbers
pub fields-ext : (ws s t : List ℕ) (a b o : ℕ) → ((j : ℕ) → j < size ws → get_or s (a + (o + j)) 0 ≡ get_or t (b + (o + j)) 0)
    → fields ws s a o ≡ fields ws t b o
unfolding fields
fields-ext [] s t a b o h = refl
fields-ext (w ∷ ws) s t a b o h =
    ap₂ (λ (x : ℕ) (l : List ℕ). x ∷ l)
    (be-ext w s t (a + o) (b + o) (λ k p. rw (add_assoc a o k, add_assoc b o k) (h k (omega arith))))
    (fields-ext ws s t a b (o + w) (λ j p. rw (add_assoc o w j) (h (w + j) (omega arith))))

-- the number in field k stands behind the k fields in front of it
pub fields_at : (ws t : List ℕ) (at o k : ℕ) → k < length ws → get_or (fields ws t at o) k 0 ≡ be (get_or ws k 0) t (at + (o + size (take k ws)))
unfolding fields
fields_at [] t at o k h = absurd (let z : ⊥ = omega arith in z)
fields_at (w ∷ ws) t at o zero h = rw add-zero refl
fields_at (w ∷ ws) t at o (suc k) h = fields_at ws t at (o + w) k (omega arith) ∙ rw (add_assoc o w (size (take k ws))) refl

-- a structure that starts a bytes further on
pub fields-from : (ws t : List ℕ) (at a o : ℕ) → fields ws t (at + a) o ≡ fields ws t at (a + o)
unfolding fields
fields-from [] t at a o = refl
fields-from (w ∷ ws) t at a o =
    ap₂ (λ (x : ℕ) (l : List ℕ). x ∷ l) (rw (add_assoc at a o) refl) (fields-from ws t at a (o + w) ∙ rw (add_assoc a o w) refl)

pub put-fields-from : (ws t : List ℕ) (at a o : ℕ) (vs : List ℕ) → put_fields ws t (at + a) o vs ≡ put_fields ws t at (a + o) vs
unfolding put_fields
put-fields-from [] t at a o vs = refl
put-fields-from (w ∷ ws) t at a o [] = refl
put-fields-from (w ∷ ws) t at a o (v ∷ vs) = rw (add_assoc at a o) (put-fields-from ws (put_be w t (at + (a + o)) v) at a (o + w) vs ∙ rw (add_assoc a o w) refl)

-- the numbers of a structure fit its fields
pub fields_fit : (ws t : List ℕ) (at o : ℕ) → Bytes t → Fit ws (fields ws t at o)
unfolding fields
fields_fit [] t at o h = tt
fields_fit (w ∷ ws) t at o h = (be-lt w t (at + o) h, fields_fit ws t at (o + w) h)

-- a store of a structure keeps the length
pub put-fields-length : (ws t : List ℕ) (at o : ℕ) (vs : List ℕ) → length (put_fields ws t at o vs) ≡ length t
unfolding put_fields
put-fields-length [] t at o vs = refl
put-fields-length (w ∷ ws) t at o [] = refl
put-fields-length (w ∷ ws) t at o (v ∷ vs) = put-fields-length ws (put_be w t (at + o) v) at (o + w) vs ∙ put-length w t (at + o) v

-- bytes stay bytes
pub put-fields-bytes : (ws t : List ℕ) (at o : ℕ) (vs : List ℕ) → Bytes t → Bytes (put_fields ws t at o vs)
unfolding put_fields
put-fields-bytes [] t at o vs h = h
put-fields-bytes (w ∷ ws) t at o [] h = h
put-fields-bytes (w ∷ ws) t at o (v ∷ vs) h =
    put-fields-bytes ws (put_be w t (at + o) v) at (o + w) vs (put-bytes w t (at + o) v h)

-- a byte that is not among them keeps its value
pub put-fields-other : (ws t : List ℕ) (at o : ℕ) (vs : List ℕ) (k : ℕ) → ((j : ℕ) → j < size ws → k ≡ at + (o + j) → ⊥)
    → get_or (put_fields ws t at o vs) k 0 ≡ get_or t k 0
unfolding put_fields
put-fields-other [] t at o vs k h = refl
put-fields-other (w ∷ ws) t at o [] k h = refl
put-fields-other (w ∷ ws) t at o (v ∷ vs) k h =
    put-fields-other ws (put_be w t (at + o) v) at (o + w) vs k (λ j p e. h (w + j) (omega arith) (omega arith))
    ∙ put_other w t (at + o) v k (λ j p e. h j (omega arith) (omega arith))

-- a structure that stands elsewhere is as it was
pub fields-put-other : (ws us t : List ℕ) (a o at q : ℕ) (vs : List ℕ)
    → ((i j : ℕ) → i < size ws → j < size us → a + (o + i) ≡ at + (q + j) → ⊥)
    → fields ws (put_fields us t at q vs) a o ≡ fields ws t a o
fields-put-other ws us t a o at q vs h =
    fields-ext ws _ t a a o (λ i p. put-fields-other us t at q vs (a + (o + i)) (λ j r. h i j p r))

-- what was stored is read
pub fields-put : (ws t : List ℕ) (at o : ℕ) (vs : List ℕ) → at + (o + size ws) ≤ length t → Fit ws vs
    → fields ws (put_fields ws t at o vs) at o ≡ vs
unfolding fields put_fields
fields-put [] t at o [] h f = refl
fields-put [] t at o (v ∷ vs) h f = absurd f
fields-put (w ∷ ws) t at o [] h f = absurd f
fields-put (w ∷ ws) t at o (v ∷ vs) h f =
    let X : List ℕ = put_be w t (at + o) v in
    ap₂ (λ (x : ℕ) (l : List ℕ). x ∷ l)
    (be-ext w _ X (at + o) (at + o) (λ k p. put-fields-other ws X at (o + w) vs (at + o + k) (λ j q e. omega arith))
    ∙ be-put-same w t (at + o) v (omega arith) f.0)
    (fields-put ws X at (o + w) vs (rw put-length (omega arith)) f.1)

-- to store what stands there changes nothing
pub put-fields : (ws t : List ℕ) (at o : ℕ) → Bytes t → put_fields ws t at o (fields ws t at o) ≡ t
unfolding fields put_fields
put-fields [] t at o h = refl
put-fields (w ∷ ws) t at o h = rw (put-be w t (at + o) h) (put-fields ws t at (o + w) h)

-- bytes that have the same numbers agree
pub fields-inj : (ws s t : List ℕ) (a o : ℕ) → Bytes s → Bytes t → fields ws s a o ≡ fields ws t a o
    → (j : ℕ) → j < size ws → get_or s (a + (o + j)) 0 ≡ get_or t (a + (o + j)) 0
unfolding fields
fields-inj [] s t a o p q e j h = absurd (not-suc-le-zero h)
fields-inj (w ∷ ws) s t a o p q e j h =
    elim (dec_lt j w) [
      | yes r ↦ rw (← add_assoc a o j) (be-inj w s t (a + o) p q (cc) j r)
      | no r ↦
          let g : ◌≡◌ {A = ℕ} (o + w + (j - w)) (o + j) = omega arith in
          rw g at (fields-inj ws s t a (o + w) p q (cc) (j - w) (omega arith))
    ]
