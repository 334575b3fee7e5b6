-- A search that goes up by one: none of the first i elements passes; the next one does, or none of one more does.
use Prim.Native.Nat.{ℕ, zero, suc, ◌+◌, ◌≤◌, ◌<◌}
use native.Mathlib.Omega.{arith}
use mathlib.Core.Bool.{Bool, true, false, ◌||◌}
use mathlib.Core.List.{List, [], ◌∷◌}
use mathlib.Core.Logic.{◌⊎◌, inl, inr}
use mathlib.Core.Path.{◌≡◌, refl, ap₂, subst}
use lib.Dec.{T}
use lib.ListN.{length, get_or, take}
use Rattle.common.specs.Tests.{all, any, up_from}
use Rattle.common.proofs.Bools.{and_l, and_r, or_left, or_right}
use Rattle.common.proofs.Order.{same}

module _ {A : Type 0} where
  pub none_more : (p : A → Bool) (d : A) (xs : List A) (i : ℕ) → i < length xs → any p (take i xs) ≡ false → p (get_or xs i d) ≡ false → any p (take (suc i) xs) ≡ false
  none_more p d [] i h e f = refl
  none_more p d (x ∷ xs) zero h e f = rw f
  none_more p d (x ∷ xs) (suc i) h e f =
      ap₂ ◌||◌ (or_left (p x) (any p (take i xs)) e) (none_more p d xs i (omega arith) (or_right (p x) (any p (take i xs)) e) f)

  pub some-here : (p : A → Bool) (d : A) (xs : List A) (i : ℕ) → i < length xs → p (get_or xs i d) ≡ true → any p xs ≡ true
  some-here p d [] i h e = absurd (let z : ⊥ = omega arith in z)
  some-here p d (x ∷ xs) zero h e = rw e
  some-here p d (x ∷ xs) (suc i) h e = go (p x) (some-here p d xs i (omega arith) e)
    where
      go : (b : Bool) → any p xs ≡ true → (b || any p xs) ≡ true
      go true k = refl
      go false k = k

  -- every element passes, so the one at i does
  pub all_here : (p : A → Bool) (d : A) (xs : List A) (i : ℕ) → i < length xs → T (all p xs) → T (p (get_or xs i d))
  all_here p d [] i h t = absurd (let z : ⊥ = omega arith in z)
  all_here p d (x ∷ xs) zero h t = and_l (p x) (all p xs) t
  all_here p d (x ∷ xs) (suc i) h t = all_here p d xs i (omega arith) (and_r (p x) (all p xs) t)

-- numbers in a row: each of them passes
pub all_from : (p : ℕ → Bool) (n k s : ℕ) → T (all p (up_from k n)) → k ≤ s → s < k + n → T (p s)
all_from p zero k s t a b = absurd (let z : ⊥ = omega arith in z)
all_from p (suc n) k s t a b = go (same k s) (all_from p n (suc k) s (and_r (p k) (all p (up_from (suc k) n)) t))
  where
    go : (k ≡ s) ⊎ (k ≡ s → ⊥) → (suc k ≤ s → s < suc k + n → T (p s)) → T (p s)
    go (inl e) f = subst (λ (x : ℕ). T (p x)) e (and_l (p k) (all p (up_from (suc k) n)) t)
    go (inr e) f = f (omega arith) (omega arith)

-- where none passes a test, none passes a stronger one
pub none-imp : {A : Type 0} (p q : A → Bool) → ((x : A) → p x ≡ false → q x ≡ false) → (xs : List A) → any p xs ≡ false → any q xs ≡ false
none-imp p q h [] e = refl
none-imp p q h (x ∷ xs) e = ap₂ ◌||◌ (h x (or_left (p x) (any p xs) e)) (none-imp p q h xs (or_right (p x) (any p xs) e))
