-- Changing the elements of a list from the front: the first i are changed, and the others stay.
use Prim.Native.Nat.{ℕ, zero, suc, ◌≤◌, ◌<◌}
use native.Mathlib.Omega.{arith}
use mathlib.Core.Bool.{Bool, false, ◌||◌, cond}
use mathlib.Core.List.{List, [], ◌∷◌, ◌++◌, map}
use mathlib.Core.Path.{◌≡◌, refl, sym, ap, ap₂, ◌∙◌}
use lib.Dec.{T}
use lib.ListN.{length, get_or, set, take, drop, length-append, take-append-drop}
use lib.Seq.{take-suc}
use Rattle.common.specs.Tests.{all, any, keep}
use Rattle.common.proofs.Bools.{and_l, and_r, and_i}
use Rattle.common.proofs.Listed.{keep_append}

module _ {A : Type 0} (g : A → A) where
  abbrev pub partly : List A → ℕ → List A
  partly [] i = []
  partly (x ∷ xs) zero = x ∷ xs
  partly (x ∷ xs) (suc i) = g x ∷ partly xs i

  pub partly_none : (xs : List A) → partly xs 0 ≡ xs
  partly_none [] = refl
  partly_none (x ∷ xs) = refl

  pub partly-all : (xs : List A) → partly xs (length xs) ≡ map g xs
  partly-all [] = refl
  partly-all (x ∷ xs) = ap (λ (l : List A). g x ∷ l) (partly-all xs)

  -- the next one to change
  pub partly_here : (d : A) (xs : List A) (i : ℕ) → get_or (partly xs i) i d ≡ get_or xs i d
  partly_here d [] i = refl
  partly_here d (x ∷ xs) zero = refl
  partly_here d (x ∷ xs) (suc i) = partly_here d xs i

  pub partly_more : (d : A) (xs : List A) (i : ℕ) → i < length xs → set (partly xs i) i (g (get_or xs i d)) ≡ partly xs (suc i)
  partly_more d [] i h = absurd (let z : ⊥ = omega arith in z)
  partly_more d (x ∷ xs) zero h = ap (λ (l : List A). g x ∷ l) (sym (partly_none xs))
  partly_more d (x ∷ xs) (suc i) h = ap (λ (l : List A). g x ∷ l) (partly_more d xs i (omega arith))

  -- a test that the change keeps
  pub partly-keeps : (p : A → Bool) → ((x : A) → T (p x) → T (p (g x))) → (xs : List A) (i : ℕ) → T (all p xs) → T (all p (partly xs i))
  partly-keeps p h [] i t = tt
  partly-keeps p h (x ∷ xs) zero t = t
  partly-keeps p h (x ∷ xs) (suc i) t =
      and_i (p (g x)) (all p (partly xs i)) (h x (and_l (p x) (all p xs) t)) (partly-keeps p h xs i (and_r (p x) (all p xs) t))

  module _ (p : A → Bool) (h : (x : A) → p (g x) ≡ p x) where
    pub partly-any : (xs : List A) (i : ℕ) → any p (partly xs i) ≡ any p xs
    partly-any [] i = refl
    partly-any (x ∷ xs) zero = refl
    partly-any (x ∷ xs) (suc i) = ap₂ ◌||◌ (h x) (partly-any xs i)

    pub partly-first : (xs : List A) (i m : ℕ) → any p (take m (partly xs i)) ≡ any p (take m xs)
    partly-first [] i m = refl
    partly-first (x ∷ xs) zero m = refl
    partly-first (x ∷ xs) (suc i) zero = refl
    partly-first (x ∷ xs) (suc i) (suc m) = ap₂ ◌||◌ (h x) (partly-first xs i m)

-- those of the first that pass, and the next one
module _ {A : Type 0} (p : A → Bool) where
  pub keep-more : (d : A) (xs : List A) (i : ℕ) → i < length xs → keep p (take (suc i) xs) ≡ keep p (take i xs) ++ cond (p (get_or xs i d)) (get_or xs i d ∷ []) []
  keep-more d xs i h = ap (keep p) (take-suc xs i d h) ∙ keep_append p (take i xs) (get_or xs i d ∷ [])

  pub keep-first : (xs : List A) (i : ℕ) → length (keep p (take i xs)) ≤ length (keep p xs)
  keep-first xs i =
      let e : keep p xs ≡ keep p (take i xs) ++ keep p (drop i xs) = ap (keep p) (sym (take-append-drop i xs)) ∙ keep_append p (take i xs) (drop i xs) in
      let n = ap length e in
      omega (arith, length-append (keep p (take i xs)) (keep p (drop i xs)))

  pub keep-none : ((x : A) → p x ≡ false) → (xs : List A) → keep p xs ≡ []
  keep-none h [] = refl
  keep-none h (x ∷ xs) = rw (h x) (keep-none h xs)

-- a change that changes nothing
pub map_same : {A : Type 0} (g : A → A) → ((x : A) → g x ≡ x) → (xs : List A) → map g xs ≡ xs
map_same g h [] = refl
map_same g h (x ∷ xs) = ap₂ (λ (y : _) (l : List _). y ∷ l) (h x) (map_same g h xs)
