-- Tests, and tests over lists.
use Rattle.std.specs.Prelude.{ℕ, zero, suc, Bool, true, false, ◌&&◌, ◌||◌, cond, List, [], ◌∷◌, eqb}

abbrev pub implies : Bool → Bool → Bool
implies true b = b
implies false b = true

module _ {A : Type 0} where
  -- every element passes; some element passes
  abbrev pub all : (A → Bool) → List A → Bool
  all p [] = true
  all p (x ∷ xs) = p x && all p xs

  abbrev pub any : (A → Bool) → List A → Bool
  any p [] = false
  any p (x ∷ xs) = p x || any p xs

  -- how many pass; those that pass
  abbrev pub count : (A → Bool) → List A → ℕ
  count p [] = 0
  count p (x ∷ xs) = cond (p x) (suc (count p xs)) (count p xs)

  abbrev pub keep : (A → Bool) → List A → List A
  keep p [] = []
  keep p (x ∷ xs) = cond (p x) (x ∷ keep p xs) (keep p xs)

  -- each element passes with each later one
  abbrev pub pairs : (A → A → Bool) → List A → Bool
  pairs f [] = true
  pairs f (x ∷ xs) = all (f x) xs && pairs f xs

-- each byte is 0
abbrev pub zeros : List ℕ → Bool
zeros = all (λ b. eqb b 0)

-- k, k + 1, .. : n numbers
abbrev pub up_from : ℕ → ℕ → List ℕ
up_from k zero = []
up_from k (suc n) = k ∷ up_from (suc k) n
