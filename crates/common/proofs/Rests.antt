-- Tests without early exit: what has passed, and the rest of the list, decide as the whole.
use Prim.Native.Nat.{ℕ, zero, suc, ◌+◌, ◌≤◌, ◌<◌}
use native.Mathlib.Omega.{arith}
use native.Mathlib.Numerals.{add-one}
use mathlib.Core.Bool.{Bool, true, ◌&&◌, and-true, and_assoc}
use mathlib.Core.List.{List, [], ◌∷◌}
use mathlib.Core.Path.{◌≡◌, sym, ◌∙◌}
use lib.ListN.{length, get_or, drop, drop_of_length-le}
use lib.Seq.{drop-cons}
use Rattle.common.specs.Tests.{all}
use Rattle.common.proofs.Bools.{and_left, and_right}

module _ {A : Type 0} (p : A → Bool) (d : A) (xs : List A) (i : ℕ) (whole ok : Bool) where
  pub rest_more : (t : Bool) → t ≡ p (get_or xs i d) → i < length xs → (ok && all p (drop i xs)) ≡ whole → ((ok && t) && all p (drop (i + 1) xs)) ≡ whole
  rest_more t e h k = rw (and_assoc, e, add-one) (rw (drop-cons xs i d h) at k)

  pub rest-none : length xs ≤ i → (ok && all p (drop i xs)) ≡ whole → ok ≡ whole
  rest-none h k = sym (and-true ok) ∙ rw (drop_of_length-le xs {i = i} h) at k

-- every element passes, so the one at place i does
pub all-get : {A : Type 0} (p : A → Bool) (d : A) (xs : List A) (i : ℕ) → i < length xs → all p xs ≡ true → p (get_or xs i d) ≡ true
all-get p d [] i h e = absurd (let z : ⊥ = omega arith in z)
all-get p d (x ∷ xs) zero h e = and_left (p x) (all p xs) e
all-get p d (x ∷ xs) (suc i) h e = all-get p d xs i (omega arith) (and_right (p x) (all p xs) e)
