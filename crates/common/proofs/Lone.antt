-- A test that one element alone may pass: the element x between the others, a and b, of which none passes.
use mathlib.Core.Bool.{Bool, true, false, not, ◌||◌, cond}
use mathlib.Core.List.{List, [], ◌∷◌, ◌++◌, map, map-append}
use mathlib.Core.Path.{◌≡◌, refl, ap, ap₂, ◌∙◌}
use lib.Dec.{T}
use Rattle.common.specs.Tests.{all, any, keep}
use Rattle.common.proofs.Bools.{and_l, and_r, true-is, false-is}
use Rattle.common.proofs.Listed.{nobody, keep_append}

module _ {A : Type 0} (p : A → Bool) where
  abbrev pub no : A → Bool
  no x = not (p x)

  any_append : (xs ys : List A) → any p (xs ++ ys) ≡ (any p xs || any p ys)
  any_append [] ys = refl
  any_append (x ∷ xs) ys = go (p x) (any_append xs ys)
    where
      go : (b : Bool) → any p (xs ++ ys) ≡ (any p xs || any p ys) → (b || any p (xs ++ ys)) ≡ ((b || any p xs) || any p ys)
      go true e = refl
      go false e = e

  keep_all : (xs : List A) → T (all no xs) → keep no xs ≡ xs
  keep_all [] t = refl
  keep_all (x ∷ xs) t = rw (true-is (no x) (and_l (no x) (all no xs) t)) (ap (λ (l : List A). x ∷ l) (keep_all xs (and_r (no x) (all no xs) t)))

  map-none : (f : A → A) (xs : List A) → T (all no xs) → map (λ x. cond (p x) (f x) x) xs ≡ xs
  map-none f [] t = refl
  map-none f (x ∷ xs) t = rw (false-is (p x) (and_l (no x) (all no xs) t)) (ap (λ (l : List A). x ∷ l) (map-none f xs (and_r (no x) (all no xs) t)))

  module _ (a : List A) (x : A) (b : List A) (s : T (all no a)) (t : T (all no b)) where
    pub lone-any : any p (a ++ (x ∷ b)) ≡ p x
    lone-any = any_append a (x ∷ b) ∙ rw (false-is (any p a) (nobody p a s), false-is (any p b) (nobody p b t)) (or_no (p x))
      where
        or_no : (c : Bool) → (c || false) ≡ c
        or_no true = refl
        or_no false = refl

    pub lone-keep : p x ≡ true → keep no (a ++ (x ∷ b)) ≡ a ++ b
    lone-keep e = keep_append no a (x ∷ b) ∙ rw e (ap₂ (λ (u v : List A). u ++ v) (keep_all a s) (keep_all b t))

    pub lone-map : (f : A → A) → p x ≡ true → map (λ y. cond (p y) (f y) y) (a ++ (x ∷ b)) ≡ a ++ (f x ∷ b)
    lone-map f e = map-append (λ y. cond (p y) (f y) y) a (x ∷ b) ∙ rw e (ap₂ (λ (u v : List A). u ++ (f x ∷ v)) (map-none f a s) (map-none f b t))
