-- What the tests over lists say when an element is put in, taken out or changed. Assumes nothing.
use Prim.Native.Nat.{ℕ, zero, suc, ◌+◌, ◌≤◌, zero-le}
use native.Mathlib.Omega.{arith}
use mathlib.Core.Bool.{Bool, true, false, not, ◌&&◌, ◌||◌, cond}
use mathlib.Core.List.{List, [], ◌∷◌, ◌++◌, map}
use mathlib.Core.Path.{◌≡◌, refl, ap}
use lib.Dec.{T}
use lib.ListN.{length}
use native.Mathlib.Nat.{add-zero, zero-add, suc-add, add-suc}
use Rattle.common.specs.Tests.{all, any, count, keep, pairs, up_from}
use Rattle.common.proofs.Bools.{and_l, and_r, and_i, nor-l, nor-r, by_cond}

module _ {A : Type 0} where
  pub all-imp : (p q : A → Bool) → ((x : A) → T (p x) → T (q x)) → (xs : List A) → T (all p xs) → T (all q xs)
  all-imp p q f [] t = tt
  all-imp p q f (x ∷ xs) t =
      and_i (q x) (all q xs) (f x (and_l (p x) (all p xs) t)) (all-imp p q f xs (and_r (p x) (all p xs) t))

  pub all_of : (p : A → Bool) → ((x : A) → T (p x)) → (xs : List A) → T (all p xs)
  all_of p f [] = tt
  all_of p f (x ∷ xs) = and_i (p x) (all p xs) (f x) (all_of p f xs)

  pub all_head : (p : A → Bool) (x : A) (xs : List A) → T (all p (x ∷ xs)) → T (p x)
  all_head p x xs t = and_l (p x) (all p xs) t

  pub all_tail : (p : A → Bool) (x : A) (xs : List A) → T (all p (x ∷ xs)) → T (all p xs)
  all_tail p x xs t = and_r (p x) (all p xs) t

  pub all_both : (p q : A → Bool) (xs : List A) → T (all p xs) → T (all q xs) → T (all (λ x. p x && q x) xs)
  all_both p q [] s t = tt
  all_both p q (x ∷ xs) s t =
      and_i (p x && q x) (all (λ x. p x && q x) xs)
      (and_i (p x) (q x) (and_l (p x) (all p xs) s) (and_l (q x) (all q xs) t))
      (all_both p q xs (and_r (p x) (all p xs) s) (and_r (q x) (all q xs) t))

  -- from two tests of each element, a third
  pub all-imp2 : (p q r : A → Bool) → ((x : A) → T (p x) → T (q x) → T (r x)) → (xs : List A) → T (all p xs) → T (all q xs) → T (all r xs)
  all-imp2 p q r f xs s t =
      all-imp (λ x. p x && q x) r (λ x u. f x (and_l (p x) (q x) u) (and_r (p x) (q x) u)) xs (all_both p q xs s t)

  pub none : (p : A → Bool) (xs : List A) → T (not (any p xs)) → T (all (λ x. not (p x)) xs)
  none p [] t = tt
  none p (x ∷ xs) t = and_i (not (p x)) (all (λ x. not (p x)) xs) (nor-l (p x) (any p xs) t) (none p xs (nor-r (p x) (any p xs) t))

  pub nobody : (p : A → Bool) (xs : List A) → T (all (λ x. not (p x)) xs) → T (not (any p xs))
  nobody p [] t = tt
  nobody p (x ∷ xs) t = go (p x) (and_l (not (p x)) (all (λ x. not (p x)) xs) t) (nobody p xs (and_r (not (p x)) (all (λ x. not (p x)) xs) t))
    where
      go : (b : Bool) → T (not b) → T (not (any p xs)) → T (not (b || any p xs))
      go true s u = absurd s
      go false s u = u

  -- a ++ (x ∷ b): the element x, and the others, a ++ b
  pub all-out : (p : A → Bool) (a : List A) (x : A) (b : List A) → T (all p (a ++ (x ∷ b))) → T (all p (a ++ b))
  all-out p [] x b t = and_r (p x) (all p b) t
  all-out p (y ∷ a) x b t =
      and_i (p y) (all p (a ++ b)) (and_l (p y) (all p (a ++ (x ∷ b))) t) (all-out p a x b (and_r (p y) (all p (a ++ (x ∷ b))) t))

  pub all-at : (p : A → Bool) (a : List A) (x : A) (b : List A) → T (all p (a ++ (x ∷ b))) → T (p x)
  all-at p [] x b t = and_l (p x) (all p b) t
  all-at p (y ∷ a) x b t = all-at p a x b (and_r (p y) (all p (a ++ (x ∷ b))) t)

  pub all-put : (p : A → Bool) (a : List A) (x : A) (b : List A) → T (p x) → T (all p (a ++ b)) → T (all p (a ++ (x ∷ b)))
  all-put p [] x b s t = and_i (p x) (all p b) s t
  all-put p (y ∷ a) x b s t =
      and_i (p y) (all p (a ++ (x ∷ b))) (and_l (p y) (all p (a ++ b)) t) (all-put p a x b s (and_r (p y) (all p (a ++ b)) t))

  pub all_left : (p : A → Bool) (a b : List A) → T (all p (a ++ b)) → T (all p a)
  all_left p [] b t = tt
  all_left p (y ∷ a) b t =
      and_i (p y) (all p a) (and_l (p y) (all p (a ++ b)) t) (all_left p a b (and_r (p y) (all p (a ++ b)) t))

  pub all_right : (p : A → Bool) (a b : List A) → T (all p (a ++ b)) → T (all p b)
  all_right p [] b t = t
  all_right p (y ∷ a) b t = all_right p a b (and_r (p y) (all p (a ++ b)) t)

  pub all_join : (p : A → Bool) (a b : List A) → T (all p a) → T (all p b) → T (all p (a ++ b))
  all_join p [] b s t = t
  all_join p (y ∷ a) b s t = and_i (p y) (all p (a ++ b)) (and_l (p y) (all p a) s) (all_join p a b (and_r (p y) (all p a) s) t)

  pub pairs-out : (f : A → A → Bool) (a : List A) (x : A) (b : List A) → T (pairs f (a ++ (x ∷ b))) → T (pairs f (a ++ b))
  pairs-out f [] x b t = and_r (all (f x) b) (pairs f b) t
  pairs-out f (y ∷ a) x b t =
      and_i (all (f y) (a ++ b)) (pairs f (a ++ b))
      (all-out (f y) a x b (and_l (all (f y) (a ++ (x ∷ b))) (pairs f (a ++ (x ∷ b))) t))
      (pairs-out f a x b (and_r (all (f y) (a ++ (x ∷ b))) (pairs f (a ++ (x ∷ b))) t))

  -- x with the earlier ones, and with the later ones
  pub pairs-before : (f : A → A → Bool) (a : List A) (x : A) (b : List A) → T (pairs f (a ++ (x ∷ b))) → T (all (λ y. f y x) a)
  pairs-before f [] x b t = tt
  pairs-before f (y ∷ a) x b t =
      and_i (f y x) (all (λ y. f y x) a)
      (all-at (f y) a x b (and_l (all (f y) (a ++ (x ∷ b))) (pairs f (a ++ (x ∷ b))) t))
      (pairs-before f a x b (and_r (all (f y) (a ++ (x ∷ b))) (pairs f (a ++ (x ∷ b))) t))

  pub pairs-after : (f : A → A → Bool) (a : List A) (x : A) (b : List A) → T (pairs f (a ++ (x ∷ b))) → T (all (f x) b)
  pairs-after f [] x b t = and_l (all (f x) b) (pairs f b) t
  pairs-after f (y ∷ a) x b t = pairs-after f a x b (and_r (all (f y) (a ++ (x ∷ b))) (pairs f (a ++ (x ∷ b))) t)

  pub pairs-put : (f : A → A → Bool) (a : List A) (x : A) (b : List A)
      → T (pairs f (a ++ b)) → T (all (λ y. f y x) a) → T (all (f x) b) → T (pairs f (a ++ (x ∷ b)))
  pairs-put f [] x b t s u = and_i (all (f x) b) (pairs f b) u t
  pairs-put f (y ∷ a) x b t s u =
      and_i (all (f y) (a ++ (x ∷ b))) (pairs f (a ++ (x ∷ b)))
      (all-put (f y) a x b (and_l (f y x) (all (λ y. f y x) a) s) (and_l (all (f y) (a ++ b)) (pairs f (a ++ b)) t))
      (pairs-put f a x b (and_r (all (f y) (a ++ b)) (pairs f (a ++ b)) t) (and_r (f y x) (all (λ y. f y x) a) s) u)

  pub count-put : (p : A → Bool) (a : List A) (x : A) (b : List A) → count p (a ++ (x ∷ b)) ≡ count p (x ∷ []) + count p (a ++ b)
  count-put p [] x b = step (p x)
    where
      step : (t : Bool) → cond t (suc (count p b)) (count p b) ≡ cond t 1 0 + count p b
      step true = omega arith
      step false = omega arith
  count-put p (y ∷ a) x b = step (p y) (count-put p a x b)
    where
      step : (t : Bool) → count p (a ++ (x ∷ b)) ≡ count p (x ∷ []) + count p (a ++ b)
          → cond t (suc (count p (a ++ (x ∷ b)))) (count p (a ++ (x ∷ b))) ≡ count p (x ∷ []) + cond t (suc (count p (a ++ b))) (count p (a ++ b))
      step true h = omega arith
      step false h = h

  pub length-put : (a : List A) (x : A) (b : List A) → length (a ++ (x ∷ b)) ≡ suc (length (a ++ b))
  length-put [] x b = refl
  length-put (y ∷ a) x b = ap suc (length-put a x b)

  -- some element passes, and it is not x: so it does not matter what stands in place of x
  pub any-but : (p : A → Bool) (a : List A) (x y : A) (b : List A) → T (not (p x)) → T (any p (a ++ (x ∷ b))) → T (any p (a ++ (y ∷ b)))
  any-but p [] x y b n t = go (p x) (p y) n t
    where
      go : (c d : Bool) → T (not c) → T (c || any p b) → T (d || any p b)
      go true d n t = absurd n
      go false true n t = tt
      go false false n t = t
  any-but p (z ∷ a) x y b n t = go (p z) t (any-but p a x y b n)
    where
      go : (c : Bool) → T (c || any p (a ++ (x ∷ b))) → (T (any p (a ++ (x ∷ b))) → T (any p (a ++ (y ∷ b)))) → T (c || any p (a ++ (y ∷ b)))
      go true t f = tt
      go false t f = f t

  -- some elements are kept
  pub all_keep : (p q : A → Bool) (xs : List A) → T (all p xs) → T (all p (keep q xs))
  all_keep p q [] t = tt
  all_keep p q (x ∷ xs) t =
      by_cond (λ (l : List A). T (all p l)) (q x) (x ∷ keep q xs) (keep q xs)
      (λ u. and_i (p x) (all p (keep q xs)) (and_l (p x) (all p xs) t) (all_keep p q xs (and_r (p x) (all p xs) t)))
      (λ u. all_keep p q xs (and_r (p x) (all p xs) t))

  pub pairs-keep : (f : A → A → Bool) (q : A → Bool) (xs : List A) → T (pairs f xs) → T (pairs f (keep q xs))
  pairs-keep f q [] t = tt
  pairs-keep f q (x ∷ xs) t =
      by_cond (λ (l : List A). T (pairs f l)) (q x) (x ∷ keep q xs) (keep q xs)
      (λ u. and_i (all (f x) (keep q xs)) (pairs f (keep q xs)) (all_keep (f x) q xs (and_l (all (f x) xs) (pairs f xs) t)) (pairs-keep f q xs (and_r (all (f x) xs) (pairs f xs) t)))
      (λ u. pairs-keep f q xs (and_r (all (f x) xs) (pairs f xs) t))

  pub count-keep : (p q : A → Bool) (xs : List A) → count p (keep q xs) ≤ count p xs
  count-keep p q [] = zero-le
  count-keep p q (x ∷ xs) =
      by_cond (λ (l : List A). count p l ≤ count p (x ∷ xs)) (q x) (x ∷ keep q xs) (keep q xs)
      (λ u. more (p x) (count-keep p q xs)) (λ u. less (p x) (count-keep p q xs))
    where
      more : (t : Bool) → count p (keep q xs) ≤ count p xs → cond t (suc (count p (keep q xs))) (count p (keep q xs)) ≤ cond t (suc (count p xs)) (count p xs)
      more true h = omega arith
      more false h = h

      less : (t : Bool) → count p (keep q xs) ≤ count p xs → count p (keep q xs) ≤ cond t (suc (count p xs)) (count p xs)
      less true h = omega arith
      less false h = h

  pub keep_append : (p : A → Bool) (xs ys : List A) → keep p (xs ++ ys) ≡ keep p xs ++ keep p ys
  keep_append p [] ys = refl
  keep_append p (x ∷ xs) ys = go (p x) (keep_append p xs ys)
    where
      go : (b : Bool) → keep p (xs ++ ys) ≡ keep p xs ++ keep p ys → cond b (x ∷ keep p (xs ++ ys)) (keep p (xs ++ ys)) ≡ cond b (x ∷ keep p xs) (keep p xs) ++ keep p ys
      go true i = ap (λ (l : List A). x ∷ l) i
      go false i = i

  pub length-keep : (q : A → Bool) (xs : List A) → length (keep q xs) ≤ length xs
  length-keep q [] = zero-le
  length-keep q (x ∷ xs) =
      by_cond (λ (l : List A). length l ≤ suc (length xs)) (q x) (x ∷ keep q xs) (keep q xs)
      (λ u. let h = length-keep q xs in omega arith) (λ u. let h = length-keep q xs in omega arith)

-- each element is changed
module _ {A B : Type 0} where
  pub all_map : (p : A → Bool) (q : B → Bool) (g : A → B) → ((x : A) → T (p x) → T (q (g x))) → (xs : List A) → T (all p xs) → T (all q (map g xs))
  all_map p q g f [] t = tt
  all_map p q g f (x ∷ xs) t =
      and_i (q (g x)) (all q (map g xs)) (f x (and_l (p x) (all p xs) t)) (all_map p q g f xs (and_r (p x) (all p xs) t))

  pub pairs-map : (f : A → A → Bool) (k : B → B → Bool) (g : A → B) → ((x y : A) → T (f x y) → T (k (g x) (g y)))
      → (xs : List A) → T (pairs f xs) → T (pairs k (map g xs))
  pairs-map f k g h [] t = tt
  pairs-map f k g h (x ∷ xs) t =
      and_i (all (k (g x)) (map g xs)) (pairs k (map g xs))
      (all_map (f x) (k (g x)) g (h x) xs (and_l (all (f x) xs) (pairs f xs) t))
      (pairs-map f k g h xs (and_r (all (f x) xs) (pairs f xs) t))

  pub count_map : (p : A → Bool) (q : B → Bool) (g : A → B) → ((x : A) → q (g x) ≡ p x) → (xs : List A) → count q (map g xs) ≡ count p xs
  count_map p q g e [] = refl
  count_map p q g e (x ∷ xs) = rw (e x, count_map p q g e xs)

  pub any-map : (p : A → Bool) (q : B → Bool) (g : A → B) → ((x : A) → q (g x) ≡ p x) → (xs : List A) → any q (map g xs) ≡ any p xs
  any-map p q g e [] = refl
  any-map p q g e (x ∷ xs) = rw (e x, any-map p q g e xs)

-- numbers in a row
pub up_from-add : (a k l : ℕ) → up_from a (k + l) ≡ up_from a k ++ up_from (a + k) l
up_from-add a zero l = rw (add-zero, zero-add)
up_from-add a (suc k) l = rw (suc-add, add-suc, ← suc-add) (ap (λ (r : List ℕ). a ∷ r) (up_from-add (suc a) k l))
