-- What is one of a list, and what tests over the list say of it.
use Prim.Native.Nat.{ℕ, zero, suc, ◌<◌}
use native.Mathlib.Omega.{arith}
use mathlib.Core.Bool.{Bool, true, false, ◌&&◌, cond}
use mathlib.Core.List.{List, [], ◌∷◌, ◌++◌, map}
use mathlib.Core.Logic.{◌⊎◌, inl, inr, ⊎_elim}
use mathlib.Core.Path.{◌≡◌, refl, sym, ap, subst, ◌∙◌}
use lib.Dec.{T}
use lib.ListN.{length, get_or}
use Rattle.common.specs.Tests.{all, any, keep, pairs}
use Rattle.common.proofs.Bools.{and_l, and_r, and_i, or-e}
use Rattle.common.proofs.Listed.{all_both}
use Rattle.promises.specs.Among.{Among}

module _ {A : Type 0} where
  pub in_all : (p : A → Bool) (x : A) (xs : List A) → Among x xs → T (all p xs) → T (p x)
  in_all p x [] h t = absurd h
  in_all p x (y ∷ ys) (inl e) t = subst (λ (z : A). T (p z)) (sym e) (and_l (p y) (all p ys) t)
  in_all p x (y ∷ ys) (inr h) t = in_all p x ys h (and_r (p y) (all p ys) t)

  pub in_split : (x : A) (xs ys : List A) → Among x (xs ++ ys) → Among x xs ⊎ Among x ys
  in_split x [] ys h = inr h
  in_split x (z ∷ zs) ys (inl e) = inl (inl e)
  in_split x (z ∷ zs) ys (inr h) = go (in_split x zs ys h)
    where
      go : Among x zs ⊎ Among x ys → Among x (z ∷ zs) ⊎ Among x ys
      go (inl k) = inl (inr k)
      go (inr k) = inr k

  pub in_left : (x : A) (xs ys : List A) → Among x xs → Among x (xs ++ ys)
  in_left x [] ys h = absurd h
  in_left x (z ∷ zs) ys (inl e) = inl e
  in_left x (z ∷ zs) ys (inr h) = inr (in_left x zs ys h)

  pub in_right : (x : A) (xs ys : List A) → Among x ys → Among x (xs ++ ys)
  in_right x [] ys h = h
  in_right x (z ∷ zs) ys h = inr (in_right x zs ys h)

  pub in-keep : (p : A → Bool) (x : A) (xs : List A) → Among x (keep p xs) → Among x xs × T (p x)
  in-keep p x [] h = absurd h
  in-keep p x (y ∷ ys) h = go (p y) refl (λ k. let r = in-keep p x ys k in (inr r.0, r.1)) h
    where
      go : (b : Bool) → p y ≡ b → (Among x (keep p ys) → Among x (y ∷ ys) × T (p x)) → Among x (cond b (y ∷ keep p ys) (keep p ys)) → Among x (y ∷ ys) × T (p x)
      go true e r (inl q) = (inl q, subst (λ (z : A). T (p z)) (sym q) (rw e tt))
      go true e r (inr h) = r h
      go false e r h = r h

  pub keep-in : (p : A → Bool) (x : A) (xs : List A) → Among x xs → T (p x) → Among x (keep p xs)
  keep-in p x [] h t = absurd h
  keep-in p x (y ∷ ys) (inl e) t = go (p y) (subst (λ (z : A). T (p z)) e t)
    where
      go : (b : Bool) → T b → Among x (cond b (y ∷ keep p ys) (keep p ys))
      go true u = inl e
      go false u = absurd u
  keep-in p x (y ∷ ys) (inr h) t = go (p y) (keep-in p x ys h t)
    where
      go : (b : Bool) → Among x (keep p ys) → Among x (cond b (y ∷ keep p ys) (keep p ys))
      go true k = inr k
      go false k = k

  pub any-in : (p : A → Bool) (xs : List A) → T (any p xs) → (x : A) × Among x xs × T (p x)
  any-in p [] t = absurd t
  any-in p (y ∷ ys) t =
      ⊎_elim (λ (u : T (p y)). (y, inl refl, u)) (λ (u : T (any p ys)). let r = any-in p ys u in (r.0, inr r.1, r.2)) (or-e (p y) (any p ys) t)

  -- two of them: the same one, or one of them earlier
  pub in_pairs : (f : A → A → Bool) (a b : A) (xs : List A) → Among a xs → Among b xs → T (pairs f xs) → (a ≡ b) ⊎ (T (f a b) ⊎ T (f b a))
  in_pairs f a b [] h k t = absurd h
  in_pairs f a b (y ∷ ys) (inl d) (inl e) t = inl (d ∙ sym e)
  in_pairs f a b (y ∷ ys) (inl d) (inr k) t = inr (inl (subst (λ (z : A). T (f z b)) (sym d) (in_all (f y) b ys k (and_l (all (f y) ys) (pairs f ys) t))))
  in_pairs f a b (y ∷ ys) (inr h) (inl e) t = inr (inr (subst (λ (z : A). T (f z a)) (sym e) (in_all (f y) a ys h (and_l (all (f y) ys) (pairs f ys) t))))
  in_pairs f a b (y ∷ ys) (inr h) (inr k) t = in_pairs f a b ys h k (and_r (all (f y) ys) (pairs f ys) t)

  pub pairs-both : (f g : A → A → Bool) (xs : List A) → T (pairs f xs) → T (pairs g xs) → T (pairs (λ a b. f a b && g a b) xs)
  pairs-both f g [] s t = tt
  pairs-both f g (y ∷ ys) s t =
      and_i (all (λ b. f y b && g y b) ys) (pairs (λ a b. f a b && g a b) ys)
      (all_both (f y) (g y) ys (and_l (all (f y) ys) (pairs f ys) s) (and_l (all (g y) ys) (pairs g ys) t))
      (pairs-both f g ys (and_r (all (f y) ys) (pairs f ys) s) (and_r (all (g y) ys) (pairs g ys) t))

  -- its place
  pub in_place : (d x : A) (xs : List A) → Among x xs → (n : ℕ) × (n < length xs) × (get_or xs n d ≡ x)
  in_place d x [] h = absurd h
  in_place d x (y ∷ ys) (inl e) = (0, omega arith, sym e)
  in_place d x (y ∷ ys) (inr h) = let r = in_place d x ys h in (suc r.0, (let l = r.1 in omega arith), r.2)

  pub place_in : (d : A) (xs : List A) (n : ℕ) → n < length xs → Among (get_or xs n d) xs
  place_in d [] n h = absurd (let z : ⊥ = omega arith in z)
  place_in d (y ∷ ys) zero h = inl refl
  place_in d (y ∷ ys) (suc n) h = inr (place_in d ys n (omega arith))

module _ {A B : Type 0} where
  pub in_map : (f : A → B) (y : B) (xs : List A) → Among y (map f xs) → (x : A) × Among x xs × (y ≡ f x)
  in_map f y [] h = absurd h
  in_map f y (x ∷ xs) (inl e) = (x, inl refl, e)
  in_map f y (x ∷ xs) (inr h) = let k = in_map f y xs h in (k.0, inr k.1, k.2)

  pub map-in : (f : A → B) (x : A) (xs : List A) → Among x xs → Among (f x) (map f xs)
  map-in f x [] h = absurd h
  map-in f x (y ∷ ys) (inl e) = inl (ap f e)
  map-in f x (y ∷ ys) (inr h) = inr (map-in f x ys h)
