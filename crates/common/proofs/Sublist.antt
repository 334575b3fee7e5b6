-- A list with some elements of another, in their order.
use Prim.Native.Nat.{suc, ◌+◌, ◌≤◌}
use native.Mathlib.Omega.{arith}
use mathlib.Core.Bool.{Bool, true, false, not, cond}
use mathlib.Core.List.{List, [], ◌∷◌, ◌++◌}
use lib.Dec.{T, lit≤}
use lib.ListN.{length}
use Rattle.common.specs.Tests.{all, keep, pairs}
use Rattle.common.proofs.Bools.{and_l, and_r, and_i}
use Rattle.common.proofs.Listed.{all_keep, all_join, pairs-put}

pub data Sub {A : Type 0} : List A → List A → Type 0 where
  none : Sub [] []
  with : {x : A} {xs ys : List A} → Sub xs ys → Sub (x ∷ xs) (x ∷ ys)
  skip : {y : A} {xs ys : List A} → Sub xs ys → Sub xs (y ∷ ys)

module _ {A : Type 0} where
  pub with-last : {xs ys : List A} (z : A) → Sub xs ys → Sub (xs ++ (z ∷ [])) (ys ++ (z ∷ []))
  with-last z none = with none
  with-last z (with s) = with (with-last z s)
  with-last z (skip s) = skip (with-last z s)

  pub skip-last : {xs ys : List A} (z : A) → Sub xs ys → Sub xs (ys ++ (z ∷ []))
  skip-last z none = skip none
  skip-last z (with s) = with (skip-last z s)
  skip-last z (skip s) = skip (skip-last z s)

  pub sub-all : (p : A → Bool) {xs ys : List A} → Sub xs ys → T (all p ys) → T (all p xs)
  sub-all p none t = tt
  sub-all p (with {x = x} {xs = xs} {ys = ys} s) t = and_i (p x) (all p xs) (and_l (p x) (all p ys) t) (sub-all p s (and_r (p x) (all p ys) t))
  sub-all p (skip {y = y} {ys = ys} s) t = sub-all p s (and_r (p y) (all p ys) t)

  pub sub-pairs : (f : A → A → Bool) {xs ys : List A} → Sub xs ys → T (pairs f ys) → T (pairs f xs)
  sub-pairs f none t = tt
  sub-pairs f (with {x = x} {xs = xs} {ys = ys} s) t =
      and_i (all (f x) xs) (pairs f xs) (sub-all (f x) s (and_l (all (f x) ys) (pairs f ys) t)) (sub-pairs f s (and_r (all (f x) ys) (pairs f ys) t))
  sub-pairs f (skip {y = y} {ys = ys} s) t = sub-pairs f s (and_r (all (f y) ys) (pairs f ys) t)

  -- xs, of which none passes q, and those that pass: together each element at most once
  module _ (q : A → Bool) where
    pub few : {xs ys : List A} → Sub xs ys → T (all (λ x. not (q x)) xs) → length xs + length (keep q ys) ≤ length ys
    few none t = lit≤ tt
    few (with {x = x} {xs = xs} {ys = ys} s) t = go (q x) (and_l (not (q x)) (all (λ x. not (q x)) xs) t) (few s (and_r (not (q x)) (all (λ x. not (q x)) xs) t))
      where
        go : (b : Bool) → T (not b) → length xs + length (keep q ys) ≤ length ys → suc (length xs) + length (cond b (x ∷ keep q ys) (keep q ys)) ≤ suc (length ys)
        go true n h = absurd n
        go false n h = omega arith
    few (skip {y = y} {xs = xs} {ys = ys} s) t = go (q y) (few s t)
      where
        go : (b : Bool) → length xs + length (keep q ys) ≤ length ys → length xs + length (cond b (y ∷ keep q ys) (keep q ys)) ≤ suc (length ys)
        go true h = omega arith
        go false h = omega arith

    pub once : (f : A → A → Bool) → ((x y : A) → T (f x y) → T (f y x)) → {xs ys : List A} → Sub xs ys → T (all (λ x. not (q x)) xs) → T (pairs f ys) → T (pairs f (xs ++ keep q ys))
    once f turn none t u = tt
    once f turn (with {x = x} {xs = xs} {ys = ys} s) t u =
        go (q x) (and_l (not (q x)) (all (λ x. not (q x)) xs) t) (once f turn s (and_r (not (q x)) (all (λ x. not (q x)) xs) t) (and_r (all (f x) ys) (pairs f ys) u))
      where
        later : T (all (f x) ys)
        later = and_l (all (f x) ys) (pairs f ys) u

        go : (b : Bool) → T (not b) → T (pairs f (xs ++ keep q ys)) → T (pairs f (x ∷ xs ++ cond b (x ∷ keep q ys) (keep q ys)))
        go true n h = absurd n
        go false n h = and_i (all (f x) (xs ++ keep q ys)) (pairs f (xs ++ keep q ys)) (all_join (f x) xs (keep q ys) (sub-all (f x) s later) (all_keep (f x) q ys later)) h
    once f turn (skip {y = y} {xs = xs} {ys = ys} s) t u = go (q y) (once f turn s t (and_r (all (f y) ys) (pairs f ys) u))
      where
        later : T (all (f y) ys)
        later = and_l (all (f y) ys) (pairs f ys) u

        earlier : (zs : List A) → T (all (f y) zs) → T (all (λ z. f z y) zs)
        earlier [] v = tt
        earlier (z ∷ zs) v = and_i (f z y) (all (λ z. f z y) zs) (turn y z (and_l (f y z) (all (f y) zs) v)) (earlier zs (and_r (f y z) (all (f y) zs) v))

        go : (b : Bool) → T (pairs f (xs ++ keep q ys)) → T (pairs f (xs ++ cond b (y ∷ keep q ys) (keep q ys)))
        go true h = pairs-put f xs y (keep q ys) h (earlier xs (sub-all (f y) s later)) (all_keep (f y) q ys later)
        go false h = h
