-- Zeros: the number that they say, that a list of zeros is one from any place on, and storing them one by one.
use Prim.Native.Nat.{ℕ, zero, suc, ◌+◌, ◌-◌, ◌≤◌, min, max}
use Rattle.std.specs.List.{fold}
use native.Mathlib.Nat.{zero-max}
use native.Mathlib.Omega.{arith}
use mathlib.Core.Bool.{true, ◌&&◌, and-true, and_assoc}
use mathlib.Core.Logic.{⊎_elim}
use mathlib.Core.List.{List, [], ◌∷◌, ◌++◌, append-nil}
use mathlib.Core.Path.{◌≡◌, refl, sym, ap, ◌∙◌}
use lib.Dec.{eqb}
use lib.ListN.{length, get_or, take, drop, replicate, length-take, length-drop, drop_of_length-le}
use lib.Seq.{take_all}
use borrow.Rule.Slice.PartMut.{put_mid}
use borrow.Author.Tests.{eq-eqb, ne_eqb}
use Rattle.xdr.specs.Be.{Bytes, be}
use Rattle.common.specs.Tests.{zeros}
use Rattle.common.specs.Cleared.{cleared}
use Rattle.common.proofs.Bools.{and_both}
use Rattle.common.proofs.Order.{same}

-- zeros from k on
pub zeros-from : (xs : List ℕ) (k : ℕ) → ((b : ℕ) → k ≤ b → get_or xs b 0 ≡ 0) → zeros (drop k xs) ≡ true
zeros-from [] zero h = refl
zeros-from [] (suc k) h = refl
zeros-from (x ∷ xs) zero h = and_both (eqb x 0) (zeros xs) (eq-eqb x 0 (h 0 (omega arith))) (zeros-from xs zero (λ b _. h (suc b) (omega arith)))
zeros-from (x ∷ xs) (suc k) h = zeros-from xs k (λ b l. h (suc b) (omega arith))

pub blank : (n b : ℕ) → get_or {A = ℕ} (replicate n 0) b 0 ≡ 0
blank zero b = refl
blank (suc n) zero = refl
blank (suc n) (suc b) = blank n b

pub be-blank : (w n at : ℕ) → be w (replicate n 0) at ≡ 0
unfolding be
be-blank zero n at = refl
be-blank (suc w) n at = omega (arith, be-blank w n at, blank n (at + w))

pub blank-bytes : (n : ℕ) → Bytes (replicate n 0)
blank-bytes n b = let e = blank n b in omega arith

-- the greatest of bytes is 0 where all are
pub greatest-blank : (m : ℕ) (xs : List ℕ) → eqb (fold max m xs) 0 ≡ (eqb m 0 && zeros xs)
greatest-blank m [] = sym (and-true (eqb m 0))
greatest-blank m (x ∷ xs) = greatest-blank (max m x) xs ∙ rw (max-zero m x, and_assoc)
  where
    max-zero : (a b : ℕ) → eqb (max a b) 0 ≡ (eqb a 0 && eqb b 0)
    max-zero a b =
        ⊎_elim
        (λ (u : a ≡ 0). rw (eq-eqb a 0 u, u, zero-max))
        (λ (u : a ≡ 0 → ⊥). rw (ne_eqb a 0 u, ne_eqb (max a b) 0 (λ (z : max a b ≡ 0). u (omega arith))))
        (same a 0)

-- the bytes from a place on, as the code takes them
pub rest-of : (k from : ℕ) (xs : List ℕ) → k ≡ min from (length xs) → take (length xs - k) (drop k xs) ≡ drop from xs
rest-of zero zero xs e = take_all (length xs - 0) xs (omega arith)
rest-of zero (suc from) [] e = refl
rest-of zero (suc from) (x ∷ xs) e = absurd (omega arith)
rest-of (suc k) zero xs e = absurd (omega arith)
rest-of (suc k) (suc from) [] e = absurd (omega arith)
rest-of (suc k) (suc from) (x ∷ xs) e =
    let f : length (x ∷ xs) - suc k ≡ length xs - k = omega arith in
    rw f (rest-of k from xs (omega arith))

cleared-all : (ys : List ℕ) → cleared zero ys ≡ replicate (length ys) 0
unfolding cleared
cleared-all [] = refl
cleared-all (y ∷ ys) = ap (λ (l : List ℕ). 0 ∷ l) (cleared-all ys)

-- the bytes in front of a place, and zeros
cleared-cut : (k from : ℕ) (xs : List ℕ) → k ≡ min from (length xs) → take k xs ++ replicate (length xs - k) 0 ≡ cleared from xs
unfolding cleared
cleared-cut zero from [] e = refl
cleared-cut zero zero (x ∷ xs) e = let f : length (x ∷ xs) - 0 ≡ length (x ∷ xs) = omega arith in rw f (sym (cleared-all (x ∷ xs)))
cleared-cut zero (suc from) (x ∷ xs) e = absurd (omega arith)
cleared-cut (suc k) from [] e = absurd (omega arith)
cleared-cut (suc k) zero (x ∷ xs) e = absurd (omega arith)
cleared-cut (suc k) (suc from) (x ∷ xs) e =
    let f : length (x ∷ xs) - suc k ≡ length xs - k = omega arith in
    rw f (ap (λ (l : List ℕ). x ∷ l) (cleared-cut k from xs (omega arith)))

-- zeros in place of all bytes from a place on
pub filled-cleared : (k from : ℕ) (xs ys : List ℕ) → k ≡ min from (length xs) → ys ≡ replicate (length (take (length xs - k) (drop k xs))) 0
    → put_mid k (length xs - k) xs ys ≡ cleared from xs
filled-cleared k from xs ys e f =
    let g : length (take (length xs - k) (drop k xs)) ≡ length xs - k = simp (length-take, length-drop) (omega arith) in
    let h : length (drop k xs) ≤ length xs - k = simp length-drop (omega arith) in
    rw (drop_of_length-le (drop k xs) h, append-nil, f, g) (cleared-cut k from xs e)

-- what stands behind xs is cleared
pub cleared-behind : (xs ys : List ℕ) → cleared (length xs) (xs ++ ys) ≡ xs ++ replicate (length ys) 0
unfolding cleared
cleared-behind [] ys = cleared-all ys
cleared-behind (x ∷ xs) ys = ap (λ (l : List ℕ). x ∷ l) (cleared-behind xs ys)
