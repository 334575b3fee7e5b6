-- A write stores run by run: at most one run is over a byte, so the runs left store over what the first one stored.
use Prim.Native.Nat.{ℕ, suc, ◌<◌, max}
use mathlib.Core.Path.{◌≡◌, refl, ap₂}
use mathlib.Core.Logic.{◌⊎◌, inl, inr}
use mathlib.Core.Bool.{cond}
use mathlib.Core.List.{List, [], ◌∷◌}
use native.Mathlib.Omega.{arith}
use lib.Dec.{eqb}
use borrow.Author.Tests.{ne_eqb}
use Rattle.runs.specs.declared.Run.{Run}
use Rattle.runs.specs.Owner.{over, owner}
use Rattle.runs.proofs.Canon.{Canon}
use Rattle.runs.proofs.OneByOne.{alone}
use Rattle.stripe.specs.Stripe.{stored}

pub stored-none : (age b : ℕ) (piece xs : List ℕ) → 0 < age → stored [] age b piece xs ≡ xs
unfolding stored owner
stored-none age b piece [] h = refl
stored-none age b [] (x ∷ xs) h = refl
stored-none age b (p ∷ ps) (x ∷ xs) h = rw (ne_eqb 0 age (omega arith), stored-none age (suc b) ps xs h)

-- one byte: the first run gives it the age a, the others the age c
byte : (a c n p x : ℕ) → 0 < n → (a ≡ 0) ⊎ (c ≡ 0) → cond (eqb (max a c) n) p x ≡ cond (eqb c n) p (cond (eqb (max a 0) n) p x)
byte a c n p x h (inl e) = let u : max a c ≡ c = omega arith in rw (u, ne_eqb (max a 0) n (omega arith))
byte a c n p x h (inr e) = let u : max a c ≡ max a 0 = omega arith in rw (u, ne_eqb c n (omega arith))

pub stored_next : {p q : ℕ} {r : Run} {rs : List Run} (age b : ℕ) (piece xs : List ℕ) → Canon p q (r ∷ rs) → 0 < age
    → stored (r ∷ rs) age b piece xs ≡ stored rs age b piece (stored (r ∷ []) age b piece xs)
unfolding stored owner
stored_next age b piece [] c h = refl
stored_next age b [] (x ∷ xs) c h = refl
stored_next {r = r} {rs = rs} age b (p ∷ ps) (x ∷ xs) c h =
    ap₂ (λ (y : ℕ) (ys : List ℕ). y ∷ ys) (byte (over r b) (owner rs b) age p x h (alone c b)) (stored_next age (suc b) ps xs c h)
