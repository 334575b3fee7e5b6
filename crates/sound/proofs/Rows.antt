-- `all_friends`: what is left of a row of pairs, with the rows after it, decides as all pairs do.
use mathlib.Core.Bool.{Bool, true, false, ◌&&◌}
use mathlib.Core.List.{List, [], ◌∷◌}
use mathlib.Core.Path.{◌≡◌, subst}
use lib.Dec.{T}
use Rattle.common.specs.Tests.{all, pairs}
use Rattle.common.proofs.Bools.{true-is}
use Rattle.common.proofs.Listed.{all_of}

module _ {A : Type 0} (f : A → A → Bool) (w : Bool) where
  pub row-start : {l m : List A} (a : A) → l ≡ a ∷ m → pairs f l ≡ w → (all (f a) m && pairs f m) ≡ w
  row-start a e p = rw e at p

  pub row-skip : {l m : List A} (a : A) → ((b : A) → true ≡ f a b) → l ≡ a ∷ m → pairs f l ≡ w → pairs f m ≡ w
  row-skip {m = m} a h e p = rw (true-is (all (f a) m) (all_of (f a) (λ b. subst T (h b) tt) m)) at (row-start a e p)

  pub row_step : {l m : List A} (a b : A) (r : Bool) → l ≡ b ∷ m → f a b ≡ true → (all (f a) l && r) ≡ w → (all (f a) m && r) ≡ w
  row_step a b r e h p = rw (e, h) at p

  pub row-fail : {l m : List A} (a b : A) (r : Bool) → l ≡ b ∷ m → f a b ≡ false → (all (f a) l && r) ≡ w → false ≡ w
  row-fail a b r e h p = rw (e, h) at p

  pub row-end : {l : List A} (a : A) (r : Bool) → l ≡ [] → (all (f a) l && r) ≡ w → r ≡ w
  row-end a r e p = rw e at p

  pub rows_end : {l : List A} → l ≡ [] → pairs f l ≡ w → true ≡ w
  rows_end e p = rw e at p
