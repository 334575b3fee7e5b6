-- A rule of a table of tables, at all of its entries: one test that antt computes, and a law that reads it at an entry.
use Prim.Native.Nat.{ℕ, zero, suc, ◌<◌}
use mathlib.Core.Bool.{Bool, true, ◌&&◌}
use mathlib.Core.List.{List, [], ◌∷◌}
use native.Mathlib.Nat.{le_of_suc-le-suc, not-suc-le-zero}
use lib.Dec.{T, eqb, eqb→eq}
use lib.ListN.{length, get_or}
use Rattle.common.proofs.Bools.{and_l, and_r}

module _ {A : Type 0} where
  -- each entry passes the test of its place
  abbrev pub every : (ℕ → A → Bool) → List A → Bool
  every f [] = true
  every f (x ∷ xs) = f 0 x && every (λ i. f (suc i)) xs

  pub at : (d : A) (f : ℕ → A → Bool) (xs : List A) → T (every f xs) → (k : ℕ) → k < length xs → T (f k (get_or xs k d))
  at d f [] t k h = absurd (not-suc-le-zero h)
  at d f (x ∷ xs) t zero h = and_l (f 0 x) (every (λ i. f (suc i)) xs) t
  at d f (x ∷ xs) t (suc k) h =
      at d (λ i. f (suc i)) xs (and_r (f 0 x) (every (λ i. f (suc i)) xs) t) k (le_of_suc-le-suc h)

-- each row has n entries, and each entry passes the test of its row and column
abbrev pub grid : {A : Type 0} → (ℕ → ℕ → A → Bool) → ℕ → List (List A) → Bool
grid f n = every (λ i row. eqb (length row) n && every (f i) row)

pub at-grid : {A : Type 0} (d : A) (f : ℕ → ℕ → A → Bool) (n : ℕ) (rows : List (List A)) → T (grid f n rows)
    → (i k : ℕ) → i < length rows → k < n → T (f i k (get_or (get_or rows i []) k d))
at-grid d f n rows t i k p q =
    let row = get_or rows i [] in
    let r = at [] (λ i row. eqb (length row) n && every (f i) row) rows t i p in
    at d (f i) row (and_r (eqb (length row) n) (every (f i) row) r) k
    (rw (eqb→eq (length row) n (and_l (eqb (length row) n) (every (f i) row) r)) q)
