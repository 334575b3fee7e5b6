-- The laws of `tab`: a list by its rule is known by its length and by each of its elements.
use mathlib.Core.Path.{◌≡◌, refl, ap, ap₂}
use mathlib.Core.List.{List, [], ◌∷◌, ◌++◌, map}
use Prim.Native.Nat.{ℕ, zero, suc, ◌<◌}
use native.Mathlib.Nat.{le_of_suc-le-suc, not-suc-le-zero, suc_inj}
use native.Mathlib.Omega.{arith}
use lib.ListN.{length, get_or, set}
use Rattle.xdr.specs.Tab.{tab}

pub length-tab : {A : Type 0} (n : ℕ) (f : ℕ → A) → length (tab n f) ≡ n
unfolding tab
length-tab zero f = refl
length-tab (suc n) f = ap suc (length-tab n (λ k. f (suc k)))

pub get_or-tab : {A : Type 0} (n : ℕ) (f : ℕ → A) (k : ℕ) (d : A) → k < n → get_or (tab n f) k d ≡ f k
unfolding tab
get_or-tab zero f k d h = absurd (not-suc-le-zero h)
get_or-tab (suc n) f zero d h = refl
get_or-tab (suc n) f (suc k) d h = get_or-tab n (λ j. f (suc j)) k d (le_of_suc-le-suc h)

pub tab-ext : {A : Type 0} (n : ℕ) (f g : ℕ → A) → ((k : ℕ) → k < n → f k ≡ g k) → tab n f ≡ tab n g
unfolding tab
tab-ext zero f g h = refl
tab-ext (suc n) f g h =
    ap₂ (λ x l. x ∷ l) (h 0 (omega arith)) (tab-ext n (λ k. f (suc k)) (λ k. g (suc k)) (λ k p. h (suc k) (omega arith)))

pub tab-get_or : {A : Type 0} (xs : List A) (d : A) → tab (length xs) (λ k. get_or xs k d) ≡ xs
unfolding tab
tab-get_or [] d = refl
tab-get_or (x ∷ xs) d = ap (λ l. x ∷ l) (tab-get_or xs d)

pub map-tab : {A B : Type 0} (g : A → B) (n : ℕ) (f : ℕ → A) → map g (tab n f) ≡ tab n (λ k. g (f k))
unfolding tab
map-tab g zero f = refl
map-tab g (suc n) f = ap (λ l. g (f 0) ∷ l) (map-tab g n (λ k. f (suc k)))

-- a rule that changed at i alone
pub tab-set : {A : Type 0} (n : ℕ) (f g : ℕ → A) (i : ℕ) (a : A) → g i ≡ a → ((k : ℕ) → (k ≡ i → ⊥) → g k ≡ f k) → i < n → tab n g ≡ set (tab n f) i a
unfolding tab
tab-set zero f g i a e h p = absurd (not-suc-le-zero p)
tab-set (suc n) f g zero a e h p = ap₂ (λ x l. x ∷ l) e (tab-ext n (λ k. g (suc k)) (λ k. f (suc k)) (λ k q. h (suc k) (omega arith)))
tab-set (suc n) f g (suc i) a e h p =
    ap₂ (λ x l. x ∷ l) (h 0 (omega arith))
    (tab-set n (λ k. f (suc k)) (λ k. g (suc k)) i a e (λ k q. h (suc k) (λ w. q (suc_inj w))) (le_of_suc-le-suc p))

-- one element more
pub tab-snoc : {A : Type 0} (n : ℕ) (f : ℕ → A) → tab (suc n) f ≡ tab n f ++ (f n ∷ [])
unfolding tab
tab-snoc zero f = refl
tab-snoc (suc n) f = ap (λ l. f 0 ∷ l) (tab-snoc n (λ k. f (suc k)))
