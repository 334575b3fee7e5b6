-- Numbers in decimal: all digits but the last are those of the tenth part, and 20 digits are enough.
use Prim.Native.Nat.{ℕ, zero, suc, ◌+◌, ◌*◌, ◌/◌, ◌%◌, ◌≤◌, ◌<◌}
use Prim.Native.Char.{code}
use mathlib.Core.Path.{◌≡◌, refl, sym, ap, ◌∙◌}
use mathlib.Core.Bool.{Bool, true, false, cond}
use mathlib.Core.List.{List, [], ◌∷◌, ◌++◌}
use native.Mathlib.Omega.{arith}
use lib.Dec.{ltb}
use lib.ListN.{length, length-append}
use borrow.Author.Tests.{lt-ltb, le-ltb}
use Rattle.std.specs.Fmt as fmt
use Rattle.std.proofs.lemmas.Fmt.{decimal_by_steps}
use Rattle.line.specs.Format.{largest}
use Rattle.text.specs.Text.{digits_of, decimal}

-- 10 to the power suc k
unfoldable pub top : ℕ → ℕ
top zero = 10
top (suc k) = top k * 10

pub digits-small : (k n : ℕ) → n < 10 → digits_of k n ≡ (code "0" + n) ∷ []
unfolding digits_of
digits-small zero n h = refl
digits-small (suc k) n h = rw (lt-ltb n 10 h)

pub digits-big : (k n : ℕ) → 10 ≤ n → digits_of (suc k) n ≡ digits_of k (n / 10) ++ ((code "0" + n % 10) ∷ [])
unfolding digits_of
digits-big k n h = rw (le-ltb n 10 h)

-- where k + 1 digits are enough, one more changes nothing
enough : (k n : ℕ) → n < top k → digits_of k n ≡ digits_of (suc k) n
unfolding digits_of top
enough zero n h = rw (lt-ltb n 10 (omega arith))
enough (suc k) n h = go (ltb n 10) (enough k (n / 10) (omega arith))
  where
    go : (b : Bool) → digits_of k (n / 10) ≡ digits_of (suc k) (n / 10)
        → cond b ((code "0" + n) ∷ []) (digits_of k (n / 10) ++ ((code "0" + n % 10) ∷ []))
        ≡ cond b ((code "0" + n) ∷ []) (digits_of (suc k) (n / 10) ++ ((code "0" + n % 10) ∷ []))
    go true e = refl
    go false e = rw e

-- every number that is read or written has at most 20 digits
pub below_top : (n : ℕ) → n ≤ largest → n < top 19
unfolding top
below_top n h = let z : n < 100000000000000000000 = omega arith in z

tenth-below : (n : ℕ) → n ≤ largest → n / 10 < top 18
unfolding top
tenth-below n h = let z : n / 10 < 10000000000000000000 = omega arith in z

pub decimal-small : (n : ℕ) → n < 10 → decimal n ≡ (code "0" + n) ∷ []
unfolding decimal
decimal-small = digits-small 19

pub decimal-big : (n : ℕ) → n ≤ largest → 10 ≤ n → decimal n ≡ decimal (n / 10) ++ ((code "0" + n % 10) ∷ [])
unfolding decimal
decimal-big n m h = digits-big 18 n h ∙ ap (λ (l : List ℕ). l ++ ((code "0" + n % 10) ∷ [])) (enough 18 (n / 10) (tenth-below n m))

digits-length : (k n : ℕ) → length (digits_of k n) ≤ suc k
unfolding digits_of
digits-length zero n = omega arith
digits-length (suc k) n = go (ltb n 10) (digits-length k (n / 10))
  where
    go : (b : Bool) → length (digits_of k (n / 10)) ≤ suc k
        → length (cond b ((code "0" + n) ∷ []) (digits_of k (n / 10) ++ ((code "0" + n % 10) ∷ []))) ≤ suc (suc k)
    go true h = omega arith
    go false h = simp length-append (omega arith)

pub at-most-20 : (n : ℕ) → length (decimal n) ≤ 20
unfolding decimal
at-most-20 = digits-length 19

-- the digits that the library writes are the same
pub library-decimal : (n : ℕ) → n ≤ largest → fmt.decimal n ≡ decimal n
library-decimal n h =
    sym (decimal_by_steps (λ m ds. m ≤ largest → decimal m ≡ ds) (λ m l k. decimal-small m l)
    (λ m ds l u k. decimal-big m k l ∙ ap (λ (d : List ℕ). d ++ ((code "0" + m % 10) ∷ [])) (u (omega arith))) n (omega arith) h)
