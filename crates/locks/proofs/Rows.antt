-- Numbers in a row, as a counter gives them: each is the one before it plus one, so none comes twice.
use Prim.Native.Nat.{ℕ, zero, suc, ◌+◌, ◌<◌}
use native.Mathlib.Omega.{arith}
use native.Mathlib.Nat.{add-zero}
use mathlib.Core.Bool.{not}
use mathlib.Core.List.{List, [], ◌++◌}
use mathlib.Core.Path.{◌≡◌, refl, sym, ap, ap₂, ◌∙◌}
use lib.Dec.{T, not_T, eqb, eqb→eq}
use Rattle.common.specs.Tests.{all, pairs, up_from}
use Rattle.common.proofs.Bools.{and_i}
use Rattle.common.proofs.Listed.{up_from-add}

-- xs were given by a counter that stood at `from` and now stands at `to`
pub record Row (from to : ℕ) (xs : List ℕ) : Type 0 where
  pub many : ℕ
  pub are : xs ≡ up_from (from + 1) many
  pub ends : to ≡ from + many

pub row-none : (n : ℕ) → Row n n []
row-none n = record { many = 0; are = refl; ends = sym (add-zero n) }

pub row-join : (a b c : ℕ) (xs ys : List ℕ) → Row a b xs → Row b c ys → Row a c (xs ++ ys)
row-join a b c xs ys p q =
    record {
      many = p.many + q.many;
      are =
          ap₂ (λ (x y : List ℕ). x ++ y) p.are (q.are ∙ ap (λ (n : ℕ). up_from n q.many) (let e = p.ends in let f : b + 1 ≡ a + 1 + p.many = omega arith in f))
          ∙ sym (up_from-add (a + 1) p.many q.many);
      ends = let e = p.ends in let f = q.ends in omega arith;
    }

-- from 0: 1, 2, 3, ..
pub row-from-one : (n : ℕ) (xs : List ℕ) → Row 0 n xs → xs ≡ up_from 1 n
row-from-one n xs p = p.are ∙ ap (up_from 1) (let e = p.ends in let f : p.many ≡ n = omega arith in f)

all-later : (a b n : ℕ) → a < b → T (all (λ c. not (eqb a c)) (up_from b n))
all-later a b zero h = tt
all-later a b (suc n) h =
    and_i (not (eqb a b)) (all (λ c. not (eqb a c)) (up_from (suc b) n)) (not_T (eqb a b) (λ t. let e = eqb→eq a b t in omega arith)) (all-later a (suc b) n (omega arith))

pub row-once : (a n : ℕ) → T (pairs (λ b c. not (eqb b c)) (up_from a n))
row-once a zero = tt
row-once a (suc n) =
    and_i (all (λ c. not (eqb a c)) (up_from (suc a) n)) (pairs (λ b c. not (eqb b c)) (up_from (suc a) n)) (all-later a (suc a) n (omega arith)) (row-once (suc a) n)
