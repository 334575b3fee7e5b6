-- All that is used of an age: its ℕ says all of it, number first and pass second; a run is its range and its age; and a sane age is above that of a byte
-- in no run.
use Prim.Native.Nat.{ℕ, ◌+◌, ◌*◌, ◌/◌, ◌%◌, ◌≤◌, ◌<◌, max}
use native.Mathlib.Omega.{arith}
use mathlib.Core.Path.{◌≡◌, refl, sym, ◌∙◌, ap, subst}
use mathlib.Core.Logic.{⊎_elim}
use mathlib.Core.Bool.{true, ◌&&◌, cond}
use lib.Dec.{eqb, ltb}
use borrow.Author.Tests.{ltb-true, lt-ltb, le-ltb, leb-true}
use Rattle.std.proofs.lemmas.Grind.{common_steps}
use Rattle.common.specs.Counters.{width, highest}
use Rattle.common.proofs.Bools.{and_left, and_right}
use Rattle.common.proofs.Order.{below}
use Rattle.runs.specs.declared.Age.{Age}
use Rattle.runs.specs.declared.Run.{Run}
use Rattle.runs.specs.Ages.{pair, passes, highest_pass, value_of, age, Exact}
use Rattle.runs.specs.Owner.{age_of, run}
use Rattle.runs.specs.Sound.{sane}
use Rattle.runs.specs.Valid.{Valid}

pub value-age : (n : ℕ) → value_of (age n) ≡ n
unfolding value_of age
value-age n = omega arith

pub exact-age : (n : ℕ) → Exact (age n)
unfolding Exact
exact-age n = ap age (value-age n)

pub is-exact : (a : Age) (n : ℕ) → a ≡ age n → Exact a
is-exact a n e = subst Exact (sym e) (exact-age n)

-- an age is exact where its pass is at most the highest
pub pass-exact : (a : Age) → a.pass.0 ≤ highest_pass → Exact a
unfolding Exact value_of age
pass-exact a h =
    let n : (a.number.0 * passes + a.pass.0) / passes ≡ a.number.0 = omega arith in
    let p : (a.number.0 * passes + a.pass.0) % passes ≡ a.pass.0 = omega arith in
    λ i. pair (n i) (p i)

pub exact-pass : (a : Age) → Exact a → a.pass.0 ≤ highest_pass
unfolding Exact age
exact-pass a e = let p : value_of a % passes ≡ a.pass.0 = ap (λ (x : Age). x.pass.0) e in omega arith

-- What a sane age has
pub record Sane (a : Age) : Type 0 where
  pub number : 0 < a.number.0
  pub pass : 0 < a.pass.0
  pub most : a.pass.0 ≤ highest_pass

pub sane-is : (a : Age) → sane a ≡ true → Sane a
unfolding sane
sane-is a e = search (and_left, and_right, ltb-true, leb-true)

pub sane-exact : (a : Age) → sane a ≡ true → Exact a
sane-exact a e = pass-exact a (sane-is a e).most

-- the age of no run has number 0 and pass 0
pub none-pair : (a : Age) → (eqb a.number.0 0 && eqb a.pass.0 0) ≡ eqb (value_of a) 0
unfolding value_of
none-pair a = grind (arith, common_steps)

-- "age is judged by number first and pass second": two ages whose passes are at most the highest
module _ (a b : Age) (x : Exact a) (y : Exact b) where
  pub same-pair : (eqb a.number.0 b.number.0 && eqb a.pass.0 b.pass.0) ≡ eqb (value_of a) (value_of b)
  unfolding value_of
  same-pair =
      let p = exact-pass a x in
      let q = exact-pass b y in
      grind (arith, common_steps)

  pub by-pass : a.number.0 ≡ b.number.0 → ltb a.pass.0 b.pass.0 ≡ ltb (value_of a) (value_of b)
  unfolding value_of
  by-pass n =
      let p = exact-pass a x in
      let q = exact-pass b y in
      grind (arith, common_steps)

  pub by_number : (a.number.0 ≡ b.number.0 → ⊥) → ltb a.number.0 b.number.0 ≡ ltb (value_of a) (value_of b)
  unfolding value_of
  by_number n =
      let p = exact-pass a x in
      let q = exact-pass b y in
      grind (arith, common_steps)

  -- the two in one, as the derived order of the fields asks it
  pub older-pair : cond (ltb a.number.0 b.number.0) true (eqb a.number.0 b.number.0 && ltb a.pass.0 b.pass.0) ≡ ltb (value_of a) (value_of b)
  unfolding value_of
  older-pair =
      let p = exact-pass a x in
      let q = exact-pass b y in
      grind (arith, common_steps)

  -- the later of the two is that of the greater ℕ
  pub later-pair : cond (ltb (value_of b) (value_of a)) a b ≡ age (max (value_of a) (value_of b))
  unfolding Exact
  later-pair =
      ⊎_elim
      (λ (k : value_of b < value_of a). let m : max (value_of a) (value_of b) ≡ value_of a = omega arith in rw (lt-ltb (value_of b) (value_of a) k, m) (sym x))
      (λ (k : value_of a ≤ value_of b). let m : max (value_of a) (value_of b) ≡ value_of b = omega arith in rw (le-ltb (value_of b) (value_of a) k, m) (sym y))
      (below (value_of b) (value_of a))

-- the greatest age whose fields fit their bytes
abbrev pub highest_age : ℕ
highest_age = highest width * passes + highest_pass

pub age-fits : (a : Age) → value_of a ≤ highest_age → a.number.0 ≤ highest width
unfolding value_of
age-fits a h = omega arith

pub fits-age : (a : Age) → a.number.0 ≤ highest width → a.pass.0 ≤ highest_pass → value_of a ≤ highest_age
unfolding value_of
fits-age a h k = omega arith

pub age-run : (f l a : ℕ) → age_of (run f l a) ≡ a
age-run f l a = value-age a

pub run-age : (r : Run) → Exact r.age → run r.first r.last (age_of r) ≡ r
unfolding Exact
run-age r x = λ i. record { first = r.first; last = r.last; age = x i }

pub same-run : (r t : Run) → Exact r.age → Exact t.age → r.first ≡ t.first → r.last ≡ t.last → age_of r ≡ age_of t → r ≡ t
same-run r t x y u v w = sym (run-age r x) ∙ (λ i. run (u i) (v i) (w i)) ∙ run-age t y

pub valid-exact : (r : Run) → Valid r → Exact r.age
valid-exact r v = sane-exact r.age v.some

pub sane-pos : (a : Age) → sane a ≡ true → 0 < value_of a
unfolding value_of
sane-pos a e = let s = sane-is a e in omega arith

-- the age of number 1 and pass 1, which no sane age is below
abbrev pub oldest : ℕ
oldest = passes + 1

pub oldest-sane : sane (age oldest) ≡ true
unfolding sane age
oldest-sane = refl
