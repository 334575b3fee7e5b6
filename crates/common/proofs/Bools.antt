-- Tests as facts: the connectives. Assumes nothing.
use mathlib.Core.Bool.{Bool, true, false, not, ◌&&◌, ◌||◌, cond}
use mathlib.Core.Logic.{◌⊎◌, inl, inr}
use mathlib.Core.Path.{◌≡◌, refl}
use lib.Dec.{T}
use native.Mathlib.Omega.{arith}
use Prim.Native.Nat.{ℕ}
use Rattle.common.specs.Tests.{implies}

pub and_l : (a b : Bool) → T (a && b) → T a
and_l true b t = tt
and_l false b t = absurd t

pub and_r : (a b : Bool) → T (a && b) → T b
and_r true b t = t
and_r false b t = absurd t

pub and_i : (a b : Bool) → T a → T b → T (a && b)
and_i true b s t = t
and_i false b s t = absurd s

pub or-e : (a b : Bool) → T (a || b) → T a ⊎ T b
or-e true b t = inl tt
or-e false b t = inr t

pub or_l : (a b : Bool) → T a → T (a || b)
or_l true b t = tt
or_l false b t = absurd t

pub or_r : (a b : Bool) → T b → T (a || b)
or_r true b t = tt
or_r false b t = t

pub imp-i : (a b : Bool) → (T a → T b) → T (implies a b)
imp-i true b f = f tt
imp-i false b f = tt

pub imp-e : (a b : Bool) → T (implies a b) → T a → T b
imp-e true b t s = t
imp-e false b t s = absurd s

pub either : (b : Bool) → T b ⊎ T (not b)
either true = inl tt
either false = inr tt

pub nor-l : (a b : Bool) → T (not (a || b)) → T (not a)
nor-l true b t = absurd t
nor-l false b t = tt

pub nor-r : (a b : Bool) → T (not (a || b)) → T (not b)
nor-r true b t = absurd t
nor-r false b t = t

pub true-is : (b : Bool) → T b → b ≡ true
true-is true t = refl
true-is false t = absurd t

pub false-is : (b : Bool) → T (not b) → b ≡ false
false-is true t = absurd t
false-is false t = refl

-- a choice keeps what both arms have
pub by_cond {ℓ} : {A : Type ℓ} (P : A → Type 0) (b : Bool) (x y : A) → (T b → P x) → (T (not b) → P y) → P (cond b x y)
by_cond P true x y f g = f tt
by_cond P false x y f g = g tt

pub cond-true {ℓ} : {A : Type ℓ} (b : Bool) (x y : A) → T b → cond b x y ≡ x
cond-true true x y t = refl
cond-true false x y t = absurd t

pub cond-false {ℓ} : {A : Type ℓ} (b : Bool) (x y : A) → T (not b) → cond b x y ≡ y
cond-false true x y t = absurd t
cond-false false x y t = refl

-- a test that is chosen by a test
pub choice-l : (b x y : Bool) → T (cond b x y) → T b → T x
choice-l true x y t u = t
choice-l false x y t u = absurd u

pub choice-r : (b x y : Bool) → T (cond b x y) → T (not b) → T y
choice-r true x y t u = absurd u
choice-r false x y t u = t

pub choice-i : (b x y : Bool) → (T b → T x) → (T (not b) → T y) → T (cond b x y)
choice-i true x y f g = f tt
choice-i false x y f g = g tt

pub undo : (b : Bool) → T (not (not b)) → T b
undo true t = tt
undo false t = t

pub nand-l : (a b : Bool) → T (not a) → T (not (a && b))
nand-l true b t = absurd t
nand-l false b t = tt

pub nand-imp : (a b c : Bool) → (T (not b) → T (not c)) → T (not (a && b)) → T (not (a && c))
nand-imp true b c f t = f t
nand-imp false b c f t = tt

pub nand-r : (a b : Bool) → T (not b) → T (not (a && b))
nand-r true b t = t
nand-r false b t = tt

-- The same for tests that are known to be true or false
pub never {ℓ} : {A : Type ℓ} → false ≡ true → A
never e = absurd (let z : ◌≡◌ {A = ℕ} 0 1 = cc in omega arith)

pub and-false : (t : Bool) → (t && false) ≡ false
and-false true = refl
and-false false = refl

pub and_left : (a b : Bool) → (a && b) ≡ true → a ≡ true
and_left true b e = refl
and_left false b e = e

pub and_right : (a b : Bool) → (a && b) ≡ true → b ≡ true
and_right true b e = e
and_right false b e = never e

pub and_both : (a b : Bool) → a ≡ true → b ≡ true → (a && b) ≡ true
and_both true b e f = f
and_both false b e f = e

pub or_left : (a b : Bool) → (a || b) ≡ false → a ≡ false
or_left true b e = e
or_left false b e = refl

pub or_right : (a b : Bool) → (a || b) ≡ false → b ≡ false
or_right true b e = never (λ i. not (e i))
or_right false b e = e
