-- Canonical lists: runs that rise, are apart, and differ where they touch.
use Prim.Native.Nat.{ℕ, suc, ◌≤◌, ◌<◌}
use mathlib.Core.Path.{◌≡◌, refl}
use mathlib.Core.List.{List, [], ◌∷◌}
use native.Mathlib.Omega.{arith}
use Rattle.runs.specs.declared.Run.{Run}
use Rattle.runs.specs.Ages.{Exact}
use Rattle.runs.specs.Owner.{age_of, owner}
use Rattle.runs.proofs.Over.{over-in, over-before}

-- what may follow runs that end before p, with the age q
pub record Next (p q : ℕ) (r : Run) : Type 0 where
  pub after : p ≤ r.first
  pub rising : r.first ≤ r.last
  pub some : 0 < age_of r
  pub exact : Exact r.age
  pub other : r.first ≡ p → age_of r ≡ q → ⊥

pub data Canon : ℕ → ℕ → List Run → Type 0 where
  none : {p q : ℕ} → Canon p q []
  next : {p q : ℕ} {r : Run} {rs : List Run} → Next p q r → Canon (suc r.last) (age_of r) rs → Canon p q (r ∷ rs)

pub head : {p q : ℕ} {r : Run} {rs : List Run} → Canon p q (r ∷ rs) → Next p q r
head (next n c) = n

pub rest : {p q : ℕ} {r : Run} {rs : List Run} → Canon p q (r ∷ rs) → Canon (suc r.last) (age_of r) rs
rest (next n c) = c

-- every age is other than 0
pub opens : (p : ℕ) (r : Run) → p ≤ r.first → r.first ≤ r.last → 0 < age_of r → Exact r.age → Next p 0 r
opens p r h k l x = record { after = h; rising = k; some = l; exact = x; other = λ _ e. omega arith }

pub canon-start : {p q : ℕ} {rs : List Run} (p' : ℕ) (r : Run) → Canon p q (r ∷ rs) → p' ≤ r.first → Canon p' 0 (r ∷ rs)
canon-start p' r (next n c) h = next (opens p' r h n.rising n.some n.exact) c

pub canon-from : {p q : ℕ} {rs : List Run} (p' : ℕ) → Canon p q rs → p' ≤ p → Canon p' 0 rs
canon-from p' none h = none
canon-from p' (next {r = r} n c) h = canon-start p' r (next n c) (omega arith)

pub canon-before : {p q : ℕ} {rs : List Run} (b : ℕ) → Canon p q rs → b < p → owner rs b ≡ 0
unfolding owner
canon-before b none h = refl
canon-before b (next {r = r} n c) h = omega (arith, over-before r b (omega arith), canon-before b c (omega arith))

pub canon-head : {p q : ℕ} {r : Run} {rs : List Run} (b : ℕ) → Canon p q (r ∷ rs) → r.first ≤ b → b ≤ r.last → owner (r ∷ rs) b ≡ age_of r
unfolding owner
canon-head {r = r} b c h k = omega (arith, over-in r b h k, canon-before b (rest c) (omega arith))
