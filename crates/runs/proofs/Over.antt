-- What a run and a list of runs say of a byte: a run gives it its age inside, and 0 before and after.
use Prim.Native.Nat.{ℕ, ◌≤◌, ◌<◌, max}
use mathlib.Core.Path.{◌≡◌, refl}
use mathlib.Core.Logic.{⊎_elim}
use mathlib.Core.List.{List, [], ◌∷◌, ◌++◌}
use native.Mathlib.Omega.{arith}
use lib.Dec.{leb}
use borrow.Author.Tests.{le-leb, lt-leb}
use Rattle.common.specs.Ranges.{within}
use Rattle.common.proofs.Bools.{and-false, by_cond}
use Rattle.common.proofs.Order.{below}
use Rattle.runs.specs.declared.Run.{Run}
use Rattle.runs.specs.Owner.{age_of, over, owner}
use Rattle.runs.specs.Map.{from, end}

pub sides : {C : Type 0} (r : Run) (b : ℕ) → (b < r.first → C) → (r.first ≤ b → b ≤ r.last → C) → (r.last < b → C) → C
sides r b before inside after =
    ⊎_elim before (λ (h : r.first ≤ b). ⊎_elim after (λ (k : b ≤ r.last). inside h k) (below r.last b)) (below b r.first)

pub over-before : (r : Run) (b : ℕ) → b < r.first → over r b ≡ 0
unfolding over
over-before r b h = rw (lt-leb r.first b h)

pub over-in : (r : Run) (b : ℕ) → r.first ≤ b → b ≤ r.last → over r b ≡ age_of r
unfolding over
over-in r b h k = rw (le-leb r.first b h, le-leb b r.last k)

pub over-after : (r : Run) (b : ℕ) → r.last < b → over r b ≡ 0
unfolding over
over-after r b h = rw (lt-leb b r.last h, and-false (leb r.first b))

-- from a byte on a run says what it says
pub over-from : (r : Run) (a b : ℕ) → a ≤ b → r.first ≤ b → over (from a r) b ≡ over r b
unfolding over
over-from r a b h k = rw (le-leb a b h, le-leb r.first b k)

-- what the age has, and 0 has, it has too
pub over-is : (P : ℕ → Type 0) (r : Run) (b : ℕ) → P (age_of r) → P 0 → P (over r b)
unfolding over
over-is P r b a z = by_cond P (within r.first b r.last) (age_of r) 0 (λ _. a) (λ _. z)

pub owner-after : (r : Run) (rs : List Run) (b : ℕ) → r.last < b → owner (r ∷ rs) b ≡ owner rs b
unfolding owner
owner-after r rs b h = omega (arith, over-after r b h)

-- of two lists one after the other the greater age holds
pub owner-append : (es ds : List Run) (b : ℕ) → owner (es ++ ds) b ≡ max (owner es b) (owner ds b)
unfolding owner
owner-append [] ds b = omega arith
owner-append (e ∷ es) ds b = omega (arith, owner-append es ds b)

pub owner-snoc : (es : List Run) (r : Run) (b : ℕ) → owner (es ++ r ∷ []) b ≡ max (over r b) (owner es b)
unfolding owner
owner-snoc es r b = omega (arith, owner-append es (r ∷ []) b)

-- no entry is over a byte from the end on
pub owner-end : (es : List Run) (b : ℕ) → end es ≤ b → owner es b ≡ 0
unfolding owner end
owner-end [] b h = refl
owner-end (e ∷ es) b h = omega (arith, over-after e b (omega arith), owner-end es b (omega arith))
