-- Refusal 18, run by run: a byte that is left behind is not older, and one that no run leaves behind no later run does.
use Prim.Native.Nat.{ℕ, zero, suc, ◌+◌, ◌-◌, ◌≤◌, ◌<◌}
use mathlib.Core.Path.{◌≡◌, refl, ◌∙◌, ap, subst}
use mathlib.Core.Logic.{⊎_elim}
use mathlib.Core.Bool.{false, ◌||◌}
use mathlib.Core.List.{List, [], ◌∷◌}
use native.Mathlib.Omega.{arith}
use lib.Dec.{ltb, leb}
use borrow.Author.Tests.{lt-ltb, le-ltb, le-leb, lt-leb}
use Rattle.common.specs.Ranges.{within}
use Rattle.common.proofs.Bools.{and-false}
use Rattle.common.proofs.Order.{below}
use Rattle.runs.specs.declared.Run.{Run}
use Rattle.runs.specs.Owner.{age_of, owner}
use Rattle.runs.proofs.Over.{sides, owner-after}
use Rattle.runs.proofs.Canon.{Canon, head, rest, canon-start, canon-before, canon-head}
use Rattle.stripe.specs.Refusals.{behind}
use Rattle.behind.specs.Onward.{onward}

-- the run is before the byte or after it, or over it and older, or leads on past it
module _ (r : Run) (age b : ℕ) where
  pub onward-before : b < r.first → b ≡ onward r age b
  unfolding onward
  onward-before u = rw (lt-leb r.first b u)

  pub onward-after : r.last < b → b ≡ onward r age b
  unfolding onward
  onward-after u = rw (lt-leb b r.last u, and-false (leb r.first b))

  pub onward-under : age_of r < age → b ≡ onward r age b
  unfolding onward
  onward-under u = rw (lt-leb age (age_of r) u, and-false (within r.first b r.last))

  pub onward-in : r.first ≤ b → b ≤ r.last → age ≤ age_of r → r.last + 1 ≡ onward r age b
  unfolding onward
  onward-in u v w = rw (le-leb r.first b u, le-leb b r.last v, le-leb age (age_of r) w)

  by-onward : (P : ℕ → Type 0)
      → (r.first ≤ b → b ≤ r.last → age ≤ age_of r → P (r.last + 1)) → (r.first ≤ b → b ≤ r.last → age_of r < age → P b) → (b < r.first → P b) → (r.last < b → P b)
      → P (onward r age b)
  by-onward P f g h k =
      sides r b
      (λ u. subst P (onward-before u) (h u))
      (λ u v. ⊎_elim (λ (w : age_of r < age). subst P (onward-under w) (g u v w)) (λ (w : age ≤ age_of r). subst P (onward-in u v w) (f u v w)) (below (age_of r) age))
      (λ u. subst P (onward-after u) (k u))

-- the runs left decide over the bytes left, which are those from the byte b up to before e
module _ {p q : ℕ} {r : Run} {rs : List Run} (age e : ℕ) (c : Canon p q (r ∷ rs)) (some : 0 < age) where
  stays : (k b : ℕ) → suc k ≡ e - b → b ≤ r.last → owner (r ∷ rs) b < age → behind (r ∷ rs) age b (suc k) ≡ behind rs age b (e - b)
  unfolding behind
  stays k b s u v = rw (← s, lt-ltb (owner (r ∷ rs) b) age v, lt-ltb (owner rs b) age (omega (arith, canon-before b (rest c) (omega arith))))

  pub behind-next : (k b : ℕ) → k ≡ e - b → behind (r ∷ rs) age b k ≡ behind rs age (onward r age b) (e - onward r age b)
  unfolding behind
  behind-next zero b s =
      by-onward r age b (λ (z : ℕ). false ≡ behind rs age z (e - z))
      (λ u v w. let z : e - (r.last + 1) ≡ 0 = omega arith in rw z) (λ _ _ _. rw (← s)) (λ _. rw (← s)) (λ _. rw (← s))
  behind-next (suc k) b s =
      let n = head c in
      let t : k ≡ e - suc b = omega arith in
      let later : (z : ℕ) → onward r age (suc b) ≡ z → behind (r ∷ rs) age (suc b) k ≡ behind rs age z (e - z) =
      λ z d. behind-next k (suc b) t ∙ ap (λ (y : ℕ). behind rs age y (e - y)) d in
      by-onward r age b (λ (z : ℕ). behind (r ∷ rs) age b (suc k) ≡ behind rs age z (e - z))
      (λ u v w.
      rw (le-ltb (owner (r ∷ rs) b) age (omega (arith, canon-head b c u v)))
      (later (r.last + 1) (by-onward r age (suc b) (λ (z : ℕ). z ≡ r.last + 1) (λ _ _ _. refl) (λ x y z. omega arith) (λ x. omega arith) (λ x. omega arith))))
      (λ u v w. stays k b s v (omega (arith, canon-head b c u v)))
      (λ u. stays k b s (omega arith) (omega (arith, canon-before b (canon-start r.first r c (omega arith)) u)))
      (λ u.
      rw (← s, owner-after r rs b u)
      (ap (◌||◌ (ltb (owner rs b) age))
      (rw (← t) at (later (suc b) (by-onward r age (suc b) (λ (z : ℕ). z ≡ suc b) (λ x y z. omega arith) (λ _ _ _. refl) (λ _. refl) (λ _. refl))))))

pub behind-none : (age e k b : ℕ) → k ≡ e - b → 0 < age → behind [] age b k ≡ ltb b e
unfolding behind owner
behind-none age e zero b s h = rw (le-ltb b e (omega arith))
behind-none age e (suc k) b s h = rw (lt-ltb b e (omega arith), lt-ltb 0 age h)
