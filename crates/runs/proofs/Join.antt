-- A run in front of others: it and the first of them are one run, or they differ.
use Prim.Native.Nat.{ℕ, suc, ◌+◌, ◌≤◌, ◌<◌, max}
use mathlib.Core.Path.{◌≡◌, refl, sym, ap₂, subst}
use mathlib.Core.Logic.{◌⊎◌, inl, inr}
use mathlib.Core.Bool.{Bool, true, false, ◌&&◌, cond}
use mathlib.Core.List.{List, ◌∷◌}
use native.Mathlib.Omega.{arith}
use lib.Dec.{eqb}
use borrow.Author.Tests.{eq-eqb, ne_eqb}
use Rattle.common.proofs.Bools.{and-false}
use Rattle.common.proofs.Order.{same}
use Rattle.runs.specs.declared.Run.{Run}
use Rattle.runs.specs.Ages.{Exact}
use Rattle.runs.specs.Owner.{age_of, over, owner}
use Rattle.runs.specs.Map.{joins, from, join}
use Rattle.runs.proofs.Over.{sides, over-before, over-in, over-after, over-from}
use Rattle.runs.proofs.Canon.{Canon, none, next, opens}

pub data Joins (r t : Run) : Bool → Type 0 where
  one : r.last + 1 ≡ t.first → age_of r ≡ age_of t → Joins r t true
  two : (r.last + 1 ≡ t.first → age_of r ≡ age_of t → ⊥) → Joins r t false

pub joined : (r t : Run) → Joins r t (joins r t)
joined r t = go (same (r.last + 1) t.first) (same (age_of r) (age_of t))
  where
    go : (r.last + 1 ≡ t.first) ⊎ (r.last + 1 ≡ t.first → ⊥) → (age_of r ≡ age_of t) ⊎ (age_of r ≡ age_of t → ⊥) → Joins r t (joins r t)
    go (inl u) (inl v) = subst (Joins r t) (sym (ap₂ ◌&&◌ (eq-eqb (r.last + 1) t.first u) (eq-eqb (age_of r) (age_of t) v))) (one u v)
    go (inl u) (inr d) = rw (ne_eqb (age_of r) (age_of t) d, and-false (eqb (r.last + 1) t.first)) (two (λ _ v. d v))
    go (inr d) w = rw (ne_eqb (r.last + 1) t.first d) (two (λ u _. d u))

pub by-join : (P : List Run → Type 0) (r t : Run) (ts : List Run)
    → (r.last + 1 ≡ t.first → age_of r ≡ age_of t → P (from r.first t ∷ ts))
    → ((r.last + 1 ≡ t.first → age_of r ≡ age_of t → ⊥) → P (r ∷ t ∷ ts))
    → P (join r (t ∷ ts))
unfolding join
by-join P r t ts f g = go (joined r t)
  where
    go : {b : Bool} → Joins r t b → P (cond b (from r.first t ∷ ts) (r ∷ t ∷ ts))
    go (one u v) = f u v
    go (two d) = g d

-- runs that are canonical after it stay apart from it
pub join_apart : {ts : List Run} (r : Run) → Canon (suc r.last) (age_of r) ts → join r ts ≡ r ∷ ts
unfolding join
join_apart r none = refl
join_apart r (next {r = t} {rs = ts} n c) =
    by-join (λ (l : List Run). l ≡ r ∷ t ∷ ts) r t ts (λ u v. absurd (n.other (omega arith) (sym v))) (λ _. refl)

module _ (r : Run) (up : r.first ≤ r.last) (some : 0 < age_of r) (exact : Exact r.age) where
  pub join-canon : {q : ℕ} {ts : List Run} → Canon (suc r.last) q ts → Canon r.first 0 (join r ts)
  unfolding join
  join-canon none = next (opens r.first r (omega arith) up some exact) none
  join-canon (next {r = t} {rs = ts} n c) =
      by-join (Canon r.first 0) r t ts
      (λ u v. next (opens r.first (from r.first t) (omega arith) (omega arith) n.some n.exact) c)
      (λ d. next (opens r.first r (omega arith) up some exact)
      (next (record { after = n.after; rising = n.rising; some = n.some; exact = n.exact; other = λ u v. d (omega arith) (sym v) }) c))

  pub join-owner : {q : ℕ} {ts : List Run} (b : ℕ) → Canon (suc r.last) q ts → owner (join r ts) b ≡ max (over r b) (owner ts b)
  unfolding join owner
  join-owner b none = refl
  join-owner b (next {r = t} {rs = ts} n c) =
      by-join (λ (l : List Run). owner l b ≡ max (over r b) (max (over t b) (owner ts b))) r t ts
      (λ u v. sides r b
      (λ h. omega (arith, over-before (from r.first t) b h, over-before r b h, over-before t b (omega arith)))
      (λ h k. omega (arith, over-in (from r.first t) b h (omega arith), over-in r b h k, over-before t b (omega arith)))
      (λ h. omega (arith, over-from t r.first b (omega arith) (omega arith), over-after r b h)))
      (λ _. refl)
