-- Canonical runs taken one by one: what is left of them is canonical, and at most one run is over a byte.
use Prim.Native.Nat.{ℕ, zero, suc}
use mathlib.Core.Path.{◌≡◌}
use mathlib.Core.Logic.{◌⊎◌, inl, inr}
use mathlib.Core.List.{List, [], ◌∷◌}
use native.Mathlib.Omega.{arith}
use lib.ListN.{drop}
use Rattle.runs.specs.declared.Run.{Run}
use Rattle.runs.specs.Owner.{over, owner, age_of}
use Rattle.runs.proofs.Over.{sides, over-before, over-after}
use Rattle.runs.proofs.Canon.{Canon, none, rest, canon-before}

-- runs that are canonical after some byte and age
pub record Rises (rs : List Run) : Type 0 where
  pub tip : ℕ
  pub age : ℕ
  pub canon : Canon tip age rs

pub rises : {p q : ℕ} (i : ℕ) (rs : List Run) → Canon p q rs → Rises (drop i rs)
rises {p} {q} zero rs c = record { tip = p; age = q; canon = c }
rises (suc i) [] c = record { tip = 0; age = 0; canon = none }
rises {p = p} {q = q} (suc i) (r ∷ rs) c = rises {p = suc r.last} {q = age_of r} i rs (rest c)

pub alone : {p q : ℕ} {r : Run} {rs : List Run} → Canon p q (r ∷ rs) → (b : ℕ) → (over r b ≡ 0) ⊎ (owner rs b ≡ 0)
alone {r = r} c b =
    sides r b (λ h. inl (over-before r b h)) (λ h k. inr (canon-before b (rest c) (omega arith))) (λ h. inl (over-after r b h))
