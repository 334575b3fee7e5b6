-- A refusal by the first rules is the refusal.
use mathlib.Core.Path.{◌≡◌, refl}
use mathlib.Core.Bool.{Bool, true, false, cond}
use mathlib.Core.List.{List, [], ◌∷◌, ◌++◌}
use Rattle.common.specs.Refusals.{Rule, first_hit}

pub first-stays : (xs ys : List Rule) → (first_hit xs ≡ 0 → ⊥) → first_hit xs ≡ first_hit (xs ++ ys)
first-stays [] ys h = absurd (h refl)
first-stays (r ∷ xs) ys h = go r.broken h (first-stays xs ys)
  where
    go : (b : Bool) → (cond b r.answer (first_hit xs) ≡ 0 → ⊥) → ((first_hit xs ≡ 0 → ⊥) → first_hit xs ≡ first_hit (xs ++ ys))
        → cond b r.answer (first_hit xs) ≡ cond b r.answer (first_hit (xs ++ ys))
    go true h f = refl
    go false h f = f h
