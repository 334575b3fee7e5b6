-- A call is accepted exactly where it breaks no rule.
use Prim.Native.Nat.{ℕ, suc}
use mathlib.Core.Path.{◌≡◌, refl, ◌∙◌}
use mathlib.Core.Logic.{◌⊎◌, inl, inr, ⊎_elim}
use mathlib.Core.Bool.{Bool, true, false, not, ◌&&◌, ◌||◌, cond}
use mathlib.Core.List.{List, [], ◌∷◌, ◌++◌, map}
use native.Mathlib.Omega.{arith}
use lib.Dec.{T, ltb, eqb, eqb_refl, ltb→lt, eqb→eq}
use Rattle.common.specs.Tests.{all, any}
use Rattle.common.specs.Refusals.{Rule, rule, first_hit}
use Rattle.common.proofs.Bools.{and_l, and_r, or-e, or_l, or_r, cond-true, cond-false}
use Rattle.common.proofs.Order.{eq→eqb}

-- each rule has a number, and no refusal is 0
abbrev pub counted : List Rule → Bool
counted = all (λ r. ltb 0 r.answer)

abbrev pub kept : List Rule → Bool
kept = all (λ r. not r.broken)

pub unbroken : (rs : List Rule) → T (counted rs) → T (eqb (first_hit rs) 0) → T (kept rs)
unbroken [] s t = tt
unbroken (r ∷ rs) s t =
    go r.broken (and_l (ltb 0 r.answer) (counted rs) s) t (λ u. unbroken rs (and_r (ltb 0 r.answer) (counted rs) s) u)
  where
    go : (b : Bool) → T (ltb 0 r.answer) → T (eqb (cond b r.answer (first_hit rs)) 0) → (T (eqb (first_hit rs) 0) → T (kept rs)) → T (not b && kept rs)
    go true p e k = let h = ltb→lt 0 r.answer p in let q = eqb→eq r.answer 0 e in absurd (omega arith)
    go false p e k = k e

pub accepted : (rs : List Rule) → T (kept rs) → first_hit rs ≡ 0
accepted [] t = refl
accepted (r ∷ rs) t = go r.broken (and_l (not r.broken) (kept rs) t) (accepted rs (and_r (not r.broken) (kept rs) t))
  where
    go : (b : Bool) → T (not b) → first_hit rs ≡ 0 → cond b r.answer (first_hit rs) ≡ 0
    go true n e = absurd n
    go false n e = e

-- one rule at a time
pub hit : (n : ℕ) (b : Bool) (rs : List Rule) → first_hit (rule (suc n) b ∷ rs) ≡ 0 → (b ≡ false) × (first_hit rs ≡ 0)
hit n true rs e = absurd (let z : ⊥ = omega arith in z)
hit n false rs e = (refl, e)

-- An answer is 0 or stands in the list
in_list : (rs : List Rule) → (first_hit rs ≡ 0) ⊎ T (any (λ r. eqb (first_hit rs) r.answer) rs)
in_list [] = inl refl
in_list (r ∷ rs) = go r.broken (in_list rs)
  where
    go : (b : Bool) → (first_hit rs ≡ 0) ⊎ T (any (λ q. eqb (first_hit rs) q.answer) rs)
        → (cond b r.answer (first_hit rs) ≡ 0) ⊎ T (eqb (cond b r.answer (first_hit rs)) r.answer || any (λ q. eqb (cond b r.answer (first_hit rs)) q.answer) rs)
    go true h = inr (or_l (eqb r.answer r.answer) _ (eqb_refl r.answer))
    go false (inl e) = inl e
    go false (inr t) = inr (or_r (eqb (first_hit rs) r.answer) (any (λ q. eqb (first_hit rs) q.answer) rs) t)

pub listed : (rs : List Rule) → T (any (eqb (first_hit rs)) (0 ∷ map (λ r. r.answer) rs))
listed rs = go (in_list rs)
  where
    among : (n : ℕ) (qs : List Rule) → T (any (λ q. eqb n q.answer) qs) → T (any (eqb n) (map (λ r. r.answer) qs))
    among n [] t = t
    among n (q ∷ qs) t = ⊎_elim (λ (u : T (eqb n q.answer)). or_l (eqb n q.answer) (any (eqb n) (map (λ r. r.answer) qs)) u) (λ (u : T (any (λ q. eqb n q.answer) qs)). or_r (eqb n q.answer) (any (eqb n) (map (λ r. r.answer) qs)) (among n qs u)) (or-e (eqb n q.answer) (any (λ q. eqb n q.answer) qs) t)

    go : (first_hit rs ≡ 0) ⊎ T (any (λ r. eqb (first_hit rs) r.answer) rs) → T (any (eqb (first_hit rs)) (0 ∷ map (λ r. r.answer) rs))
    go (inl e) = or_l (eqb (first_hit rs) 0) (any (eqb (first_hit rs)) (map (λ r. r.answer) rs)) (eq→eqb (first_hit rs) 0 e)
    go (inr t) = or_r (eqb (first_hit rs) 0) (any (eqb (first_hit rs)) (map (λ r. r.answer) rs)) (among (first_hit rs) rs t)

-- The first hit answers: the rules before it are kept
pub first-answers : (ks : List Rule) (r : Rule) (bs : List Rule) → T (kept ks) → T r.broken → first_hit (ks ++ (r ∷ bs)) ≡ r.answer
first-answers [] r bs k b = cond-true r.broken r.answer (first_hit bs) b
first-answers (a ∷ ks) r bs k b =
    cond-false a.broken a.answer (first_hit (ks ++ (r ∷ bs))) (and_l (not a.broken) (kept ks) k)
    ∙ first-answers ks r bs (and_r (not a.broken) (kept ks) k) b
