-- What is drawn up to a byte has no more runs than the whole: they start as the whole's first runs do.
use Prim.Native.Nat.{ℕ, zero, suc, ◌+◌, ◌≤◌, ◌<◌, max}
use mathlib.Core.Path.{◌≡◌, refl, sym, subst}
use mathlib.Core.Logic.{⊎_elim}
use mathlib.Core.Bool.{Bool, true, false, cond, ◌&&◌}
use mathlib.Core.List.{List, [], ◌∷◌}
use native.Mathlib.Omega.{arith}
use lib.Dec.{eqb}
use lib.ListN.{length}
use Rattle.common.proofs.Order.{below}
use Rattle.runs.specs.declared.Run.{Run}
use Rattle.runs.specs.Owner.{age_of, run, owner}
use Rattle.runs.specs.Map.{joins, from, join, put, draw, end}
use Rattle.runs.proofs.Canon.{Canon}
use Rattle.runs.proofs.Join.{by-join}
use Rattle.runs.proofs.Draw.{by-put}
use Rattle.runs.proofs.Unique.{canon-drawn}

data Part : List Run → List Run → Type 0 where
  none : {ts : List Run} → Part [] ts
  more : {r t : Run} {rs ts : List Run} → r.first ≡ t.first → age_of r ≡ age_of t → Part rs ts → Part (r ∷ rs) (t ∷ ts)

part_length : {rs ts : List Run} → Part rs ts → length rs ≤ length ts
part_length none = omega arith
part_length (more _ _ p) = omega (arith, part_length p)

part_join : (r : Run) (rs ts : List Run) → Part rs ts → Part (join r rs) (join r ts)
unfolding join
part_join r [] [] none = more refl refl none
part_join r [] (t ∷ ts) none = by-join (Part (r ∷ [])) r t ts (λ _ v. more refl v none) (λ _. more refl refl none)
part_join r rs ts (more {r = s} {t = t} {rs = rs'} {ts = ts'} u v p) = rw alike (go (joins r t))
  where
    alike : joins r s ≡ joins r t
    alike = λ i. eqb (r.last + 1) (u i) && eqb (age_of r) (v i)

    go : (b : Bool) → Part (cond b (from r.first s ∷ rs') (r ∷ s ∷ rs')) (cond b (from r.first t ∷ ts') (r ∷ t ∷ ts'))
    go true = more refl v p
    go false = more refl refl (more u v p)

part-put : (b a : ℕ) (rs ts : List Run) → Part rs ts → Part (put b a rs) (put b a ts)
unfolding put
part-put b a rs ts p = go (eqb a 0)
  where
    go : (z : Bool) → Part (cond z rs (join (run b b a) rs)) (cond z ts (join (run b b a) ts))
    go true = p
    go false = part_join (run b b a) rs ts p

module _ (g h : ℕ → ℕ) (x : ℕ) (same : (b : ℕ) → b < x → g b ≡ h b) (ends : (b : ℕ) → x ≤ b → g b ≡ 0) where
  nothing : (b n : ℕ) → x ≤ b → draw g b n ≡ []
  unfolding draw
  nothing b zero k = refl
  nothing b (suc n) k = by-put (λ (l : List Run). l ≡ []) b (g b) (draw g (suc b) n) (λ _. nothing (suc b) n (omega arith)) (λ z. absurd (z (ends b k)))

  part-draw : (b n : ℕ) → Part (draw g b n) (draw h b n)
  unfolding draw
  part-draw b zero = none
  part-draw b (suc n) =
      ⊎_elim
      (λ (k : b < x). rw (same b k) (part-put b (h b) (draw g (suc b) n) (draw h (suc b) n) (part-draw (suc b) n)))
      (λ (k : x ≤ b). subst (λ (l : List Run). Part l (draw h b (suc n))) (sym (nothing b (suc n) k)) none)
      (below b x)

pub fewer : {p q p' q' : ℕ} (x : ℕ) (rs ts : List Run) → Canon p q rs → Canon p' q' ts → ((b : ℕ) → b < x → owner rs b ≡ owner ts b) → ((b : ℕ) → x ≤ b → owner rs b ≡ 0)
    → length rs ≤ length ts
fewer x rs ts c d e z =
    let n : ℕ = max (end rs) (end ts) in
    let u = canon-drawn (owner rs) n rs c (omega arith) (λ b. refl) in
    let v = canon-drawn (owner ts) n ts d (omega arith) (λ b. refl) in
    rw (u, v) at (part_length (part-draw (owner rs) (owner ts) x e z 0 n))
