-- What is drawn byte by byte is canonical and gives each byte its age; and so does the map of any entries.
use Prim.Native.Nat.{ℕ, zero, suc, ◌+◌, ◌≤◌, max}
use mathlib.Core.Path.{◌≡◌, sym, ◌∙◌, ap}
use mathlib.Core.Logic.{⊎_elim}
use mathlib.Core.List.{List, ◌∷◌}
use native.Mathlib.Omega.{arith}
use borrow.Author.Tests.{eq-eqb, ne_eqb}
use Rattle.common.proofs.Order.{below, same}
use Rattle.runs.specs.declared.Run.{Run}
use Rattle.runs.specs.Owner.{run, over, owner}
use Rattle.runs.specs.Map.{join, put, draw, end, map_of, raise}
use Rattle.runs.proofs.Ages.{age-run, exact-age}
use Rattle.runs.proofs.Over.{over-in, over-after, over-is, owner-end}
use Rattle.runs.proofs.Canon.{Canon, none, canon-from, canon-before}
use Rattle.runs.proofs.Join.{join-canon, join-owner}

pub by-put : (P : List Run → Type 0) (b a : ℕ) (rs : List Run) → (a ≡ 0 → P rs) → ((a ≡ 0 → ⊥) → P (join (run b b a) rs)) → P (put b a rs)
unfolding put
by-put P b a rs f g = ⊎_elim (λ (z : a ≡ 0). rw (eq-eqb a 0 z) (f z)) (λ (z : a ≡ 0 → ⊥). rw (ne_eqb a 0 z) (g z)) (same a 0)

module _ (b a : ℕ) (rs : List Run) (c : Canon (suc b) 0 rs) where
  put-canon : Canon b 0 (put b a rs)
  put-canon = by-put (Canon b 0) b a rs (λ z. canon-from b c (omega arith)) (λ z. join-canon (run b b a) (omega arith) (omega (arith, age-run b b a)) (exact-age a) c)

  put-owner : (x : ℕ) → owner (put b a rs) x ≡ max (over (run b b a) x) (owner rs x)
  put-owner x =
      by-put (λ (l : List Run). owner l x ≡ max (over (run b b a) x) (owner rs x)) b a rs
      (λ z. omega (arith, over-is (λ (o : ℕ). o ≡ 0) (run b b a) x (age-run b b a ∙ z) (omega arith)))
      (λ z. join-owner (run b b a) (omega arith) (omega (arith, age-run b b a)) (exact-age a) x c)

module _ (g : ℕ → ℕ) where
  pub draw-canon : (b n : ℕ) → Canon b 0 (draw g b n)
  unfolding draw
  draw-canon b zero = none
  draw-canon b (suc n) = put-canon b (g b) (draw g (suc b) n) (draw-canon (suc b) n)

  pub draw-owner : (b n x : ℕ) → b ≤ x → (b + n ≤ x → g x ≡ 0) → owner (draw g b n) x ≡ g x
  unfolding draw owner
  draw-owner b zero x h z = sym (z (omega arith))
  draw-owner b (suc n) x h z =
      let c = draw-canon (suc b) n in
      put-owner b (g b) (draw g (suc b) n) c x
      ∙ ⊎_elim
      (λ (u : suc b ≤ x). omega (arith, over-after (run b b (g b)) x u, draw-owner (suc b) n x u (λ v. z (omega arith))))
      (λ (u : x ≤ b).
      let e : b ≡ x = omega arith in
      omega (arith, over-in (run b b (g b)) x h u, age-run b b (g b), canon-before x c (omega arith), ap g e))
      (below b x)

pub map-canon : (es : List Run) → Canon 0 0 (map_of es)
unfolding map_of
map-canon es = draw-canon (owner es) 0 (end es)

pub map-owner : (es : List Run) (b : ℕ) → owner (map_of es) b ≡ owner es b
unfolding map_of
map-owner es b = draw-owner (owner es) 0 (end es) b (omega arith) (λ h. owner-end es b (omega arith))

pub raise-owner : (r : Run) (rs : List Run) (b : ℕ) → owner (raise r rs) b ≡ max (over r b) (owner rs b)
unfolding owner
raise-owner r rs b = map-owner (r ∷ rs) b
