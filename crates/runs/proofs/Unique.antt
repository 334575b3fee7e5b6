-- Canonical runs are what is drawn from what they say; so two lists that say the same are one.
use Prim.Native.Nat.{ℕ, zero, suc, ◌+◌, ◌≤◌, ◌<◌, max}
use mathlib.Core.Path.{◌≡◌, refl, sym, ◌∙◌, ap}
use mathlib.Core.Logic.{⊎_elim}
use mathlib.Core.List.{List, [], ◌∷◌, ◌++◌}
use native.Mathlib.Omega.{arith}
use Rattle.common.proofs.Order.{below}
use Rattle.runs.specs.declared.Run.{Run}
use Rattle.runs.specs.Owner.{age_of, run, owner}
use Rattle.runs.specs.Map.{from, join, draw, end, map_of, raise}
use Rattle.runs.proofs.Ages.{age-run, exact-age, same-run}
use Rattle.runs.proofs.Over.{over-from, owner-after, owner-snoc}
use Rattle.runs.proofs.Canon.{Canon, none, next, head, rest, opens, canon-start, canon-from, canon-before, canon-head}
use Rattle.runs.proofs.Join.{by-join, join_apart}
use Rattle.runs.proofs.Draw.{by-put, map-canon, map-owner}

-- the runs rs say the ages g from b on, and end within n bytes
record Says (g : ℕ → ℕ) (b n : ℕ) (rs : List Run) : Type 0 where
  canon : Canon b 0 rs
  ends : end rs ≤ b + n
  says : (x : ℕ) → b ≤ x → owner rs x ≡ g x

-- one byte in front of what is drawn: it is in no run, amid a run, or the last of a run
module _ (g : ℕ → ℕ) (b n : ℕ) (ih : (rs : List Run) → Says g (suc b) n rs → draw g (suc b) n ≡ rs) where
  gap : (rs : List Run) → Canon (suc b) 0 rs → Says g b (suc n) rs → draw g b (suc n) ≡ rs
  unfolding draw
  gap rs c s =
      by-put (λ (l : List Run). l ≡ rs) b (g b) (draw g (suc b) n)
      (λ _. ih rs (record { canon = c; ends = omega (arith, s.ends); says = λ x h. s.says x (omega arith) }))
      (λ z. absurd (z (sym (s.says b (omega arith)) ∙ canon-before b c (omega arith))))

  module _ (r : Run) (rs : List Run) (s : Says g b (suc n) (r ∷ rs)) (at : r.first ≡ b) where
    age : age_of (run b b (g b)) ≡ age_of r
    age = let w = head s.canon in age-run b b (g b) ∙ sym (s.says b (omega arith)) ∙ canon-head b s.canon (omega arith) (omega arith)

    inside : (ts : List Run) → Says g (suc b) n ts → join (run b b (g b)) ts ≡ r ∷ rs → draw g b (suc n) ≡ r ∷ rs
    unfolding draw
    inside ts t e =
        by-put (λ (l : List Run). l ≡ r ∷ rs) b (g b) (draw g (suc b) n)
        (λ z. absurd (omega (arith, age, age-run b b (g b), head s.canon)))
        (λ _. ap (join (run b b (g b))) (ih ts t) ∙ e)

    amid : b < r.last → draw g b (suc n) ≡ r ∷ rs
    unfolding owner end
    amid h =
        let w = head s.canon in
        inside (from (suc b) r ∷ rs)
        (record {
          canon = next (opens (suc b) (from (suc b) r) (omega arith) h w.some w.exact) (rest s.canon);
          ends = omega (arith, s.ends);
          says = λ x k. omega (arith, over-from r (suc b) x k (omega arith), s.says x (omega arith));
        })
        (by-join (λ (l : List Run). l ≡ r ∷ rs) (run b b (g b)) (from (suc b) r) rs (λ _ _. ap (λ (k : ℕ). from k r ∷ rs) (sym at)) (λ d. absurd (d (omega arith) age)))

    last : r.last ≤ b → draw g b (suc n) ≡ r ∷ rs
    unfolding end
    last h =
        let w = head s.canon in
        let e : r.last ≡ b = omega arith in
        inside rs
        (record {
          canon = canon-from (suc b) (rest s.canon) (omega arith);
          ends = omega (arith, s.ends);
          says = λ x k. sym (owner-after r rs x (omega arith)) ∙ s.says x (omega arith);
        })
        (rw (← same-run r (run b b (g b)) w.exact (exact-age (g b)) at e (sym age)) (join_apart r (rest s.canon)))

drawn : (g : ℕ → ℕ) (b n : ℕ) (rs : List Run) → Says g b n rs → draw g b n ≡ rs
unfolding draw end
drawn g b zero [] s = refl
drawn g b zero (r ∷ rs) s = absurd (omega (arith, head s.canon, s.ends))
drawn g b (suc n) [] s = gap g b n (drawn g (suc b) n) [] none s
drawn g b (suc n) (r ∷ rs) s =
    let w = head s.canon in
    let ih = drawn g (suc b) n in
    ⊎_elim
    (λ (h : b < r.first). gap g b n ih (r ∷ rs) (canon-start (suc b) r s.canon h) s)
    (λ (h : r.first ≤ b). ⊎_elim (amid g b n ih r rs s (omega arith)) (last g b n ih r rs s (omega arith)) (below b r.last))
    (below b r.first)

pub canon-drawn : {p q : ℕ} (g : ℕ → ℕ) (n : ℕ) (rs : List Run) → Canon p q rs → end rs ≤ n → ((b : ℕ) → owner rs b ≡ g b) → draw g 0 n ≡ rs
canon-drawn g n rs c h e = drawn g 0 n rs (record { canon = canon-from 0 c (omega arith); ends = omega arith; says = λ x _. e x })

pub canon-unique : {p q p' q' : ℕ} (rs ts : List Run) → Canon p q rs → Canon p' q' ts → ((b : ℕ) → owner rs b ≡ owner ts b) → rs ≡ ts
canon-unique rs ts c d e =
    let n : ℕ = max (end rs) (end ts) in
    sym (canon-drawn (owner ts) n rs c (omega arith) e) ∙ canon-drawn (owner ts) n ts d (omega arith) (λ b. refl)

-- the map of canonical runs is those runs
pub map-map : {p q : ℕ} (rs : List Run) → Canon p q rs → map_of rs ≡ rs
map-map rs c = canon-unique (map_of rs) rs (map-canon rs) c (map-owner rs)

-- entries that say the same have one map, in whatever order they stand
pub map_same : (es ds : List Run) → ((b : ℕ) → owner es b ≡ owner ds b) → map_of es ≡ map_of ds
map_same es ds e = canon-unique (map_of es) (map_of ds) (map-canon es) (map-canon ds) (λ b. map-owner es b ∙ e b ∙ sym (map-owner ds b))

-- the map of the log with one more entry is the log's map raised
pub map_snoc : (es : List Run) (r : Run) → map_of (es ++ r ∷ []) ≡ raise r (map_of es)
unfolding owner
map_snoc es r = map_same (es ++ r ∷ []) (r ∷ map_of es) (λ b. omega (arith, owner-snoc es r b, map-owner es b))
