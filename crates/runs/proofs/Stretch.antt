-- What is drawn after a turn of the ages stands apart from what is drawn before it, and a stretch of one age is one run.
use Prim.Native.Nat.{ℕ, zero, suc, pred, ◌+◌, ◌≤◌, ◌<◌, min}
use native.Mathlib.Nat.{add-zero, zero-add, suc-add}
use mathlib.Core.Path.{◌≡◌, refl, sym, ◌∙◌, ap}
use mathlib.Core.Logic.{⊎_elim}
use mathlib.Core.Bool.{Bool, true, false, cond}
use mathlib.Core.List.{List, [], ◌∷◌, ◌++◌}
use native.Mathlib.Omega.{arith}
use lib.Dec.{eqb}
use borrow.Author.Tests.{eq-eqb, ne_eqb}
use Rattle.common.proofs.Order.{same}
use Rattle.runs.specs.declared.Run.{Run}
use Rattle.runs.specs.Owner.{run, owner}
use Rattle.runs.specs.Map.{joins, from, join, put, draw, map_of}
use Rattle.runs.proofs.Ages.{age-run}
use Rattle.runs.proofs.Canon.{Next, Canon, none, next, canon-head}
use Rattle.runs.proofs.Join.{by-join, join_apart}
use Rattle.runs.proofs.Draw.{by-put, draw-canon, draw-owner, map-canon, map-owner}
use Rattle.runs.proofs.Unique.{canon-unique}

-- one byte in front of runs, and of others that it does not touch
put-append : (b a : ℕ) (xs ys : List Run) → Canon (suc b) a ys → put b a (xs ++ ys) ≡ put b a xs ++ ys
unfolding put join
put-append b a xs ys c = go (eqb a 0) xs
  where
    pick : (j : Bool) (x : Run) (xs : List Run) → cond j (from b x ∷ xs ++ ys) (run b b a ∷ x ∷ xs ++ ys) ≡ cond j (from b x ∷ xs) (run b b a ∷ x ∷ xs) ++ ys
    pick true x xs = refl
    pick false x xs = refl

    go : (z : Bool) (xs : List Run) → cond z (xs ++ ys) (join (run b b a) (xs ++ ys)) ≡ cond z xs (join (run b b a) xs) ++ ys
    go true xs = refl
    go false [] = join_apart (run b b a) (rw (age-run b b a) c)
    go false (x ∷ xs) = pick (joins (run b b a) x) x xs

module _ (g : ℕ → ℕ) where
  -- what is drawn from e on does not go on at the age a
  turned : (b a e n : ℕ) → suc b ≤ e → (suc b ≡ e → a ≡ g e → ⊥) → Canon (suc b) a (draw g e n)
  unfolding draw
  turned b a e zero h t = none
  turned b a e (suc n) h t = go (draw-canon g e (suc n)) (draw-owner g e (suc n) e (omega arith) (λ k. absurd (omega arith)))
    where
      go : {l : List Run} → Canon e 0 l → owner l e ≡ g e → Canon (suc b) a l
      go none o = none
      go (next {r = r} {rs = rs} w c) o =
          let n : Next (suc b) a r =
          record {
            after = omega arith;
            rising = w.rising;
            some = w.some;
            exact = w.exact;
            other = λ u v. t (omega arith) (sym v ∙ sym (canon-head e (next w c) (omega arith) (omega arith)) ∙ o);
          } in
          next n c

  pub draw-append : (b m n e : ℕ) → e ≡ b + m → ((k : ℕ) → suc k ≡ e → g k ≡ g e → ⊥) → draw g b (m + n) ≡ draw g b m ++ draw g e n
  unfolding draw
  draw-append b zero n e q t = rw (zero-add, q ∙ add-zero b)
  draw-append b (suc m) n e q t =
      rw suc-add
      (ap (put b (g b)) (draw-append (suc b) m n e (omega arith) t)
      ∙ put-append b (g b) (draw g (suc b) m) (draw g e n) (turned b (g b) e n (omega arith) (λ u v. t b u v)))

  draw-none : (b n : ℕ) → ((x : ℕ) → b ≤ x → x < b + n → g x ≡ 0) → draw g b n ≡ []
  unfolding draw
  draw-none b zero f = refl
  draw-none b (suc n) f =
      by-put (λ (l : List Run). l ≡ []) b (g b) (draw g (suc b) n)
      (λ _. draw-none (suc b) n (λ x h k. f x (omega arith) (omega arith)))
      (λ z. absurd (z (f b (omega arith) (omega arith))))

  -- a byte of the age a is put in front
  first : (a b : ℕ) (rs : List Run) {l : List Run} → 0 < a → g b ≡ a → join (run b b a) rs ≡ l → put b (g b) rs ≡ l
  first a b rs {l} p e q = by-put (λ (m : List Run). m ≡ l) b (g b) rs (λ z. absurd (let y : ⊥ = omega arith in y)) (λ _. rw e q)

  draw-one : (a b n : ℕ) → 0 < a → ((x : ℕ) → b ≤ x → x ≤ b + n → g x ≡ a) → draw g b (suc n) ≡ run b (b + n) a ∷ []
  unfolding draw join
  draw-one a b zero p f = first a b [] p (f b (omega arith) (omega arith)) (rw add-zero)
  draw-one a b (suc n) p f =
      let e : suc b + n ≡ b + suc n = omega arith in
      first a b (draw g (suc b) (suc n)) p (f b (omega arith) (omega arith))
      (rw (draw-one a (suc b) n p (λ x h k. f x (omega arith) (omega arith)))
      (by-join (λ (l : List Run). l ≡ run b (b + suc n) a ∷ []) (run b b a) (run (suc b) (suc b + n) a) []
      (λ _ _. ap (λ (k : ℕ). run b k a ∷ []) e)
      (λ d. absurd (d (omega arith) refl))))

  -- a stretch of the age a, from b up to before e
  pub draw-flat : (a b e n : ℕ) → b + n ≡ e → min a 1 ≤ n → ((x : ℕ) → b ≤ x → x < e → g x ≡ a) → draw g b n ≡ cond (eqb a 0) [] (run b (pred e) a ∷ [])
  draw-flat a b e n q h f =
      ⊎_elim
      (λ (z : a ≡ 0). rw (eq-eqb a 0 z) (draw-none b n (λ x u v. f x u (omega arith) ∙ z)))
      (λ (z : a ≡ 0 → ⊥).
      let i : suc (pred n) ≡ n = omega arith in
      let l : b + pred n ≡ pred e = omega arith in
      rw (ne_eqb a 0 z) (ap (draw g b) (sym i) ∙ draw-one a b (pred n) (omega arith) (λ x u v. f x u (omega arith)) ∙ ap (λ (k : ℕ). run b k a ∷ []) l))
      (same a 0)

-- the map of entries is what is drawn of them up to a byte from which on no entry is over a byte
pub map-drawn : (es : List Run) (x : ℕ) → ((b : ℕ) → x ≤ b → owner es b ≡ 0) → map_of es ≡ draw (owner es) 0 x
map-drawn es x z =
    canon-unique (map_of es) (draw (owner es) 0 x) (map-canon es) (draw-canon (owner es) 0 x)
    (λ b. map-owner es b ∙ sym (draw-owner (owner es) 0 x b (omega arith) (λ k. z b (omega arith))))
