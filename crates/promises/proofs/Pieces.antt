-- Over a byte under noted pieces one of them has the greatest age.
use Prim.Native.Nat.{ℕ, ◌≤◌, ◌<◌}
use native.Mathlib.Omega.{arith}
use mathlib.Core.Path.{◌≡◌, refl, sym, subst}
use mathlib.Core.Logic.{◌⊎◌, inl, inr, ⊎_elim}
use mathlib.Core.List.{List, [], ◌∷◌}
use Rattle.common.proofs.Order.{below}
use Rattle.promises.specs.Run.{Piece, age_of, Covers}
use Rattle.promises.specs.Among.{Among}
use Rattle.promises.proofs.Views.{covered}

-- p has the greatest age of the pieces over b
abbrev pub Latest : List Piece → ℕ → Piece → Type 0
Latest ps b p = Among p ps × Covers p b × ((q : Piece) → Among q ps → Covers q b → age_of q ≤ age_of p)

first-latest : (b : ℕ) (x : Piece) (ps : List Piece) → Covers x b → ((q : Piece) → Among q ps → Covers q b → age_of q ≤ age_of x) → Latest (x ∷ ps) b x
first-latest b x ps c h =
    (inl refl, c, (λ q m k. ⊎_elim (λ (e : q ≡ x). subst (λ (y : Piece). age_of q ≤ age_of y) e (omega arith)) (λ (n : Among q ps). h q n k) m))

still-latest : (b : ℕ) (x q : Piece) (ps : List Piece) → Latest ps b q → (Covers x b → age_of x ≤ age_of q) → Latest (x ∷ ps) b q
still-latest b x q ps G h =
    (inr G.0, G.1, (λ r m k. ⊎_elim (λ (e : r ≡ x). subst (λ (y : Piece). age_of y ≤ age_of q) (sym e) (h (subst (λ (y : Piece). Covers y b) e k))) (λ (n : Among r ps). G.2 r n k) m))

latest? : (ps : List Piece) (b : ℕ) → ((q : Piece) → Among q ps → Covers q b → ⊥) ⊎ ((q : Piece) × Latest ps b q)
latest? [] b = inl (λ q m c. m)
latest? (x ∷ ps) b =
    ⊎_elim
    (λ (none : (q : Piece) → Among q ps → Covers q b → ⊥). ⊎_elim
    (λ (c : Covers x b). inr (x, first-latest b x ps c (λ q m k. absurd (none q m k))))
    (λ (c : Covers x b → ⊥). inl (λ q m k. ⊎_elim (λ (e : q ≡ x). c (subst (λ (y : Piece). Covers y b) e k)) (λ (n : Among q ps). none q n k) m))
    (covered x b))
    (λ (g : (q : Piece) × Latest ps b q). ⊎_elim
    (λ (c : Covers x b). ⊎_elim
    (λ (l : age_of g.0 < age_of x). inr (x, first-latest b x ps c (λ q m k. omega (arith, g.1.2 q m k))))
    (λ (l : age_of x ≤ age_of g.0). inr (g.0, still-latest b x g.0 ps g.1 (λ _. l)))
    (below (age_of g.0) (age_of x)))
    (λ (c : Covers x b → ⊥). inr (g.0, still-latest b x g.0 ps g.1 (λ k. absurd (c k))))
    (covered x b))
    (latest? ps b)

pub latest : (ps : List Piece) (b : ℕ) (p : Piece) → Among p ps → Covers p b → (q : Piece) × Latest ps b q
latest ps b p m c = ⊎_elim (λ (none : (q : Piece) → Among q ps → Covers q b → ⊥). absurd (none p m c)) (λ (g : (q : Piece) × Latest ps b q). g) (latest? ps b)
