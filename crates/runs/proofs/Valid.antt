-- Under valid entries an age is 0 or sane, and 0 past EOF; and so the runs of their map are valid.
use Prim.Native.Nat.{ℕ, zero, suc, ◌+◌, ◌≤◌, ◌<◌, max}
use mathlib.Core.Path.{◌≡◌, refl, ◌∙◌, ap}
use mathlib.Core.Logic.{◌⊎◌, inl, inr, ⊎_elim}
use mathlib.Core.Bool.{true}
use mathlib.Core.List.{List, [], ◌∷◌, ◌++◌}
use native.Mathlib.Omega.{arith}
use borrow.Author.Tests.{leb-true, le-leb}
use Rattle.common.specs.Ranges.{eof}
use Rattle.common.proofs.Bools.{and_left, and_right, and_both}
use Rattle.common.proofs.Order.{below}
use Rattle.runs.specs.declared.Run.{Run}
use Rattle.runs.specs.Ages.{age, Exact}
use Rattle.runs.specs.Owner.{age_of, run, over, owner}
use Rattle.runs.specs.Map.{from, join, draw, end, map_of}
use Rattle.runs.specs.Sound.{sane, valid, all_valid}
use Rattle.runs.specs.Valid.{Valid}
use Rattle.runs.proofs.Ages.{sane-exact}
use Rattle.runs.proofs.Over.{over-is, owner-end}
use Rattle.runs.proofs.Join.{by-join}
use Rattle.runs.proofs.Draw.{by-put}

pub valid-is : (r : Run) → valid r ≡ true → Valid r
valid-is r e = search (and_left, and_right, leb-true)

pub is-valid : (r : Run) → Valid r → valid r ≡ true
is-valid r v = search (and_both, le-leb)

pub valid-head : (r : Run) (rs : List Run) → all_valid (r ∷ rs) ≡ true → Valid r
valid-head r rs e = valid-is r (and_left (valid r) (all_valid rs) e)

pub valid-rest : (r : Run) (rs : List Run) → all_valid (r ∷ rs) ≡ true → all_valid rs ≡ true
valid-rest r rs e = and_right (valid r) (all_valid rs) e

pub valid-cons : (r : Run) (rs : List Run) → Valid r → all_valid rs ≡ true → all_valid (r ∷ rs) ≡ true
valid-cons r rs v e = and_both (valid r) (all_valid rs) (is-valid r v) e

pub valid-snoc : (es : List Run) (r : Run) → all_valid es ≡ true → Valid r → all_valid (es ++ r ∷ []) ≡ true
valid-snoc [] r e v = valid-cons r [] v refl
valid-snoc (t ∷ es) r e v = valid-cons t (es ++ r ∷ []) (valid-head t es e) (valid-snoc es r (valid-rest t es e) v)

-- the ages of valid entries
abbrev Sane : ℕ → Type 0
Sane a = (a ≡ 0) ⊎ (sane (age a) ≡ true)

greater : (a b : ℕ) → Sane a → Sane b → Sane (max a b)
greater a b x y =
    ⊎_elim
    (λ (u : a < b). let e : max a b ≡ b = omega arith in rw e y)
    (λ (u : b ≤ a). let e : max a b ≡ a = omega arith in rw e x)
    (below a b)

entry-sane : (r : Run) → sane r.age ≡ true → Sane (age_of r)
unfolding Exact
entry-sane r e = inr (ap sane (sane-exact r.age e) ∙ e)

owner-sane : (es : List Run) (b : ℕ) → all_valid es ≡ true → Sane (owner es b)
unfolding owner
owner-sane [] b e = inl refl
owner-sane (r ∷ es) b e = greater (over r b) (owner es b) (over-is Sane r b (entry-sane r (valid-head r es e).some) (inl refl)) (owner-sane es b (valid-rest r es e))

end-valid : (es : List Run) → all_valid es ≡ true → end es ≤ suc eof
unfolding end
end-valid [] e = omega arith
end-valid (r ∷ es) e = omega (arith, valid-head r es e, end-valid es (valid-rest r es e))

pub beyond : (es : List Run) (b : ℕ) → all_valid es ≡ true → eof < b → owner es b ≡ 0
beyond es b e h = owner-end es b (omega (arith, end-valid es e))

-- the runs that are drawn of such ages
join-valid : (r : Run) (ts : List Run) → Valid r → all_valid ts ≡ true → all_valid (join r ts) ≡ true
unfolding join
join-valid r [] v e = valid-cons r [] v refl
join-valid r (t ∷ ts) v e =
    let w = valid-head t ts e in
    by-join (λ (l : List Run). all_valid l ≡ true) r t ts
    (λ u _. valid-cons (from r.first t) ts (record { rising = omega arith; short = w.short; some = w.some }) (valid-rest t ts e))
    (λ _. valid-cons r (t ∷ ts) v e)

draw-valid : (g : ℕ → ℕ) (b n : ℕ) → ((x : ℕ) → Sane (g x)) → b + n ≤ suc eof → all_valid (draw g b n) ≡ true
unfolding draw
draw-valid g b zero s h = refl
draw-valid g b (suc n) s h =
    let ds : List Run = draw g (suc b) n in
    let ih : all_valid ds ≡ true = draw-valid g (suc b) n s (omega arith) in
    by-put (λ (l : List Run). all_valid l ≡ true) b (g b) ds (λ _. ih)
    (λ z. join-valid (run b b (g b)) ds (record { rising = omega arith; short = omega arith; some = ⊎_elim (λ e. absurd (z e)) (λ e. e) (s b) }) ih)

pub map-valid : (es : List Run) → all_valid es ≡ true → all_valid (map_of es) ≡ true
unfolding map_of
map-valid es e = draw-valid (owner es) 0 (end es) (λ b. owner-sane es b e) (omega (arith, end-valid es e))
