-- Widening is the greatest: with the last byte `widest w top others` w conflicts with none of the others, and with any later one up to `top` it does.
-- Assumes nothing.
use Prim.Native.Nat.{ℕ, ◌≤◌, ◌<◌, ◌-◌, min}
use native.Mathlib.Omega.{arith}
use native.Mathlib.Nat.{le_refl}
use mathlib.Core.Bool.{Bool, true, false, not, cond}
use mathlib.Core.List.{List, [], ◌∷◌}
use mathlib.Core.Logic.{◌⊎◌, inl, inr, ⊎_elim}
use lib.Dec.{T, T_not, not_T, leb, ltb, leb→le, le→leb, nleb→lt, ltb→lt, nltb→le}
use Rattle.common.specs.Tests.{all, any}
use Rattle.table.specs.declared.Lock.{Lock}
use Rattle.locks.specs.Conflicts.{against, conflicts}
use Rattle.locks.specs.Settle.{ahead, widest}
use Rattle.common.proofs.Listed.{all_head, all_tail}
use Rattle.common.proofs.Bools.{and_l, and_r, and_i, or_l, or_r, by_cond, either}

-- the parts of `against`, and how they are put together
module _ (w r : Lock) (l : ℕ) where
  against-ahead : T (against w l r) → T (ahead w r)
  against-ahead t = search (and_l, and_r, and_i) depth 7

  against-reaches : T (against w l r) → r.first ≤ l
  against-reaches t = leb→le r.first l (search (and_l, and_r))

  against-from : T (ahead w r) → r.first ≤ l → T (against w l r)
  against-from t h = search (and_l, and_r, and_i, le→leb)

pub apart : (w r : Lock) (l : ℕ) → T (not (conflicts w r)) → (T (ahead w r) → l ≤ r.first - 1) → T (not (against w l r))
apart w r l c f = not_T (against w l r) (λ t. go (against-ahead w r l t) (against-reaches w r l t))
  where
    go : T (ahead w r) → r.first ≤ l → ⊥
    go a h = T_not (conflicts w r) c (against-from w r w.last a (let g = f a in omega arith))

-- a bound that is cut down where a test holds
cut_at : (b : Bool) (l x m : ℕ) → l ≤ cond b (min x m) m → T b → l ≤ x
cut_at true l x m h t = omega arith
cut_at false l x m h t = absurd t

cut-rest : (b : Bool) (l x m : ℕ) → l ≤ cond b (min x m) m → l ≤ m
cut-rest true l x m h = omega arith
cut-rest false l x m h = h

cut-from : (b : Bool) (l x m : ℕ) → (T b → l ≤ x) → l ≤ m → l ≤ cond b (min x m) m
cut-from true l x m f h = let g = f tt in omega arith
cut-from false l x m f h = h

cut-over : (b : Bool) (l x m : ℕ) → cond b (min x m) m < l → (T b × (x < l)) ⊎ (m < l)
cut-over true l x m h = ⊎_elim (λ (t : T (ltb x l)). inl (tt, ltb→lt x l t)) (λ (t : T (not (ltb x l))). inr (let g = nltb→le x l t in omega arith)) (either (ltb x l))
cut-over false l x m h = inr h

module _ (w : Lock) (top : ℕ) where
  pub clear : (rs : List Lock) (l : ℕ) → l ≤ widest w top rs → T (all (λ r. not (conflicts w r)) rs) → T (all (λ r. not (against w l r)) rs)
  unfolding widest
  clear [] l h t = tt
  clear (r ∷ rs) l h t =
      and_i (not (against w l r)) (all (λ r. not (against w l r)) rs)
      (apart w r l (all_head (λ r. not (conflicts w r)) r rs t) (cut_at (ahead w r) l (r.first - 1) (widest w top rs) h))
      (clear rs l (cut-rest (ahead w r) l (r.first - 1) (widest w top rs) h) (all_tail (λ r. not (conflicts w r)) r rs t))

  pub taken : (rs : List Lock) (l : ℕ) → widest w top rs < l → l ≤ top → T (any (against w l) rs)
  unfolding widest
  taken [] l h k = omega arith
  taken (r ∷ rs) l h k =
      ⊎_elim
      (λ (g : T (ahead w r) × (r.first - 1 < l)). or_l (against w l r) (any (against w l) rs) (against-from w r l g.0 (omega arith)))
      (λ (g : widest w top rs < l). or_r (against w l r) (any (against w l) rs) (taken rs l g k))
      (cut-over (ahead w r) l (r.first - 1) (widest w top rs) h)

  pub at_most : (rs : List Lock) → widest w top rs ≤ top
  unfolding widest
  at_most [] = le_refl top
  at_most (r ∷ rs) =
      by_cond (λ (n : ℕ). n ≤ top) (ahead w r) (min (r.first - 1) (widest w top rs)) (widest w top rs)
      (λ t. let h = at_most rs in omega arith) (λ t. at_most rs)

  pub at_least : (rs : List Lock) → w.last ≤ top → T (all (λ r. not (conflicts w r)) rs) → w.last ≤ widest w top rs
  unfolding widest
  at_least [] h t = h
  at_least (r ∷ rs) h t =
      cut-from (ahead w r) w.last (r.first - 1) (widest w top rs)
      (λ a. before (either (leb r.first w.last)) a)
      (at_least rs h (all_tail (λ r. not (conflicts w r)) r rs t))
    where
      before : T (leb r.first w.last) ⊎ T (not (leb r.first w.last)) → T (ahead w r) → w.last ≤ r.first - 1
      before (inl u) a = absurd (T_not (conflicts w r) (all_head (λ r. not (conflicts w r)) r rs t) (against-from w r w.last a (leb→le r.first w.last u)))
      before (inr u) a = let h = nleb→lt r.first w.last u in omega arith
