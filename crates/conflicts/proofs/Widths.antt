-- How far a request reaches: the last byte so far is cut by a record that conflicts up to it, and, cut by the records to come, it is the last byte
-- cut by all of them.
use Prim.Native.Nat.{ℕ, zero, suc, ◌+◌, ◌-◌, min}
use native.Mathlib.Omega.{arith}
use mathlib.Core.Bool.{Bool, true, false, cond}
use mathlib.Core.List.{List, [], ◌∷◌}
use mathlib.Core.Path.{◌≡◌, refl, sym, ap, ◌∙◌}
use lib.ListN.{drop}
use denote.Param.Members.{Mut}
use Rattle.std.specs.declared.ops.Range.{Range}
use Rattle.std.specs.Iterator.{FoldsItems}
use Rattle.std.specs.Fn.{Called}
use Rattle.std.specs.List.{fold, range_with_len}
use Rattle.std.proofs.iter.Yields.{nat_range_steps}
use Rattle.std.proofs.lemmas.Iterator.{YieldsList-from_range}
use Rattle.std.proofs.lemmas.Iterator.Consumers.{fold_from_yields_List}
use Rattle.common.specs.Counters.{width}
use Rattle.common.specs.Ranges.{eof}
use Rattle.table.specs.declared.Lock.{Lock}
use Rattle.table.specs.Bytes.{locks_of}
use Rattle.table.specs.Places.{lock_at, Shape}
use Rattle.table.proofs.Reading.{locks-from, locks-end}
use Rattle.locks.specs.Settle.{ahead, widest}
use Rattle.conflicts.specs.Parts.{cut_by}

cut-first : (w : Lock) (k m : ℕ) (rs : List Lock) → min k (widest w m rs) ≡ widest w (min k m) rs
unfolding widest
cut-first w k m [] = refl
cut-first w k m (r ∷ rs) = go (ahead w r) (cut-first w k m rs)
  where
    go : (b : Bool) → min k (widest w m rs) ≡ widest w (min k m) rs
        → min k (cond b (min (r.first - 1) (widest w m rs)) (widest w m rs)) ≡ cond b (min (r.first - 1) (widest w (min k m) rs)) (widest w (min k m) rs)
    go true e = omega arith
    go false e = e

wider : (w r : Lock) (m : ℕ) (rs : List Lock) → widest w m (r ∷ rs) ≡ widest w (cut_by w m r) rs
unfolding widest
wider w r m rs = go (ahead w r)
  where
    go : (b : Bool) → cond b (min (r.first - 1) (widest w m rs)) (widest w m rs) ≡ widest w (cond b (min (r.first - 1) m) m) rs
    go true = cut-first w (r.first - 1) m rs
    go false = refl

module _ (n : ℕ) (t : List ℕ) (S : Shape n t) (w : Lock) where
  cut-from : (d i m : ℕ) → i + d ≡ n → fold (λ k j. cut_by w k (lock_at t j)) m (range_with_len i d) ≡ widest w m (drop i (locks_of width t))
  unfolding widest
  cut-from zero i m e = sym (ap (widest w m) (locks-end t i (let c = S.count in omega arith)))
  cut-from (suc d) i m e =
      cut-from d (i + 1) (cut_by w m (lock_at t i)) (omega arith)
      ∙ sym (wider w (lock_at t i) m (drop (i + 1) (locks_of width t)))
      ∙ ap (widest w m) (sym (locks-from t i (let c = S.count in omega arith)))

  pub reached : {F : Type 0} {g : Mut F (ℕ × (ℕ × Unit {0})) ℕ} (s : Range ℕ) (f : F) (r : ℕ)
      → FoldsItems nat_range_steps g s f eof r → s ≡ record { start = 0; end = n }
      → ((m j k : ℕ) (q : F) → Called g f (m, (j, tt)) k q → (q ≡ f) × (k ≡ cut_by w m (lock_at t j))) → r ≡ widest w eof (locks_of width t)
  reached s f r d e k = fold_from_yields_List _ (λ m j. cut_by w m (lock_at t j)) eof r d (YieldsList-from_range 0 n n e (omega arith)) k ∙ cut-from n 0 eof (omega arith)
