-- The number that a grant takes is the stripe's last number plus one, and the last numbers say so.
use Prim.Native.Nat.{ℕ, ◌+◌, ◌<◌}
use native.Mathlib.Nat.{add-zero}
use mathlib.Core.Bool.{Bool, true, false, not, ◌&&◌, cond}
use mathlib.Core.List.{List}
use mathlib.Core.Path.{◌≡◌, refl, sym, ◌∙◌}
use lib.Dec.{T, T_not, eqb, eqb→eq}
use lib.ListN.{length, get_or, set, length-set}
use lib.Seq.{get_or-set_same, get_or-set_other}
use borrow.Author.Tests.{eq-eqb}
use Rattle.common.proofs.Bools.{by_cond, cond-true, true-is}
use Rattle.common.proofs.Order.{eq→eqb}
use Rattle.table.specs.declared.Lock.{Lock}
use Rattle.table.specs.Table.{writes}
use Rattle.locks.specs.Settle.{next_number, lasts_after}

module _ (lasts : List ℕ) (w : Lock) where
  pub next-is : T (writes w) → next_number lasts w ≡ get_or lasts w.stripe 0 + 1
  next-is t = cond-true (writes w) (get_or lasts w.stripe 0 + 1) 0 t

  pub lasts-length : length (lasts_after lasts w) ≡ length lasts
  lasts-length =
      by_cond (λ (l : List ℕ). length l ≡ length lasts) (writes w) (set lasts w.stripe (get_or lasts w.stripe 0 + 1)) lasts
      (λ t. length-set lasts w.stripe (get_or lasts w.stripe 0 + 1)) (λ t. refl)

  -- one more at w's stripe if w is a write, else as it was
  pub lasts-at : w.stripe < length lasts → (s : ℕ) → get_or (lasts_after lasts w) s 0 ≡ get_or lasts s 0 + cond (writes w && eqb w.stripe s) 1 0
  lasts-at h s = go (writes w) (eqb w.stripe s) (eqb→eq w.stripe s) (λ n e. T_not (eqb w.stripe s) n (eq→eqb w.stripe s e))
    where
      go : (b c : Bool) → (T c → w.stripe ≡ s) → (T (not c) → w.stripe ≡ s → ⊥)
          → get_or (cond b (set lasts w.stripe (get_or lasts w.stripe 0 + 1)) lasts) s 0 ≡ get_or lasts s 0 + cond (b && c) 1 0
      go true true f g = rw (← f tt) (get_or-set_same lasts w.stripe (get_or lasts w.stripe 0 + 1) 0 h)
      go true false f g = rw (get_or-set_other lasts w.stripe s (get_or lasts w.stripe 0 + 1) 0 (λ e. g tt (sym e))) (sym (add-zero (get_or lasts s 0)))
      go false c f g = sym (add-zero (get_or lasts s 0))

  pub lasts-own : w.stripe < length lasts → T (writes w) → get_or (lasts_after lasts w) w.stripe 0 ≡ get_or lasts w.stripe 0 + 1
  lasts-own h t = lasts-at h w.stripe ∙ rw (true-is (writes w) t, eq-eqb w.stripe w.stripe refl)
