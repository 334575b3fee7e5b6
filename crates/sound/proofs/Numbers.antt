-- `is_numbered`: a number is under one of two rules, and past the sixteenth stripe there is no last number.
use Prim.Native.Nat.{ℕ, zero, suc, ◌<◌}
use mathlib.Core.Bool.{Bool, true, false, not, ◌&&◌, ◌||◌, cond, and-false}
use mathlib.Core.List.{List}
use mathlib.Core.Path.{◌≡◌, refl, sym, ap, ◌∙◌}
use native.Mathlib.Omega.{arith}
use lib.Dec.{leb, eqb, leb-suc-zero}
use lib.ListN.{length, get_or, get_or-eq_default}
use Rattle.common.specs.Ranges.{within}
use Rattle.table.specs.declared.Lock.{Lock}
use Rattle.table.specs.Table.{number_of, stripe_count}
use Rattle.table.specs.Sound.{numbered}

module _ (ls : List ℕ) (l : Lock) where
  abbrev counts : Bool
  counts = within 1 (number_of l) (get_or ls l.stripe 0)

  either : (b : Bool) → (eqb l.state 0 || eqb l.mode 1) ≡ b → numbered ls l ≡ cond b (eqb (number_of l) 0) counts
  either b e = go (eqb l.state 0) (eqb l.mode 1) ∙ ap (λ (x : Bool). cond x (eqb (number_of l) 0) counts) e
    where
      go : (s m : Bool) → cond (not s && not m) counts (eqb (number_of l) 0) ≡ cond (s || m) (eqb (number_of l) 0) counts
      go true m = refl
      go false true = refl
      go false false = refl

  pub is-nowhere : (eqb l.state 0 || eqb l.mode 1) ≡ false → length ls ≡ stripe_count → 15 < l.stripe → false ≡ numbered ls l
  is-nowhere e n h = sym (either false e ∙ ap (within 1 (number_of l)) (get_or-eq_default ls 0 (omega arith)) ∙ none (number_of l))
    where
      none : (x : ℕ) → within 1 x 0 ≡ false
      none zero = refl
      none (suc x) = ap (λ (b : Bool). leb 1 (suc x) && b) (leb-suc-zero x) ∙ and-false (leb 1 (suc x))
