-- `each_sound`: the counts speak of the records passed, and one record more raises the count of its own stripe alone.
use Prim.Native.Nat.{ℕ, ◌+◌, ◌≤◌, ◌<◌}
use mathlib.Core.Bool.{Bool, true, false, ◌&&◌, cond}
use mathlib.Core.List.{List, [], ◌∷◌}
use mathlib.Core.Path.{◌≡◌, refl, sym, subst, ◌∙◌}
use native.Mathlib.Nat.{add-zero}
use native.Mathlib.Omega.{arith}
use lib.Dec.{T, eqb, eqb→eq}
use lib.ListN.{length, get_or, set, drop, length-set}
use lib.Seq.{get_or-set_same, get_or-set_other}
use borrow.Author.Tests.{eq-eqb}
use Rattle.std.specs.Int.{from_bool}
use Rattle.common.specs.Tests.{count}
use Rattle.common.proofs.Bools.{never}
use Rattle.table.specs.declared.Lock.{Lock}
use Rattle.table.specs.Table.{waits, writes, stripe_count}
use Rattle.table.specs.Sound.{valid, wants}
use Rattle.table.proofs.Facts.{valid→}
use Rattle.sound.specs.Parts.{Tallied}
use Rattle.sound.proofs.Left.{count-more, count-done}

-- a valid record's stripe has a count
pub has-count : (issued : ℕ) (lasts : List ℕ) (r : Lock) → valid issued lasts r ≡ true → r.stripe < stripe_count
has-count issued lasts r e = let h = (valid→ issued lasts r (subst T (sym e) tt)).stripe-hi in omega arith

module _ (ks : List ℕ) (rs : List Lock) (r : Lock) (j : ℕ) where
  abbrev raised : List ℕ
  raised = set ks r.stripe (get_or ks r.stripe 0 + j)

  -- only the record's own stripe
  at_own : (s : ℕ) → r.stripe < length ks → get_or raised s 0 ≡ get_or ks s 0 + cond (eqb r.stripe s) j 0
  at_own s h = go (eqb r.stripe s) refl
    where
      go : (b : Bool) → eqb r.stripe s ≡ b → get_or raised s 0 ≡ get_or ks s 0 + cond b j 0
      go true q =
          subst (λ (x : ℕ). get_or raised x 0 ≡ get_or ks x 0 + j) (eqb→eq r.stripe s (subst T (sym q) tt)) (get_or-set_same ks r.stripe (get_or ks r.stripe 0 + j) 0 h)
      go false q =
          get_or-set_other ks r.stripe s (get_or ks r.stripe 0 + j) 0 (λ z. never (sym q ∙ eq-eqb r.stripe s (sym z))) ∙ sym (add-zero (get_or ks s 0))

  pub one_more : (i : ℕ) → Tallied i ks rs → drop i rs ≡ r ∷ drop (i + 1) rs → r.stripe < stripe_count → j ≡ cond (waits r && writes r) 1 0 → Tallied (i + 1) raised rs
  one_more i C e h f = record {
    long = length-set ks r.stripe (get_or ks r.stripe 0 + j) ∙ C.long;
    few = λ s p. let k = C.few s p in let z = at_own s own in let y = most (eqb r.stripe s) in omega arith;
    left = λ s p.
        rw (at_own s own) (count-more (wants s) _ (get_or ks s 0) r (cond (eqb r.stripe s) j 0) e (counts (waits r && writes r) (eqb r.stripe s) f) (C.left s p));
  }
    where
      own : r.stripe < length ks
      own = let l = C.long in omega arith

      bit : (w : Bool) → cond w 1 0 ≤ 1
      bit true = omega arith
      bit false = omega arith

      most : (b : Bool) → cond b j 0 ≤ 1
      most true = rw f (bit (waits r && writes r))
      most false = omega arith

      counts : (w b : Bool) → j ≡ cond w 1 0 → cond b j 0 ≡ cond (w && b) 1 0
      counts true true f = f
      counts true false f = refl
      counts false true f = f
      counts false false f = refl

-- at the end they speak of all records
pub tallied : (n : ℕ) (ks : List ℕ) (rs : List Lock) → Tallied n ks rs → drop n rs ≡ [] → (s : ℕ) → s < stripe_count → get_or ks s 0 ≡ count (wants s) rs
tallied n ks rs C e s h = count-done (wants s) _ (get_or ks s 0) e (C.left s h)

-- a test as a number
pub one_or_none : (r : Lock) → from_bool (waits r && writes r) ≡ cond (waits r && writes r) 1 0
one_or_none r = go (waits r && writes r)
  where
    go : (b : Bool) → from_bool b ≡ cond b 1 0
    go true = refl
    go false = refl
