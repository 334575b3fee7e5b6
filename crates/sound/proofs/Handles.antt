-- `rising`: handles that rise from one record to the next rise over any two, so that the search over pairs need not read them.
use Prim.Native.Nat.{ℕ}
use mathlib.Core.Bool.{Bool, true, false, ◌&&◌}
use mathlib.Core.List.{List, [], ◌∷◌}
use mathlib.Core.Path.{◌≡◌, refl, sym, ap, ap₂, ◌∙◌}
use native.Mathlib.Omega.{arith}
use lib.Dec.{T, ltb, ltb→lt, lt→ltb}
use Rattle.common.specs.Tests.{all, pairs}
use Rattle.common.proofs.Bools.{and_l, and_r, and_i}
use Rattle.common.proofs.Listed.{all-imp}
use Rattle.table.specs.declared.Lock.{Lock}
use Rattle.table.specs.Table.{handle_of}
use Rattle.table.specs.Sound.{valid, agree}
use Rattle.table.proofs.Facts.{valid→}
use Rattle.sound.specs.Parts.{friendly, climbs}

-- each later record has a higher handle
abbrev higher : Lock → Lock → Bool
higher a b = ltb (handle_of a) (handle_of b)

-- above h, and so above any lower number
above : (h : ℕ) (rs : List Lock) → T (climbs h rs) → T (all (λ r. ltb h (handle_of r)) rs)
unfolding climbs
above h [] t = tt
above h (r ∷ rs) t =
    let p = ltb→lt h (handle_of r) (and_l (ltb h (handle_of r)) (climbs (handle_of r) rs) t) in
    and_i (ltb h (handle_of r)) (all (λ r. ltb h (handle_of r)) rs) (and_l (ltb h (handle_of r)) (climbs (handle_of r) rs) t)
    (all-imp (λ x. ltb (handle_of r) (handle_of x)) (λ x. ltb h (handle_of x))
    (λ x q. let k = ltb→lt (handle_of r) (handle_of x) q in lt→ltb h (handle_of x) (omega arith)) rs
    (above (handle_of r) rs (and_r (ltb h (handle_of r)) (climbs (handle_of r) rs) t)))

climbs→ : (h : ℕ) (rs : List Lock) → T (climbs h rs) → T (pairs higher rs)
unfolding climbs
climbs→ h [] t = tt
climbs→ h (r ∷ rs) t =
    let u = and_r (ltb h (handle_of r)) (climbs (handle_of r) rs) t in
    and_i (all (higher r) rs) (pairs higher rs) (above (handle_of r) rs u) (climbs→ (handle_of r) rs u)

→climbs : (h : ℕ) (rs : List Lock) → T (all (λ r. ltb h (handle_of r)) rs) → T (pairs higher rs) → T (climbs h rs)
unfolding climbs
→climbs h [] s t = tt
→climbs h (r ∷ rs) s t =
    and_i (ltb h (handle_of r)) (climbs (handle_of r) rs) (and_l (ltb h (handle_of r)) (all (λ r. ltb h (handle_of r)) rs) s)
    (→climbs (handle_of r) rs (and_l (all (higher r) rs) (pairs higher rs) t) (and_r (all (higher r) rs) (pairs higher rs) t))

swap : (a b c d : Bool) → ((a && b) && (c && d)) ≡ ((a && c) && (b && d))
swap true true c d = refl
swap true false true d = refl
swap true false false d = refl
swap false b c d = refl

-- two tests of each element, of each pair
all-and : (p q : Lock → Bool) (rs : List Lock) → all (λ r. p r && q r) rs ≡ (all p rs && all q rs)
all-and p q [] = refl
all-and p q (r ∷ rs) = ap (λ (x : Bool). (p r && q r) && x) (all-and p q rs) ∙ swap (p r) (q r) (all p rs) (all q rs)

pairs-and : (f g : Lock → Lock → Bool) (rs : List Lock) → pairs (λ a b. f a b && g a b) rs ≡ (pairs f rs && pairs g rs)
pairs-and f g [] = refl
pairs-and f g (r ∷ rs) =
    ap₂ (λ (x y : Bool). x && y) (all-and (f r) (g r) rs) (pairs-and f g rs) ∙ swap (all (f r) rs) (all (g r) rs) (pairs f rs) (pairs g rs)

agreeing : (rs : List Lock) → pairs agree rs ≡ (pairs higher rs && pairs friendly rs)
unfolding agree friendly
agreeing rs = pairs-and higher friendly rs

pub alike : (a b : Bool) → (T a → T b) → (T b → T a) → a ≡ b
alike true true f g = refl
alike true false f g = absurd (f tt)
alike false true f g = absurd (g tt)
alike false false f g = refl

-- of valid records the handles are above 0
climbing : (i : ℕ) (ls : List ℕ) (rs : List Lock) → T (all (valid i ls) rs) → climbs 0 rs ≡ pairs higher rs
climbing i ls rs v =
    alike (climbs 0 rs) (pairs higher rs) (climbs→ 0 rs)
    (→climbs 0 rs (all-imp (valid i ls) (λ r. ltb 0 (handle_of r)) (λ r t. lt→ltb 0 (handle_of r) (valid→ i ls r t).handle-lo) rs v))

pub paired : (i : ℕ) (ls : List ℕ) (rs : List Lock) → (all (valid i ls) rs && (climbs 0 rs && pairs friendly rs)) ≡ (all (valid i ls) rs && pairs agree rs)
paired i ls rs = go (all (valid i ls) rs) (climbing i ls rs)
  where
    go : (v : Bool) → (T v → climbs 0 rs ≡ pairs higher rs) → (v && (climbs 0 rs && pairs friendly rs)) ≡ (v && pairs agree rs)
    go true f = ap (λ (x : Bool). x && pairs friendly rs) (f tt) ∙ sym (agreeing rs)
    go false f = refl
