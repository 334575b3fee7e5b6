-- The loops: what a loop has found, with what is left of the list, is what the whole list has.
use Prim.Native.Nat.{ℕ, suc, ◌+◌, ◌-◌, ◌≤◌, ◌<◌}
use mathlib.Core.Bool.{Bool, true, false, ◌&&◌, cond, and-false, and_assoc}
use mathlib.Core.List.{List, [], ◌∷◌}
use mathlib.Core.Path.{◌≡◌, sym, ap, ◌∙◌}
use native.Mathlib.Numerals.{add-one}
use native.Mathlib.Omega.{arith}
use lib.ListN.{drop}
use borrow.Author.Tests.{lt-ltb, le-ltb, lt-leb, le-leb}
use mathlib.Core.Logic.{⊎_elim}
use lib.Dec.{leb}
use Rattle.std.proofs.Common.{Less, Equal, Greater}
use Rattle.std.specs.Ordering.{is_le, nat_cmp}
use Rattle.std.specs.Cmp.{nat_cmp_is}
use Rattle.common.proofs.Order.{below}
use Rattle.common.specs.Counters.{width}
use Rattle.common.specs.Tests.{all, count, up_from}
use Rattle.table.specs.declared.Lock.{Lock}
use Rattle.table.specs.Table.{handle_of, stripe_count}
use Rattle.table.specs.Bytes.{locks_of}
use Rattle.table.specs.Places.{lock_at}
use Rattle.table.proofs.Reading.{locks-from, locks-end}
use Rattle.sound.specs.Parts.{Sized, climbs}

-- what is left of the records, of the stripes
module _ (n i : ℕ) (t : List ℕ) (S : Sized n t) where
  pub records-from : (r : Lock) → i < n → r ≡ lock_at t i → drop i (locks_of width t) ≡ r ∷ drop (i + 1) (locks_of width t)
  records-from r h e = rw e (locks-from t i (let c = S.count in omega arith))

  pub records-end : n ≤ i → drop i (locks_of width t) ≡ []
  records-end h = locks-end t i (let c = S.count in omega arith)

abbrev pub stripes_from : ℕ → List ℕ
stripes_from s = up_from s (stripe_count - s)

pub stripes-from : (s : ℕ) → s < stripe_count → stripes_from s ≡ s ∷ stripes_from (s + 1)
stripes-from s h =
    let e : stripe_count - s ≡ suc (stripe_count - (s + 1)) = omega arith in
    ap (up_from s) e ∙ ap (λ (k : ℕ). s ∷ up_from k (stripe_count - (s + 1))) (sym (add-one s))

-- a test of each element
module _ {A : Type 0} (p : A → Bool) (w ok : Bool) where
  pub all_more : {l m : List A} (x : A) (b : Bool) → l ≡ x ∷ m → b ≡ p x → (ok && all p l) ≡ w → ((ok && b) && all p m) ≡ w
  all_more {m = m} x b e h q =
      and_assoc ok b (all p m) ∙ ap (λ (y : Bool). ok && (y && all p m)) h ∙ ap (λ (l : List A). ok && all p l) (sym e) ∙ q

-- a count
module _ {A : Type 0} (p : A → Bool) (w k : ℕ) where
  pub count-more : {l m : List A} (x : A) (j : ℕ) → l ≡ x ∷ m → j ≡ cond (p x) 1 0 → k + count p l ≡ w → k + j + count p m ≡ w
  count-more {l} {m} x j e h q =
      let r : k + cond (p x) (suc (count p m)) (count p m) ≡ w = ap (λ (y : List A). k + count p y) (sym e) ∙ q in
      go (p x) h r
    where
      go : (b : Bool) → j ≡ cond b 1 0 → k + cond b (suc (count p m)) (count p m) ≡ w → k + j + count p m ≡ w
      go true f r = omega arith
      go false f r = omega arith

  pub count-done : {l : List A} → l ≡ [] → k + count p l ≡ w → k ≡ w
  count-done e q = let r : k + 0 ≡ w = ap (λ (y : List A). k + count p y) (sym e) ∙ q in omega arith

-- a test of each record, and handles that rise from above b; with another test o of the whole
module _ (p : Lock → Bool) (w o : Bool) (b : ℕ) {l m : List Lock} (r : Lock) (e : l ≡ r ∷ m) (q : (all p l && climbs b l) ≡ w) where
  pub each_more : b < handle_of r → p r ≡ true → (all p m && climbs (handle_of r) m) ≡ w
  unfolding climbs
  each_more h v = rw (e, v, lt-ltb b (handle_of r) h) at q

  pub each-low : handle_of r ≤ b → false ≡ (w && o)
  unfolding climbs
  each-low h = ap (λ (x : Bool). x && o) (rw (e, le-ltb b (handle_of r) h, and-false) at q)

  pub each-bad : p r ≡ false → false ≡ (w && o)
  each-bad v = ap (λ (x : Bool). x && o) (rw (e, v) at q)

pub each-done : (p : Lock → Bool) (w o : Bool) (b : ℕ) {l : List Lock} (k : Bool) → k ≡ o → l ≡ [] → (all p l && climbs b l) ≡ w → k ≡ (w && o)
unfolding climbs
each-done p w o b k h e q = h ∙ ap (λ (x : Bool). x && o) (rw e at q)

-- the order of two counters, as the test of their numbers
pub cmp-leb : (a b : ℕ) → is_le (nat_cmp a b) ≡ leb a b
cmp-leb a b =
    ⊎_elim
    (λ (h : a < b). sym (ap is_le (nat_cmp_is a b Less h)) ∙ sym (le-leb a b (omega arith)))
    (λ (h : b ≤ a).
    ⊎_elim
    (λ (k : b < a). sym (ap is_le (nat_cmp_is a b Greater k)) ∙ sym (lt-leb a b k))
    (λ (k : a ≤ b). sym (ap is_le (nat_cmp_is a b Equal (omega arith))) ∙ sym (le-leb a b k))
    (below b a))
    (below a b)
