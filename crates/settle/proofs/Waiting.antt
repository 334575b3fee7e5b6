-- The first of n records that answers yes, as a search over their places finds it.
use Prim.Native.Nat.{ℕ, zero, suc, ◌≤◌, ◌<◌}
use native.Mathlib.Omega.{arith}
use native.Mathlib.Numerals.{add-one}
use mathlib.Core.Bool.{Bool, true, false}
use mathlib.Core.List.{List}
use mathlib.Core.Path.{◌≡◌, refl, sym}
use denote.Ref.{Bor}
use denote.Param.Members.{Mut}
use Rattle.std.specs.declared.ops.Range.{Range}
use Rattle.std.specs.Prelude.{Option, Some, None}
use Rattle.std.specs.Fn.{CalledAt}
use Rattle.std.specs.Iterator.{FindsItem}
use Rattle.std.specs.Option.{MatchOption}
use Rattle.std.proofs.iter.Yields.{nat_range_steps}
use Rattle.std.proofs.lemmas.Iterator.{first_from_Range}
use Rattle.common.specs.Counters.{width}
use Rattle.table.specs.declared.Lock.{Lock}
use Rattle.table.specs.Bytes.{locks_of}
use Rattle.table.specs.Places.{lock_at, Shape, Past}
use Rattle.table.proofs.Scan.{scan-on, scan-first, scan-none}
use Rattle.settle.specs.Posts.{FirstOf}

module _ (n : ℕ) (t : List ℕ) (S : Shape n t) (p : Lock → Bool) where
  past-places : (i : ℕ) → i ≤ n → ((k : ℕ) → k < i → p (lock_at t k) ≡ false) → Past p n (locks_of width t) i
  past-places zero l h = record { most = omega arith; none = refl }
  past-places (suc i) l h = rw add-one at (scan-on n i t p S (omega arith) (h i (omega arith)) (past-places i (omega arith) (λ k m. h k (omega arith))))

  first-of : (r : Option ℕ)
      → MatchOption r ((k : ℕ) → 0 ≤ k → k < n → p (lock_at t k) ≡ false) (λ i. (0 ≤ i) × (i < n) × (p (lock_at t i) ≡ true) × ((k : ℕ) → 0 ≤ k → k < i → p (lock_at t k) ≡ false))
      → FirstOf p n (locks_of width t) r
  first-of None h = scan-none n n (locks_of width t) p (omega arith) (past-places n (omega arith) (λ k m. h k (omega arith) m))
  first-of (Some i) h = (h.1, scan-first n i t p S h.1 h.2 (past-places i (omega (arith, h.1)) (λ k m. h.3 k (omega arith) m)))

  pub found-first : {F : Type 0} {g : Mut F (Bor ℕ × Unit {0}) Bool} (s u : Range ℕ) (f : F) (r : Option ℕ)
      → FindsItem nat_range_steps g s f r u → s ≡ record { start = 0; end = n }
      → ((i : ℕ) (b : Bool) (q : F) → CalledAt g f i b q → (q ≡ f) × (b ≡ p (lock_at t i))) → FirstOf p n (locks_of width t) r
  found-first s u f r d e k =
      first-of r (rw e at (first_from_Range s u f r (λ i. p (lock_at t i) ≡ true) (λ i. p (lock_at t i) ≡ false) d (λ i q c. sym (k i true q c).1) (λ i q c. ((k i false q c).0, sym (k i false q c).1))))
