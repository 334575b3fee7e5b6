-- A question asked of one record after the other, from place f on, where none before f answers yes: the chain's answer is that of all records.
use Prim.Native.Nat.{ℕ, zero, suc, ◌+◌, ◌-◌}
use native.Mathlib.Omega.{arith}
use mathlib.Core.Bool.{Bool, true, false, ◌||◌}
use mathlib.Core.List.{List}
use mathlib.Core.Path.{◌≡◌, refl, ◌∙◌}
use denote.Param.Members.{Mut}
use Rattle.std.specs.declared.ops.Range.{Range}
use Rattle.std.specs.Iterator.{ChecksAny}
use Rattle.std.specs.Fn.{Called}
use Rattle.std.specs.List.{list_any, range_with_len}
use Rattle.std.proofs.iter.Yields.{nat_range_steps}
use Rattle.std.proofs.lemmas.Iterator.{YieldsList-from_range}
use Rattle.std.proofs.lemmas.Iterator.Search.{any_from_yields_List}
use Rattle.common.specs.Counters.{width}
use Rattle.common.specs.Tests.{any}
use Rattle.table.specs.declared.Lock.{Lock}
use Rattle.table.specs.Bytes.{locks_of}
use Rattle.table.specs.Places.{lock_at, Shape, Past}
use Rattle.table.proofs.Scan.{scan-hit, scan-miss, scan-end}

module _ (n : ℕ) (t : List ℕ) (S : Shape n t) (p : Lock → Bool) where
  from-place : (d f : ℕ) → f + d ≡ n → Past p n (locks_of width t) f → list_any (λ j. p (lock_at t j)) (range_with_len f d) ≡ any p (locks_of width t)
  from-place zero f e s = scan-end n f t p S (omega arith) s
  from-place (suc d) f e s = go (p (lock_at t f)) refl (from-place d (f + 1) (omega arith))
    where
      go : (b : Bool) → b ≡ p (lock_at t f) → (Past p n (locks_of width t) (f + 1) → list_any (λ j. p (lock_at t j)) (range_with_len (f + 1) d) ≡ any p (locks_of width t))
          → (b || list_any (λ j. p (lock_at t j)) (range_with_len (f + 1) d)) ≡ any p (locks_of width t)
      go true q k = scan-hit n f t p true S (omega arith) q refl
      go false q k = k (scan-miss n f t p false S (omega arith) q refl s)

  pub asked_from : {F : Type 0} {g : Mut F (ℕ × Unit {0}) Bool} (s u : Range ℕ) (f : F) (r : Bool)
      → ChecksAny nat_range_steps g s f r u → s.end ≡ n → Past p n (locks_of width t) s.start
      → ((j : ℕ) (b : Bool) (q : F) → Called g f (j, tt) b q → (q ≡ f) × (b ≡ p (lock_at t j))) → r ≡ any p (locks_of width t)
  asked_from s u f r d e P k =
      any_from_yields_List (λ j. p (lock_at t j)) _ _ _ d (YieldsList-from_range s.start s.end _ refl refl) k
      ∙ from-place (s.end - s.start) s.start (let m = P.most in omega arith) P
