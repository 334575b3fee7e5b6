-- A question asked of one record after the other: none of the first i answers yes.
use Prim.Native.Nat.{ℕ, ◌+◌, ◌≤◌, ◌<◌}
use native.Mathlib.Omega.{arith}
use native.Mathlib.Numerals.{add-one}
use mathlib.Core.Bool.{Bool, true, false}
use mathlib.Core.List.{List}
use mathlib.Core.Path.{◌≡◌, sym, ap, subst, ◌∙◌}
use lib.Dec.{T, eqb}
use lib.ListN.{get_or}
use lib.Seq.{take_all}
use borrow.Author.Tests.{eq-eqb, ne_eqb}
use Rattle.common.specs.Counters.{width}
use Rattle.common.specs.Tests.{any}
use Rattle.common.proofs.Scans.{none_more, some-here}
use Rattle.table.specs.declared.Lock.{Lock}
use Rattle.table.specs.Table.{blank}
use Rattle.table.specs.Bytes.{locks_of}
use Rattle.table.specs.Places.{lock_at, Shape, Past, First}
use Rattle.table.proofs.Reading.{locks-length, locks-at, inside}

-- the record at place i answers b
module _ (n i : ℕ) (t : List ℕ) where
  here : Shape n t → i < n → get_or (locks_of width t) i blank ≡ lock_at t i
  here S h = locks-at t i (let c = S.count in omega arith)

  module _ (p : Lock → Bool) where
    pub scan-hit : (b : Bool) → Shape n t → i < n → b ≡ p (lock_at t i) → b ≡ true → true ≡ any p (locks_of width t)
    scan-hit b S h f g = sym (some-here p blank (locks_of width t) i (inside n i t S h) (ap p (here S h) ∙ sym f ∙ g))

    pub scan-on : Shape n t → i < n → p (lock_at t i) ≡ false → Past p n (locks_of width t) i → Past p n (locks_of width t) (i + 1)
    scan-on S h f s = record {
      most = omega arith;
      none = rw add-one (none_more p blank (locks_of width t) i (inside n i t S h) s.none (ap p (here S h) ∙ f));
    }

    pub scan-miss : (b : Bool) → Shape n t → i < n → b ≡ p (lock_at t i) → b ≡ false → Past p n (locks_of width t) i → Past p n (locks_of width t) (i + 1)
    scan-miss b S h f g s = scan-on S h (sym f ∙ g) s

    pub scan-end : Shape n t → n ≤ i → Past p n (locks_of width t) i → false ≡ any p (locks_of width t)
    scan-end S h s = sym s.none ∙ ap (any p) (take_all i (locks_of width t) (let l = locks-length t in let c = S.count in omega arith))

    -- the first to answer yes, or none
    pub scan-first : Shape n t → i < n → p (lock_at t i) ≡ true → Past p n (locks_of width t) i → First p n (locks_of width t) i
    scan-first S h f s = record { past = s; here = λ k. subst T (sym (ap p (here S h) ∙ f)) tt }

pub scan-none : (n i : ℕ) (rs : List Lock) (p : Lock → Bool) → n ≤ i → Past p n rs i → First p n rs n
scan-none n i rs p h s = let q : i ≡ n = omega (arith, s.most) in record { past = rw q at s; here = λ k. absurd (let z : ⊥ = omega arith in z) }
