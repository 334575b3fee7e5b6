-- The list of the entries that have begun: one more that is put in by its age, and those at its end that are dropped.
use Prim.Native.Nat.{ℕ, ◌+◌, ◌≤◌, ◌<◌}
use native.Mathlib.Omega.{arith}
use mathlib.Core.Path.{◌≡◌}
use mathlib.Core.Logic.{inl, inr, ⊎_elim}
use mathlib.Core.List.{List}
use lib.ListN.{length}
use Rattle.common.proofs.Order.{below}
use Rattle.xdr.specs.Be.{be}
use Rattle.order.specs.Places.{place, first_at, last_at, age_at, Stands, PutIn}
use Rattle.order.proofs.Inserting.{put-long, put-each, put-stands, put-new}
use Rattle.rebuild.specs.Sweeping.{Walking}

module _ (log order : List ℕ) where
  module _ (begun : List ℕ) (taken x : ℕ) (W : Walking log order begun taken x) where
    -- the next entry is put in
    pub taken_in : (begun' : List ℕ) → taken < be 4 log 0 → first_at log (place order taken) ≤ x → PutIn (age_at log) begun begun' (place order taken)
        → Walking log order begun' (taken + 1) x
    taken_in begun' h k p =
        let n = put-long p in
        record {
          most = omega arith;
          few = omega (arith, W.few);
          here = put-each p (λ (v : ℕ). first_at log v ≤ x) W.here k;
          known = λ j g. ⊎_elim
              (λ (y : j < taken). ⊎_elim (λ (e : last_at log (place order j) < x). inl e) (λ (s : Stands begun 0 (length begun) (place order j)). inr (put-stands p s)) (W.known j y))
              (λ (y : taken ≤ j). let e : taken ≡ j = omega arith in inr (rw (← e) (put-new p)))
              (below j taken);
        }

    -- what has begun and what has ended stays so
    pub later : (y : ℕ) → x ≤ y → Walking log order begun taken y
    later y h =
        record {
          most = W.most;
          few = W.few;
          here = λ k l. omega (arith, W.here k l);
          known = λ j g. ⊎_elim
              (λ (d : last_at log (place order j) < x). inl (omega arith))
              (λ (s : Stands begun 0 (length begun) (place order j)). inr s)
              (W.known j g);
        }
