-- The whole settling: all turns, then the revocations of what they left. Their events are all of its events, so room for these is room for each.
use Prim.Native.Nat.{ℕ, ◌+◌}
use native.Mathlib.Omega.{arith}
use mathlib.Core.List.{List}
use mathlib.Core.Path.{◌≡◌, sym, ap, subst, ◌∙◌}
use lib.ListN.{length, length-append}
use Rattle.common.specs.Counters.{width}
use Rattle.table.specs.Table.{Table}
use Rattle.table.specs.Bytes.{locks_of, table_of}
use Rattle.table.specs.Places.{Good, Moded}
use Rattle.table.proofs.Reading.{locks-length}
use Rattle.locks.specs.Settle.{Settled, turns, revocations, revoke, settle}
use Rattle.settle.specs.Posts.{fresh, Did}
use Rattle.settle.proofs.Granting.{good-moded}
use Rattle.settle.proofs.Turning.{turns-good}
use Rattle.settle.proofs.Written.{did_then}

module _ (n : ℕ) (t : List ℕ) (G : Good n t) where
  abbrev turned : Settled
  turned = turns n (table_of width t)

  settle_is : settle (table_of width t) ≡ revoke turned
  unfolding settle
  settle_is = ap (λ (m : ℕ). revoke (turns m (table_of width t))) (locks-length t ∙ G.shape.count)

  pub told : length (settle (table_of width t)).events ≡ length (turns n (table_of width t)).events + length (revocations (turns n (table_of width t)).table.locks)
  told = ap (λ (s : Settled). length s.events) settle_is ∙ length-append turned.events (revocations turned.table.locks)

  -- the turns are over, and there are g events, j of them from before
  module _ (j g : ℕ) (b u c : List ℕ) (D : Did n j (turns n (table_of width t)) b g u c) where
    pub settle-moded : Moded n u
    settle-moded = good-moded n u (turns-good n n j g t b u c G (omega arith) D)

    pub left-told : length (revocations (locks_of width u)) ≡ length (revocations (turns n (table_of width t)).table.locks)
    left-told = ap (λ (X : Table). length (revocations X.locks)) D.table.says

    pub settle-done : (r : ℕ) (v d : List ℕ) → Did n g (revoke (fresh (table_of width u))) c r v d → Did n j (settle (table_of width t)) b r v d
    settle-done r v d E =
        subst (λ (s : Settled). Did n j s b r v d) (sym settle_is)
        (did_then n j g r turned (revoke (fresh turned.table)) b u c v d D
        (subst (λ (X : Table). Did n g (revoke (fresh X)) c r v d) D.table.says E))
