-- Revoking place by place: a revocation changes no record that waits, so each record is wanted as it was before the first one.
use Prim.Native.Nat.{ℕ, ◌+◌, ◌<◌}
use mathlib.Core.Bool.{Bool, true, false, ◌&&◌}
use mathlib.Core.List.{List, [], ◌∷◌}
use mathlib.Core.Path.{◌≡◌, refl, sym, ap, subst, ◌∙◌}
use lib.Dec.{T, eqb}
use lib.ListN.{length}
use borrow.Author.Tests.{ne_eqb}
use Rattle.common.specs.Counters.{width}
use Rattle.common.specs.Tests.{any}
use Rattle.common.proofs.Bools.{and_i, true-is, and-false}
use Rattle.common.proofs.Order.{eq→eqb}
use Rattle.modes.specs.Codes.{granted}
use Rattle.table.specs.declared.Lock.{Lock}
use Rattle.table.specs.Table.{number_of}
use Rattle.table.specs.Bytes.{locks_of, table_of}
use Rattle.table.specs.Places.{lock_at, LockFits, Shape, Holds, with_lock}
use Rattle.table.proofs.Reading.{nth-is}
use Rattle.locks.specs.Settle.{revocation, given, presses, wanted}
use Rattle.locks.specs.Events.{Room}
use Rattle.settle.specs.Posts.{put_events, Did, revoke_at, Wanted}
use Rattle.settle.proofs.Written.{did_none}

-- one place
module _ (n i : ℕ) (t : List ℕ) (S : Shape n t) (h : i < n) where
  abbrev rs : List Lock
  rs = locks_of width t

  abbrev r : Lock
  r = lock_at t i

  spared : (k : ℕ) (b : List ℕ) → wanted rs r ≡ false → Did n k (revoke_at i (table_of width t)) b k t b
  unfolding revoke_at
  spared k b f = rw (nth-is n i t r S h refl, f) (did_none n k t b S)

  pub revoke-other : (s k : ℕ) (b : List ℕ) → s ≡ r.state → (s ≡ 1 → ⊥) → Did n k (revoke_at i (table_of width t)) b k t b
  revoke-other s k b e z = spared k b (ap (λ (x : Bool). x && any (presses r) rs) (ne_eqb r.state 1 (λ f. z (e ∙ f))))

  module _ (x : Bool) (p : x ≡ any (presses r) rs) where
    pub revoke-free : (k : ℕ) (b : List ℕ) → x ≡ false → Did n k (revoke_at i (table_of width t)) b k t b
    revoke-free k b q = spared k b (ap (λ (y : Bool). eqb r.state granted && y) (sym p ∙ q) ∙ and-false (eqb r.state granted))

    pub revoke-wanted : (s : ℕ) (v : Lock) → s ≡ r.state → s ≡ 1 → x ≡ true → v ≡ r → LockFits v → Wanted n i v t
    revoke-wanted s v e z q f g = record {
      shape = S;
      place = h;
      is = nth-is n i t v S h f;
      fits = g;
      wanted = rw f (and_i (eqb r.state granted) (any (presses r) rs) (eq→eqb r.state 1 (sym e ∙ z)) (subst T (sym (sym p ∙ q)) tt));
    }

pub revoke-room : (n i k : ℕ) (r : Lock) (t b : List ℕ) → Wanted n i r t → Room (k + length (revoke_at i (table_of width t)).events) b → Room (k + 1) b
unfolding revoke_at
revoke-room n i k r t b W h = rw (W.is, true-is (wanted (locks_of width t) r) W.wanted) at h

pub ask-did : (n i : ℕ) (r q : Lock) (t : List ℕ) → Wanted n i r t → q ≡ given r 2 (number_of r) r.last → (k : ℕ) (b u c : List ℕ)
    → Holds n (with_lock (table_of width t) i q) u → c ≡ put_events b k (revocation q ∷ []) → Did n k (revoke_at i (table_of width t)) b (k + 1) u c
unfolding revoke_at
ask-did n i r q t W e k b u c H g =
    rw (W.is, true-is (wanted (locks_of width t) r) W.wanted, ← e) (record { table = H; bytes = g; count = refl })
