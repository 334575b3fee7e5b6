-- The turns, place by place: a turn leaves the table as it is, or its request is due; and the turns so far, and one more, are the turns of the rules.
use Prim.Native.Nat.{ℕ, zero, suc, ◌+◌, ◌-◌, ◌≤◌, ◌<◌}
use native.Mathlib.Nat.{add-zero, add-suc, le_refl, le_trans}
use native.Mathlib.Omega.{arith}
use native.Mathlib.Numerals.{add-one}
use mathlib.Core.Bool.{Bool, true, false, not, cond}
use mathlib.Core.List.{List, append-nil}
use mathlib.Core.Path.{◌≡◌, refl, sym, ap, subst, ◌∙◌}
use lib.Dec.{T, not_T, eqb→eq}
use lib.ListN.{length, length-append}
use Rattle.common.specs.Counters.{width}
use Rattle.common.specs.Tests.{any}
use Rattle.common.proofs.Bools.{and_i, cond-false, nand-l, nand-r}
use Rattle.common.proofs.Order.{eq→eqb}
use Rattle.table.specs.declared.Lock.{Lock}
use Rattle.table.specs.Table.{Table, nth, waits}
use Rattle.table.specs.Sound.{sound}
use Rattle.table.specs.Bytes.{locks_of, table_of}
use Rattle.table.specs.Places.{lock_at, Shape, Good}
use Rattle.table.proofs.Facts.{Sound, sound→, →sound}
use Rattle.table.proofs.Reading.{locks-length, nth-is}
use Rattle.locks.specs.Conflicts.{obstacle}
use Rattle.locks.specs.Settle.{Settled, grant, free, granting, turn, turns}
use Rattle.locks.specs.Events.{Room}
use Rattle.locks.proofs.Walk.{Sounds, turns-sound}
use Rattle.settle.specs.Posts.{Due, fresh, Did}
use Rattle.settle.proofs.Written.{did_none, and_then, did_then, did-long}

-- the turn of the record at place i
module _ (n i : ℕ) (t : List ℕ) (G : Good n t) (h : i < n) where
  abbrev rs : List Lock
  rs = locks_of width t

  abbrev w : Lock
  w = lock_at t i

  stays : (k : ℕ) (b : List ℕ) → T (not (free rs w)) → Did n k (turn i (fresh (table_of width t))) b k t b
  unfolding turn
  stays k b f =
      subst (λ (s : Settled). Did n k s b k t b)
      (sym (cond-false (free rs (nth (table_of width t) i)) (granting i (fresh (table_of width t)) (nth (table_of width t) i) (grant (table_of width t).lasts rs (nth (table_of width t) i))) (fresh (table_of width t))
      (subst (λ (x : Lock). T (not (free rs x))) (sym (nth-is n i t w G.shape h refl)) f)))
      (did_none n k t b G.shape)

  pub turn-held : (s k : ℕ) (b : List ℕ) → s ≡ w.state → (s ≡ 0 → ⊥) → Did n k (turn i (fresh (table_of width t))) b k t b
  turn-held s k b e z = stays k b (nand-l (waits w) (not (any (obstacle w) rs)) (not_T (waits w) (λ u. z (e ∙ eqb→eq w.state 0 u))))

  module _ (x : Bool) (p : x ≡ any (obstacle w) rs) where
    pub turn-blocked : (k : ℕ) (b : List ℕ) → x ≡ true → Did n k (turn i (fresh (table_of width t))) b k t b
    turn-blocked k b q = stays k b (nand-r (waits w) (not (any (obstacle w) rs)) (subst (λ (y : Bool). T (not (not y))) (sym q ∙ p) tt))

    pub turn-due : (s : ℕ) (v : Lock) → s ≡ w.state → s ≡ 0 → x ≡ false → v ≡ w → Due n i v t
    turn-due s v e z q f = record {
      good = G;
      place = h;
      is = nth-is n i t v G.shape h f;
      free = rw f (and_i (waits w) (not (any (obstacle w) rs)) (eq→eqb w.state 0 (sym e ∙ z)) (subst (λ (y : Bool). T (not y)) (sym q ∙ p) tt));
    }

-- a turn does the same whatever events stand before
turn-after : (i : ℕ) (s : Settled) → turn i s ≡ and_then s (turn i (fresh s.table))
unfolding turn
turn-after i s = go (free s.table.locks (nth s.table i))
  where
    g : Lock
    g = grant s.table.lasts s.table.locks (nth s.table i)

    go : (b : Bool) → cond b (granting i s (nth s.table i) g) s ≡ and_then s (cond b (granting i (fresh s.table) (nth s.table i) g) (fresh s.table))
    go true = refl
    go false = λ k. record { table = s.table; events = sym (append-nil s.events) k }

pub turns-none : (n j : ℕ) (t b : List ℕ) → Shape n t → Did n j (turns 0 (table_of width t)) b j t b
unfolding turns
turns-none n j t b S = did_none n j t b S

pub turns_more : (n i j k r : ℕ) (X : Table) (b t c u d : List ℕ) → Did n j (turns i X) b k t c → Did n k (turn i (fresh (table_of width t))) c r u d → Did n j (turns (i + 1) X) b r u d
unfolding turns
turns_more n i j k r X b t c u d D E =
    rw add-one
    (subst (λ (s : Settled). Did n j s b r u d) (sym (turn-after i (turns i X)))
    (did_then n j k r (turns i X) (turn i (fresh (turns i X).table)) b t c u d D
    (subst (λ (Y : Table). Did n k (turn i (fresh Y)) c r u d) D.table.says E)))

-- the events of fewer turns are no more
turn-tells : (i : ℕ) (s : Settled) → length s.events ≤ length (turn i s).events
turn-tells i s = rw (turn-after i s) (omega (arith, length-append s.events (turn i (fresh s.table)).events))

turns-tell : (i d : ℕ) (X : Table) → length (turns i X).events ≤ length (turns (i + d) X).events
unfolding turns
turns-tell i zero X = rw (add-zero i) (le_refl (length (turns i X).events))
turns-tell i (suc d) X = rw (add-suc i d) (le_trans (turns-tell i d X) (turn-tells (i + d) (turns (i + d) X)))

pub turns-room : (n i j k : ℕ) (X : Table) (b t c : List ℕ) → i < n → Did n j (turns i X) b k t c → Room (j + length (turns n X).events) b
    → Room (k + length (turn i (fresh (table_of width t))).events) c
unfolding turns
turns-room n i j k X b t c h D z =
    let s : Settled = turn i (fresh (table_of width t)) in
    let e : turn i (turns i X) ≡ and_then (turns i X) s = turn-after i (turns i X) ∙ ap (λ (Y : Table). and_then (turns i X) (turn i (fresh Y))) (sym D.table.says) in
    let q : ◌≡◌ {A = ℕ} (suc i + (n - suc i)) n = omega arith in
    let m = subst (λ (x : ℕ). length (turn i (turns i X)).events ≤ length (turns x X).events) q (turns-tell (suc i) (n - suc i) X) in
    let a = ap (λ (x : Settled). length x.events) e in
    let l = did-long n j k (turns i X) b t c D in
    let p = D.count in
    omega (arith, length-append (turns i X).events s.events)

pub turns-good : (n i j k : ℕ) (t b u c : List ℕ) → Good n t → i ≤ n → Did n j (turns i (table_of width t)) b k u c → Good n u
turns-good n i j k t b u c G h D = record {
  shape = D.table.shape;
  sounds = subst (λ (Y : Table). T (sound Y)) (sym D.table.says) (→sound s.table (subst (λ (m : ℕ). Sound m s.table.lasts s.table.locks) (sym R.count) R.sound));
}
  where
    s : Settled
    s = turns i (table_of width t)

    R : Sounds (table_of width t) s
    R = turns-sound (table_of width t) (sound→ (table_of width t) G.sounds) i (let l = locks-length t in let m = G.shape.count in omega arith)
