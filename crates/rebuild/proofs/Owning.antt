-- The last of the list owns the byte: every entry over it stands in the list, and none there has a greater age.
use Prim.Native.Nat.{ℕ, zero, suc, ◌+◌, ◌-◌, ◌≤◌, ◌<◌, min, max}
use native.Mathlib.Omega.{arith}
use mathlib.Core.Path.{◌≡◌}
use mathlib.Core.Logic.{⊎_elim}
use mathlib.Core.Bool.{true}
use mathlib.Core.List.{List, [], ◌∷◌}
use lib.ListN.{length, get_or}
use borrow.Author.Tests.{lt-ltb, le-ltb, eq-eqb, ne_eqb}
use Rattle.common.specs.Counters.{width}
use Rattle.common.specs.Ranges.{eof}
use Rattle.common.proofs.Order.{below, same}
use Rattle.xdr.specs.Be.{be}
use Rattle.runs.specs.declared.Run.{Run}
use Rattle.runs.specs.Ages.{value_of, age, Exact}
use Rattle.runs.specs.Owner.{age_of, run, over, owner}
use Rattle.runs.specs.Bytes.{runs_of, sound_log_bytes}
use Rattle.runs.proofs.Ages.{value-age, exact-age, valid-exact}
use Rattle.runs.proofs.Over.{over-before, over-in, over-after, over-is}
use Rattle.runbytes.specs.Places.{run_at}
use Rattle.runbytes.proofs.Places.{runs-length, runs-at}
use Rattle.runbytes.proofs.Facts.{LogFacts, log_facts, valid-at}
use Rattle.order.specs.Places.{place, first_at, last_at, age_at, Stands, Below, Rising, Sorted}
use Rattle.pen.specs.declared.Pen.{Pen}
use Rattle.pen.specs.Drawing.{Drawn, Went, one}
use Rattle.rebuild.specs.declared.Sweep.{Sweep}
use Rattle.rebuild.specs.declared.Stretch.{Stretch}
use Rattle.rebuild.specs.Sweeping.{Walking, Ready, next_first, next_of, stretch_of}

over-most : (r : Run) (b : ℕ) → over r b ≤ age_of r
over-most r b = over-is (λ (o : ℕ). o ≤ age_of r) r b (omega arith) (omega arith)

-- the owner's age is that of an entry, and no entry's is greater
over-owner : (es : List Run) (i : ℕ) (d : Run) (b : ℕ) → i < length es → over (get_or es i d) b ≤ owner es b
unfolding owner
over-owner [] i d b h = absurd (let z : ⊥ = omega arith in z)
over-owner (e ∷ es) zero d b h = omega arith
over-owner (e ∷ es) (suc i) d b h = omega (arith, over-owner es i d b (omega arith))

owner-most : (es : List Run) (d : Run) (b a : ℕ) → ((i : ℕ) → i < length es → over (get_or es i d) b ≤ a) → owner es b ≤ a
unfolding owner
owner-most [] d b a f = omega arith
owner-most (e ∷ es) d b a f = omega (arith, f 0 (omega arith), owner-most es d b a (λ i h. f (suc i) (omega arith)))

-- from the byte x up to before its end a stretch has the ages g
pub record Owns (g : ℕ → ℕ) (x : ℕ) (s : Stretch) : Type 0 where
  pub ahead : x < s.end
  pub most : s.end ≤ suc eof
  pub exact : Exact s.age
  pub flat : (b : ℕ) → x ≤ b → b < s.end → g b ≡ value_of s.age

module _ (log order : List ℕ) (F : LogFacts log) (long : length order ≡ be 4 log 0) (S : Sorted (first_at log) order 0 (be 4 log 0)) where
  next-most : (c : ℕ) → next_first log order c ≤ suc eof
  next-most c =
      ⊎_elim
      (λ (l : c < length order).
      let v = valid-at log (place order c) (S.inside c (omega arith) (omega arith)) F.good in
      rw (lt-ltb c (length order) l) (omega arith))
      (λ (l : length order ≤ c). rw (le-ltb c (length order) l) (omega arith))
      (below c (length order))

  -- what is not taken in begins no earlier than the next
  next-least : (c j : ℕ) → c ≤ j → j < be 4 log 0 → next_first log order c ≤ first_at log (place order j)
  next-least c j h l = rw (lt-ltb c (length order) (omega arith)) (S.rising c j (omega arith) h l)

  module _ (begun : List ℕ) (taken x : ℕ) (W : Walking log order begun taken x) (next : x < next_first log order taken)
      (top : 0 < length begun → x ≤ last_at log (place begun (length begun - 1)))
      (listed : Below begun (length begun) (be 4 log 0)) (rising : Rising (age_at log) begun 0 (length begun)) where
    -- before the next first byte an entry is over a byte only where it stands in the list
    over-list : (a b : ℕ) → x ≤ b → b < next_first log order taken → ((k : ℕ) → k < length begun → age_at log (place begun k) ≤ a) → (i : ℕ) → i < be 4 log 0 → over (run_at log i) b ≤ a
    over-list a b h k f i l =
        let s = S.all i (omega arith) l in
        let o = s.most in
        ⊎_elim
        (λ (y : s.at < taken). ⊎_elim
        (λ (d : last_at log (place order s.at) < x).
        let e : over (run_at log (place order s.at)) b ≡ 0 = over-after (run_at log (place order s.at)) b (omega arith) in
        rw (← s.is, e) (omega arith))
        (λ (t : Stands begun 0 (length begun) (place order s.at)). rw (← s.is, ← t.is) (omega (arith, over-most (run_at log (place begun t.at)) b, f t.at t.most)))
        (W.known s.at y))
        (λ (y : taken ≤ s.at).
        let e : over (run_at log (place order s.at)) b ≡ 0 = over-before (run_at log (place order s.at)) b (omega (arith, next-least taken s.at y o)) in
        rw (← s.is, e) (omega arith))
        (below s.at taken)

    owner-list : (a b : ℕ) → x ≤ b → b < next_first log order taken → ((k : ℕ) → k < length begun → age_at log (place begun k) ≤ a) → owner (runs_of width log) b ≤ a
    owner-list a b h k f =
        owner-most (runs_of width log) (run 0 0 0) b a
        (λ i l. let m : i < be 4 log 0 = rw runs-length at l in rw (runs-at log i m (run 0 0 0)) (over-list a b h k f i m))

    -- the list is empty
    owns_none : length begun ≡ 0 → Owns (owner (runs_of width log)) x (record { age = age 0; end = next_first log order taken })
    owns_none z =
        record {
          ahead = next;
          most = next-most taken;
          exact = exact-age 0;
          flat = λ b h k. omega (arith, value-age 0, owner-list 0 b h k (λ j l. absurd (let y : ⊥ = omega arith in y)));
        }

    -- its last has the greatest age of it
    owns-top : 0 < length begun → Owns (owner (runs_of width log)) x
        (record { age = (run_at log (place begun (length begun - 1))).age; end = min (next_first log order taken) (last_at log (place begun (length begun - 1)) + 1) })
    owns-top z =
        let i : ℕ = place begun (length begun - 1) in
        let l : i < be 4 log 0 = listed (length begun - 1) (omega arith) in
        let f : first_at log i ≤ x = W.here (length begun - 1) (omega arith) in
        let t = top z in
        record {
          ahead = omega (arith, next);
          most = omega (arith, next-most taken);
          exact = valid-exact (run_at log i) (valid-at log i l F.good);
          flat = λ b h k.
              let u : over (run_at log i) b ≤ owner (runs_of width log) b =
              rw (← runs-at log i l (run 0 0 0)) (over-owner (runs_of width log) i (run 0 0 0) b (rw runs-length l)) in
              omega (arith, u, over-in (run_at log i) b (omega arith) (omega arith), owner-list (age_at log i) b h (omega arith) (λ j m. rising j (length begun - 1) (omega arith) (omega arith) (omega arith)));
        }

    pub owns : Owns (owner (runs_of width log)) x (stretch_of log begun (next_first log order taken))
    owns =
        ⊎_elim
        (λ (z : length begun ≡ 0). rw (eq-eqb (length begun) 0 z) (owns_none z))
        (λ (z : length begun ≡ 0 → ⊥). rw (ne_eqb (length begun) 0 z) (owns-top (omega arith)))
        (same (length begun) 0)

-- what a sweep that is ready gives to be drawn
pub ready-owns : (log : List ℕ) (s : Sweep) (x : ℕ) → sound_log_bytes log ≡ true → Ready log s x
    → Owns (owner (runs_of width log)) x (stretch_of s.log.bytes.now s.begun.items (next_of s))
ready-owns log s x e R =
    let W = R.sweeping in
    rw W.same
    (owns log s.order.now (log_facts log e) W.long W.sorted s.begun.items s.taken x W.walking (rw W.same at R.next) R.top (rw W.same at s.listed) (rw W.same at s.rising))

-- one step of the pen from x to q, on the way to a byte e
step : (x y q e : ℕ) → y ≡ max x q → x < q → q ≤ e → (e - y < e - x) × (y ≤ e) × (x ≤ y)
step x y q e h k l = omega arith

-- the pen draws a stretch
pub record Step (g : ℕ → ℕ) (old o : List ℕ) (x : ℕ) (p : Pen) : Type 0 where
  pub less : suc eof - p.x < suc eof - x
  pub most : p.x ≤ suc eof
  pub on : x ≤ p.x
  pub drawn : Drawn g old o p

pub stretched : (p p1 : Pen) (o o1 : List ℕ) (s : Stretch) (g : ℕ → ℕ) (old : List ℕ) → Owns g p.x s → Went p s.end (one (value_of s.age)) o o1 p1 → Drawn g old o p → Step g old o1 p.x p1
stretched p p1 o o1 s g old O w d =
    let t = step p.x p1.x s.end (suc eof) w.at O.ahead O.most in
    record { less = t.0; most = t.1; on = t.2; drawn = w.keeps g old (λ b i j. O.flat b i j) d }
