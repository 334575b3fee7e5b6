-- `flush` and `push`: what is drawn up to x is what is stored and the pending run, since the ages turn at cur and stay from there on.
use Prim.Native.Nat.{ℕ, pred, ◌+◌, ◌-◌, ◌≤◌, ◌<◌}
use native.Mathlib.Nat.{zero-add}
use native.Mathlib.Numerals.{sub-one}
use native.Mathlib.Omega.{arith}
use mathlib.Core.Path.{◌≡◌, refl, sym, ◌∙◌, ap, subst}
use mathlib.Core.Logic.{⊎_elim}
use mathlib.Core.Bool.{Bool, true, false}
use mathlib.Core.List.{List, [], ◌∷◌, ◌++◌, map, map-append}
use lib.ListN.{length-append, length-map}
use lib.Dec.{eqb}
use borrow.Author.Tests.{eq-eqb, ne_eqb, eqb-true, eqb-false}
use Rattle.common.specs.Counters.{width}
use Rattle.common.proofs.Order.{below, same}
use Rattle.xdr.specs.Layout.{put_fields}
use Rattle.xdr.specs.Array.{put_elements}
use Rattle.xdr.proofs.Appends.{put-elements-append}
use Rattle.runs.specs.declared.Age.{Age}
use Rattle.runs.specs.declared.Run.{Run}
use Rattle.runs.specs.Ages.{value_of, Exact}
use Rattle.runs.specs.Map.{draw}
use Rattle.runs.specs.Sound.{max_runs}
use Rattle.runs.specs.Bytes.{run_layout, run_place, run_fields}
use Rattle.runs.proofs.Ages.{value-age, exact-age, run-age}
use Rattle.runs.proofs.Stretch.{draw-append, draw-flat}
use Rattle.pen.specs.declared.Pen.{Pen}
use Rattle.pen.specs.Drawing.{fresh, Fine, pending, with_runs, Drawn, Added, Flushed, Went, one, Stored}

module _ (p : Pen) (out : List ℕ) (F : Fine p) (t : Bool) (e : t ≡ eqb (value_of p.tip) 0) where
  pub flush-none : t ≡ true → Flushed p out out p.k
  unfolding put_elements
  flush-none z = record { count = rw (← e, z) (omega arith); bytes = λ _. rw (← e, z) }

  module _ (z : t ≡ false) where
    pub flush-full : max_runs ≤ p.k → Flushed p out out (p.k + 1)
    flush-full h = record { count = rw (← e, z); bytes = λ k. absurd (let y : ⊥ = omega arith in y) }

    pub flush-one : (out' : List ℕ) → out' ≡ put_fields (run_layout width) out (run_place width p.k) 0 (run_fields (record { first = p.cur; last = p.x - 1; age = p.tip })) → Flushed p out out' (p.k + 1)
    unfolding put_elements
    flush-one out' o = record { count = rw (← e, z); bytes = λ _. rw (← e, z) (subst (λ (r : Run). out' ≡ with_runs out p.k (r ∷ [])) (sym (run-age (record { first = p.cur; last = pred p.x; age = p.tip }) F.exact)) (rw sub-one at o)) }

pub fresh-fine : Fine fresh
fresh-fine = record { stored = omega arith; behind = omega arith; begun = omega (arith, value-age 0); exact = exact-age 0 }

pub drawn-fresh : (g : ℕ → ℕ) (old : List ℕ) → Drawn g old old fresh
unfolding draw put_elements
drawn-fresh g old = record { flat = λ b u v. absurd (let y : ⊥ = omega arith in y); turns = λ b e _. omega arith; count = refl; bytes = λ _. refl }

-- runs that are added to what is stored are stored with it
pub stored-added : (xs ys : List Run) {old out out' : List ℕ} {k k' : ℕ} → Stored xs old out k → Added ys k out out' k' → Stored (xs ++ ys) old out' k'
stored-added xs ys {old} {k = k} s a =
    let c = a.count in
    record {
      count = rw length-append (omega (arith, s.count));
      bytes = λ h. rw (
        map-append,
        ← put-elements-append (run_layout width) old 0 0 k (map run_fields xs) (map run_fields ys) (rw (length-map, zero-add) s.count),
        ← s.bytes (omega arith),
      ) (a.bytes h);
    }

module _ {g : ℕ → ℕ} {old out : List ℕ} (p : Pen) (F : Fine p) (d : Drawn g old out p) where
  -- what is drawn up to x
  grown : draw g 0 p.x ≡ draw g 0 p.cur ++ pending p
  grown =
      let n : ℕ = p.x - p.cur in
      let e : p.cur + n ≡ p.x = omega arith in
      ap (draw g 0) (sym e)
      ∙ draw-append g 0 p.cur n p.cur (sym (zero-add p.cur)) (λ b u v. d.turns b u (v ∙ d.flat p.cur (omega arith) (omega arith)))
      ∙ ap (λ (l : List Run). draw g 0 p.cur ++ l) (draw-flat g (value_of p.tip) p.cur p.x n e (omega arith) d.flat)

  module _ {out' : List ℕ} {k : ℕ} (f : Flushed p out out' k) where
    pub flushed : Stored (draw g 0 p.x) old out' k
    flushed = rw grown (stored-added (draw g 0 p.cur) (pending p) (record { count = d.count; bytes = d.bytes }) f)

-- there are no more runs than bytes
pub few : (p : Pen) {out out' : List ℕ} {k : ℕ} → Fine p → Flushed p out out' k → k ≤ p.x
few p {k = k} F f =
    ⊎_elim
    (λ (z : value_of p.tip ≡ 0). let c : k ≡ p.k + 0 = rw (eq-eqb (value_of p.tip) 0 z) at f.count in omega arith)
    (λ (z : value_of p.tip ≡ 0 → ⊥). let c : k ≡ p.k + 1 = rw (ne_eqb (value_of p.tip) 0 z) at f.count in omega arith)
    (same (value_of p.tip) 0)

module _ (p : Pen) (q : ℕ) (a : Age) (out : List ℕ) (F : Fine p) (x : Exact a) (h : p.x < q) (t : Bool) (e : t ≡ eqb (value_of a) (value_of p.tip)) where
  -- the age stays
  pub push-same : t ≡ true → Went p q (one (value_of a)) out out (record { k = p.k; cur = p.cur; tip = p.tip; x = q })
  push-same z =
      let s = eqb-true (value_of a) (value_of p.tip) (sym e ∙ z) in
      record {
        at = omega arith;
        fine = record { stored = F.stored; behind = omega arith; begun = omega arith; exact = F.exact };
        keeps = λ g old v d. record {
          flat = λ b u w. ⊎_elim (λ (y : b < p.x). d.flat b u y) (λ (y : p.x ≤ b). v b y w ∙ s) (below b p.x);
          turns = d.turns;
          count = d.count;
          bytes = d.bytes;
        };
      }

  -- the age turns, and what was pending is stored
  pub push-new : (out' : List ℕ) (k : ℕ) → t ≡ false → Flushed p out out' k → Went p q (one (value_of a)) out out' (record { k = k; cur = p.x; tip = a; x = q })
  push-new out' k z f =
      let n = eqb-false (value_of a) (value_of p.tip) (sym e ∙ z) in
      record {
        at = omega arith;
        fine = record { stored = few p F f; behind = omega arith; begun = omega arith; exact = x };
        keeps = λ g old v d. record {
          flat = v;
          turns = λ b u w. n (sym w ∙ d.flat b (omega arith) (omega arith));
          count = (flushed p F d f).count;
          bytes = (flushed p F d f).bytes;
        };
      }
