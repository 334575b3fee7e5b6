-- The runs that a piece does not meet are drawn as they stand: what is drawn of a stretch of bytes is the runs that say its ages.
use Prim.Native.Nat.{ℕ, zero, suc, ◌+◌, ◌-◌, ◌≤◌, ◌<◌, max}
use native.Mathlib.Nat.{add-zero, zero-add, suc-add}
use native.Mathlib.Omega.{arith}
use mathlib.Core.Path.{◌≡◌, refl, sym, ◌∙◌, ap, ap₂, subst}
use mathlib.Core.Logic.{⊎_elim}
use mathlib.Core.Bool.{true}
use mathlib.Core.List.{List, [], ◌∷◌, ◌++◌, append-nil}
use lib.ListN.{length, get_or, take, drop}
use lib.Seq.{length-take-le}
use borrow.Author.Tests.{ne_eqb}
use Rattle.common.specs.Counters.{width}
use Rattle.common.specs.Ranges.{eof}
use Rattle.common.proofs.Order.{below, same}
use Rattle.xdr.specs.Be.{be}
use Rattle.xdr.specs.Array.{put_elements}
use Rattle.runs.specs.declared.Age.{Age}
use Rattle.runs.specs.declared.Run.{Run}
use Rattle.runs.specs.Ages.{value_of, age}
use Rattle.runs.specs.Owner.{age_of, run, owner}
use Rattle.runs.specs.Map.{put, draw, end, raise}
use Rattle.runs.specs.Bytes.{runs_of, sound_map_bytes}
use Rattle.runs.proofs.Over.{over-before, over-after, owner-end}
use Rattle.runs.proofs.Canon.{Canon, none, next, head, rest, canon-start, canon-before}
use Rattle.runs.proofs.Ages.{value-age, sane-exact, sane-pos}
use Rattle.runs.proofs.Draw.{by-put}
use Rattle.runs.specs.Valid.{Valid}
use Rattle.runs.proofs.Sound.{sound-canon}
use Rattle.runs.proofs.Stretch.{draw-append, map-drawn}
use Rattle.runs.proofs.Unique.{canon-drawn}
use Rattle.runbytes.specs.Places.{run_at}
use Rattle.runbytes.proofs.Places.{runs-length, runs-at, runs-from, runs-end}
use Rattle.runbytes.proofs.Facts.{map-facts, valid-at}
use Rattle.pen.specs.declared.Pen.{Pen}
use Rattle.pen.specs.Drawing.{Fine, with_runs, Drawn, Added, Flushed, Went, Stored}
use Rattle.pen.proofs.Steps.{fresh-fine, drawn-fresh, stored-added, flushed}
use Rattle.maps.specs.Untouched.{under, Begun, Ended, pen_at, start_of}
use Rattle.maps.proofs.Raising.{Left, left-all, left_in, left-next, left-turns}

draw-same : (g h : ℕ → ℕ) (b n : ℕ) → ((x : ℕ) → b ≤ x → x < b + n → g x ≡ h x) → draw g b n ≡ draw h b n
unfolding draw
draw-same g h b zero e = refl
draw-same g h b (suc n) e = ap₂ (put b) (e b (omega arith) (omega arith)) (draw-same g h (suc b) n (λ x u v. e x (omega arith) (omega arith)))

-- no byte before e has an age
draw-late : (g : ℕ → ℕ) (b m n e : ℕ) → e ≡ b + m → ((x : ℕ) → b ≤ x → x < e → g x ≡ 0) → draw g b (m + n) ≡ draw g e n
unfolding draw
draw-late g b zero n e q z = rw (zero-add, q ∙ add-zero b)
draw-late g b (suc m) n e q z =
    rw suc-add
    (by-put (λ (l : List Run). l ≡ draw g e n) b (g b) (draw g (suc b) (m + n))
    (λ _. draw-late g (suc b) m n e (omega arith) (λ x u v. z x (omega arith) v))
    (λ f. absurd (f (z b (omega arith) (omega arith)))))

-- canonical runs are what is drawn of the bytes from e on, if they say their ages and end within them
draws : {q : ℕ} (g : ℕ → ℕ) (rs : List Run) (e n : ℕ) → Canon e q rs → end rs ≤ e + n → ((b : ℕ) → e ≤ b → b < e + n → g b ≡ owner rs b) → draw g e n ≡ rs
draws g rs e n c h a =
    draw-same g (owner rs) e n a
    ∙ sym (draw-late (owner rs) 0 e n e (sym (zero-add e)) (λ b _ k. canon-before b c k))
    ∙ canon-drawn (owner rs) (e + n) rs c h (λ b. refl)

-- the runs before place j, and the byte x at which the run there starts
record Front (p q j x : ℕ) (rs fs : List Run) : Type 0 where
  few : p + j ≤ x
  canon : Canon p q fs
  ends : end fs ≤ x
  says : (b : ℕ) → b < x → owner rs b ≡ owner fs b

front : {p q : ℕ} (j : ℕ) (rs : List Run) (d : Run) → Canon p q rs → j < length rs → Front p q j (get_or rs j d).first rs (take j rs)
unfolding owner end
front j [] d c h = absurd (let z : ⊥ = omega arith in z)
front zero (r ∷ rs) d c h =
    let n = head c in
    record { few = omega arith; canon = none; ends = omega arith; says = λ b k. canon-before b (canon-start r.first r c (omega arith)) k }
front {p = p} {q = q} (suc j) (r ∷ rs) d c h =
    let n = head c in
    let f = front {p = suc r.last} {q = age_of r} j rs d (rest c) (omega arith) in
    record { few = omega (arith, f.few); canon = next n f.canon; ends = omega (arith, f.few, f.ends); says = λ b k. omega (arith, f.says b k) }

-- some runs on, what is left
record On (rs ls : List Run) : Type 0 where
  x : ℕ
  left : Left rs ls x

on : {rs : List Run} {x : ℕ} (j : ℕ) (ls : List Run) → Left rs ls x → On rs (drop j ls)
on {x = x} zero ls l = record { x = x; left = l }
on {x = x} (suc j) [] l = record { x = x; left = l }
on {x = x} (suc j) (r ∷ ls) l = on {x = r.last + 1} j ls (left-next r l)

-- of the runs that start at or before the byte x, all but the last end before it
pub begun-ended : (s : List ℕ) (x n : ℕ) → sound_map_bytes s ≡ true → Begun s 0 x n → Ended s x (n - 1)
begun-ended s x n sound b =
    let m = b.most in
    record {
      most = omega arith;
      last = λ h.
          let j : ℕ = n - 1 - 1 in
          let e : j + 1 ≡ n - 1 = omega arith in
          let l : Left (runs_of width s) (run_at s j ∷ run_at s (j + 1) ∷ drop (j + 1 + 1) (runs_of width s)) _ =
          rw (runs-from s j (omega arith), runs-from s (j + 1) (omega arith)) at (on j (runs_of width s) (left-all _ (map-facts s sound).sound)).left in
          let c = (head (rest l.canon)).after in
          let f : (run_at s (j + 1)).first ≤ x = rw e (b.first (omega arith)) in
          omega arith;
    }

-- before the piece: the pen has drawn the map's own runs
pub record Skipped (g : ℕ → ℕ) (s old out : List ℕ) (i : ℕ) (p : Pen) : Type 0 where
  pub fine : Fine p
  pub most : p.x ≤ suc eof
  pub left : Left (runs_of width s) (drop i (runs_of width s)) p.x
  pub drawn : Drawn g old out p

-- a pen with the run at place j pending is fine: no more runs stand before it than bytes
pub pending-fine : (s : List ℕ) → sound_map_bytes s ≡ true → (j : ℕ) → j < be 4 s 0 → Fine (record { k = j; cur = (run_at s j).first; tip = (run_at s j).age; x = (run_at s j).last + 1 })
pending-fine s sound j h =
    let m = map-facts s sound in
    let rs : List Run = runs_of width s in
    let v = valid-at s j h m.good in
    let q = sane-pos (run_at s j).age v.some in
    let f : Front 0 0 j (run_at s j).first rs (take j rs) = rw (runs-at s j h (run 0 0 0)) at (front j rs (run 0 0 0) (sound-canon rs m.sound) (rw runs-length h)) in
    record { stored = omega (arith, f.few); behind = omega arith; begun = omega arith; exact = sane-exact (run_at s j).age v.some }

module _ (s old : List ℕ) (piece : Run) (sound : sound_map_bytes s ≡ true) where
  -- the run at place j is pending
  pending-at : (j : ℕ) → j < be 4 s 0 → (run_at s j).last < piece.first
      → Skipped (owner (piece ∷ runs_of width s)) s old (with_runs old 0 (take j (runs_of width s))) (j + 1) (record { k = j; cur = (run_at s j).first; tip = (run_at s j).age; x = (run_at s j).last + 1 })
  unfolding owner
  pending-at j h k =
      let m = map-facts s sound in
      let rs : List Run = runs_of width s in
      let r : Run = run_at s j in
      let c = sound-canon rs m.sound in
      let v = valid-at s j h m.good in
      let o = on j rs (left-all rs m.sound) in
      let l : Left rs (r ∷ drop (j + 1) rs) o.x = rw (runs-from s j h) at o.left in
      let f : Front 0 0 j r.first rs (take j rs) = rw (runs-at s j h (run 0 0 0)) at (front j rs (run 0 0 0) c (rw runs-length h)) in
      let e : draw (owner (piece ∷ rs)) 0 r.first ≡ take j rs =
      draws (owner (piece ∷ rs)) (take j rs) 0 r.first f.canon (omega (arith, f.ends)) (λ b _ u. omega (arith, over-before piece b (omega arith), f.says b (omega arith))) in
      record {
        fine = pending-fine s sound j h;
        most = omega arith;
        left = left-next r l;
        drawn = record {
          flat = λ b u w. omega (arith, over-before piece b (omega arith), left_in r l b u (omega arith));
          turns = λ b u w. left-turns r l b u (omega (arith, over-before piece b (omega arith)));
          count = rw (e, length-take-le j rs (rw runs-length (omega arith)));
          bytes = λ _. rw e;
        };
      }

  pub skipped : (i : ℕ) → i ≤ be 4 s 0 → (0 < i → (run_at s (i - 1)).last < piece.first)
      → Skipped (owner (piece ∷ runs_of width s)) s old (with_runs old 0 (take (i - 1) (runs_of width s))) i (pen_at s i)
  unfolding put_elements
  skipped i h k =
      ⊎_elim
      (λ (z : i ≡ 0).
      subst (λ (i : ℕ). Skipped (owner (piece ∷ runs_of width s)) s old (with_runs old 0 (take (i - 1) (runs_of width s))) i (pen_at s i)) (sym z)
      (record { fine = fresh-fine; most = omega arith; left = left-all _ (map-facts s sound).sound; drawn = drawn-fresh _ old }))
      (λ (z : i ≡ 0 → ⊥). let e : i - 1 + 1 ≡ i = omega arith in rw (ne_eqb i 0 z) (rw e at (pending-at (i - 1) (omega arith) (k (omega arith)))))
      (same i 0)

-- after the piece: the runs that are left start past the byte after it
abbrev pub After : Run → List Run → Type 0
After piece [] = Unit {0}
After piece (t ∷ ts) = piece.last + 1 < t.first

pub after-at : (piece : Run) (s : List ℕ) (i : ℕ) → (i < be 4 s 0 → piece.last + 1 < (run_at s i).first) → After piece (drop i (runs_of width s))
after-at piece s i h =
    ⊎_elim (λ (k : i < be 4 s 0). rw (runs-from s i k) (h k)) (λ (k : be 4 s 0 ≤ i). rw (runs-end s i k) tt) (below i (be 4 s 0))

-- from x on no run is over a byte before the runs that are left
gap : {rs : List Run} {x : ℕ} (ts : List Run) (b : ℕ) → Left rs ts x → x ≤ b → b < start_of ts → owner rs b ≡ 0
unfolding owner
gap [] b l h k = l.agree b h
gap (t ∷ ts) b l h k = l.agree b h ∙ canon-before b (canon-start t.first t l.canon (omega arith)) k

module _ (piece : Run) (rs : List Run) (v : Valid piece) where
  raised_is : (ts : List Run) (x y : ℕ) → After piece ts → Left rs ts x → y ≡ max x (start_of ts) → raise piece rs ≡ draw (owner (piece ∷ rs)) 0 y ++ ts
  unfolding owner
  raised_is [] x y a l e =
      map-drawn (piece ∷ rs) y (λ b h. omega (arith, l.agree b (omega arith), over-after piece b (omega arith))) ∙ sym (append-nil (draw (owner (piece ∷ rs)) 0 y))
  raised_is (t ∷ ts) x y a l e =
      let n = head l.canon in
      let m : ℕ = end (t ∷ ts) in
      let g : ℕ → ℕ = owner (piece ∷ rs) in
      let d : y ≡ t.first = omega arith in
      rw d
      (map-drawn (piece ∷ rs) (t.first + m) (λ b h. omega (arith, l.agree b (omega arith), owner-end (t ∷ ts) b (omega arith), over-after piece b (omega arith)))
      ∙ draw-append g 0 t.first m t.first (sym (zero-add t.first))
      (λ b u w. left-turns t l b u (omega (arith, over-after piece b (omega arith), over-after piece t.first (omega arith), left_in t l t.first (omega arith) (omega arith))))
      ∙ ap (λ (l : List Run). draw g 0 t.first ++ l)
      (draws g (t ∷ ts) t.first m (canon-start t.first t l.canon (omega arith)) (omega arith) (λ b u _. omega (arith, l.agree b (omega arith), over-after piece b (omega arith)))))

  pub raise-done : (ts : List Run) (p p1 : Pen) (old o o1 o2 o3 : List ℕ) (z : Age) (k n : ℕ) → After piece ts → Left rs ts p.x → Drawn (owner (piece ∷ rs)) old o p → z ≡ age 0
      → Went p (start_of ts) (under piece (value_of z)) o o1 p1 → Flushed p1 o1 o2 k → Added ts k o2 o3 n → Stored (raise piece rs) old o3 n
  unfolding owner
  raise-done ts p p1 old o o1 o2 o3 z k n a l d e w f t =
      let y : value_of z ≡ 0 = ap value_of e ∙ value-age 0 in
      rw (raised_is ts p.x p1.x a l w.at)
      (stored-added (draw (owner (piece ∷ rs)) 0 p1.x) ts (flushed p1 w.fine (w.keeps (owner (piece ∷ rs)) old (λ b i j. omega (arith, gap ts b l i j)) d) f) t)
