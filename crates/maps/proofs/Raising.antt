-- A map raised by a piece: the runs that are left say what the map says from x on, so each run, and the gap before it, is drawn by itself.
use Prim.Native.Nat.{ℕ, suc, ◌+◌, ◌≤◌, ◌<◌, min, max}
use native.Mathlib.Numerals.{add-one}
use native.Mathlib.Omega.{arith}
use mathlib.Core.Path.{◌≡◌, refl, sym, ◌∙◌, ap, subst}
use mathlib.Core.Logic.{⊎_elim}
use mathlib.Core.Bool.{true}
use mathlib.Core.List.{List, [], ◌∷◌}
use Rattle.common.proofs.Order.{below}
use Rattle.runs.specs.declared.Age.{Age}
use Rattle.runs.specs.declared.Run.{Run}
use Rattle.runs.specs.Ages.{value_of, age}
use Rattle.runs.specs.Owner.{age_of, owner}
use Rattle.runs.specs.Sound.{sound_map}
use Rattle.runs.proofs.Ages.{value-age}
use Rattle.runs.proofs.Over.{over-before, over-in, over-after, owner-after}
use Rattle.runs.proofs.Canon.{Canon, head, rest, canon-start, canon-before, canon-head}
use Rattle.runs.specs.Valid.{Valid}
use Rattle.runs.proofs.Sound.{sound-canon}
use Rattle.pen.specs.declared.Pen.{Pen}
use Rattle.pen.specs.Drawing.{Drawn, Went, one}
use Rattle.maps.specs.Untouched.{under}

-- two steps to the right
further : (x x1 x2 q1 q2 : ℕ) → x1 ≡ max x q1 → x2 ≡ max x1 q2 → q1 ≤ q2 → x2 ≡ max x q2
further x x1 x2 q1 q2 e1 e2 h = omega arith

-- up to before the piece, or after it
module _ (p p1 : Pen) (o o1 : List ℕ) (q m : ℕ) (piece : Run) (w : Went p q (one m) o o1 p1) where
  pub span-before : q ≤ piece.first → Went p q (under piece m) o o1 p1
  span-before h = record { at = w.at; fine = w.fine; keeps = λ g old s. w.keeps g old (λ b i j. s b i j ∙ omega (arith, over-before piece b (omega arith))) }

  pub span-after : piece.last < p.x → Went p q (under piece m) o o1 p1
  span-after h = record { at = w.at; fine = w.fine; keeps = λ g old s. w.keeps g old (λ b i j. s b i j ∙ omega (arith, over-after piece b (omega arith))) }

-- before, inside and after the piece
pub cross-went :
    (p p1 p2 p3 : Pen) (o o1 o2 o3 : List ℕ) (q q1 q2 : ℕ) (m a : Age) (piece : Run) → Valid piece → q1 ≡ min q piece.first → q2 ≡ min q (piece.last + 1)
    → a ≡ age (max (age_of piece) (value_of m)) → Went p q1 (one (value_of m)) o o1 p1 → Went p1 q2 (one (value_of a)) o1 o2 p2 → Went p2 q (one (value_of m)) o2 o3 p3
    → Went p q (under piece (value_of m)) o o3 p3
cross-went p p1 p2 p3 o o1 o2 o3 q q1 q2 m a piece v e1 e2 e3 w1 w2 w3 =
    let n : value_of a ≡ max (age_of piece) (value_of m) = ap value_of e3 ∙ value-age (max (age_of piece) (value_of m)) in
    let a1 = w1.at in
    let a2 = w2.at in
    let a3 = w3.at in
    record {
      at = omega arith;
      fine = w3.fine;
      keeps = λ g old s d.
          w3.keeps g old (λ b i j. s b (omega arith) j ∙ omega (arith, over-after piece b (omega arith)))
          (w2.keeps g old (λ b i j. s b (omega arith) (omega arith) ∙ omega (arith, over-in piece b (omega arith) (omega arith)))
          (w1.keeps g old (λ b i j. s b i (omega arith) ∙ omega (arith, over-before piece b (omega arith))) d));
    }

-- the gap before a run, and the run
pub run-went :
    (p p1 p2 : Pen) (o o1 o2 : List ℕ) (z : Age) (r piece : Run) → Valid r → z ≡ age 0 → Went p r.first (under piece (value_of z)) o o1 p1 → Went p1 (r.last + 1) (under piece (age_of r)) o1 o2 p2
    → Went p (r.last + 1) (owner (piece ∷ r ∷ [])) o o2 p2
unfolding owner
run-went p p1 p2 o o1 o2 z r piece v e w1 w2 =
    let n : value_of z ≡ 0 = ap value_of e ∙ value-age 0 in
    let a1 = w1.at in
    record {
      at = further p.x p1.x p2.x r.first (r.last + 1) a1 w2.at (omega arith);
      fine = w2.fine;
      keeps = λ g old s d.
          w2.keeps g old (λ b i j. s b (omega arith) j ∙ omega (arith, over-in r b (omega arith) (omega arith)))
          (w1.keeps g old (λ b i j. s b i (omega arith) ∙ omega (arith, over-before r b (omega arith))) d);
    }

-- the runs that are left say what the map says from x on, and the byte before x has another age than a run that starts there
pub record Left (rs left : List Run) (x : ℕ) : Type 0 where
  pub age : ℕ
  pub canon : Canon x age left
  pub said : (b : ℕ) → suc b ≡ x → owner rs b ≡ age
  pub agree : (b : ℕ) → x ≤ b → owner rs b ≡ owner left b

pub left-all : (rs : List Run) → sound_map rs ≡ true → Left rs rs 0
left-all rs e = record { age = 0; canon = sound-canon rs e; said = λ b e. absurd (let z : ⊥ = omega arith in z); agree = λ b h. refl }

module _ {rs left : List Run} {x : ℕ} (r : Run) (l : Left rs (r ∷ left) x) where
  pub left_in : (b : ℕ) → r.first ≤ b → b ≤ r.last → owner rs b ≡ age_of r
  left_in b h k = let n = head l.canon in l.agree b (omega arith) ∙ canon-head b l.canon h k

  pub left-next : Left rs left (r.last + 1)
  left-next =
      let n = head l.canon in
      record {
        age = age_of r;
        canon = rw (add-one r.last) (rest l.canon);
        said = λ b e. left_in b (omega arith) (omega arith);
        agree = λ b h. l.agree b (omega arith) ∙ owner-after r left b (omega arith);
      }

  -- the ages turn where a run starts
  pub left-turns : (b : ℕ) → suc b ≡ r.first → owner rs b ≡ age_of r → ⊥
  left-turns b e f =
      let n = head l.canon in
      ⊎_elim
      (λ (h : b < x). n.other (omega arith) (sym f ∙ l.said b (omega arith)))
      (λ (h : x ≤ b). let z = l.agree b h in let y = canon-before b (canon-start r.first r l.canon (omega arith)) (omega arith) in omega arith)
      (below b x)

-- one run is drawn
pub raise-more : (piece : Run) (rs : List Run) (p p1 : Pen) (o o1 : List ℕ) (r : Run) (left : List Run) → Went p (r.last + 1) (owner (piece ∷ r ∷ [])) o o1 p1 → Left rs (r ∷ left) p.x
    → Left rs left p1.x × ((old : List ℕ) → Drawn (owner (piece ∷ rs)) old o p → Drawn (owner (piece ∷ rs)) old o1 p1)
unfolding owner
raise-more piece rs p p1 o o1 r left w l =
    let n = head l.canon in
    let a = w.at in
    let e : r.last + 1 ≡ p1.x = omega arith in (
      subst (Left rs left) e (left-next r l),
      λ old. w.keeps (owner (piece ∷ rs)) old (λ b i j. omega (arith, l.agree b i, canon-before b (rest l.canon) (omega arith))),
    )
