-- Valid runs by their greatest last byte, their least number and their least pass: a sane age has both at least 1.
use Prim.Native.Nat.{ℕ, ◌≤◌, ◌<◌, min, max}
use mathlib.Core.Path.{◌≡◌, refl, ◌∙◌, ap}
use mathlib.Core.Logic.{⊎_elim}
use mathlib.Core.Bool.{Bool, true, false, ◌&&◌, and-true, and_assoc}
use native.Mathlib.Omega.{arith}
use lib.Dec.{leb, ltb}
use borrow.Author.Tests.{le-leb, lt-leb}
use Rattle.common.specs.Ranges.{eof}
use Rattle.common.proofs.Bools.{and-false}
use Rattle.common.proofs.Order.{below}
use Rattle.runs.specs.declared.Run.{Run}
use Rattle.runs.specs.Ages.{highest_pass}
use Rattle.runs.specs.Sound.{sane, valid}

leb-max : (a b c : ℕ) → leb (max a b) c ≡ (leb a c && leb b c)
leb-max a b c =
    ⊎_elim
    (λ (h : c < a). rw (lt-leb a c h, lt-leb (max a b) c (omega arith)))
    (λ (h : a ≤ c). ⊎_elim
    (λ (k : c < b). rw (lt-leb b c k, and-false (leb a c), lt-leb (max a b) c (omega arith)))
    (λ (k : b ≤ c). rw (le-leb a c h, le-leb b c k, le-leb (max a b) c (omega arith)))
    (below c b))
    (below c a)

leb-min : (a b c : ℕ) → leb c (min a b) ≡ (leb c a && leb c b)
leb-min a b c =
    ⊎_elim
    (λ (h : a < c). rw (lt-leb c a h, lt-leb c (min a b) (omega arith)))
    (λ (h : c ≤ a). ⊎_elim
    (λ (k : b < c). rw (lt-leb c b k, and-false (leb c a), lt-leb c (min a b) (omega arith)))
    (λ (k : c ≤ b). rw (le-leb c a h, le-leb c b k, le-leb c (min a b) (omega arith)))
    (below b c))
    (below a c)

-- two pairs of tests, by first and by second
crossed : (a b x y : Bool) → ((a && x) && (b && y)) ≡ ((a && b) && (x && y))
crossed false b x y = refl
crossed true true x y = refl
crossed true false true y = refl
crossed true false false y = refl

four : (a b c d x y z w : Bool) → ((((a && x) && (b && y)) && (c && z)) && (d && w)) ≡ ((((a && b) && c) && d) && ((x && y) && (z && w)))
four a b c d x y z w =
    ap (λ (t : Bool). (t && (c && z)) && (d && w)) (crossed a b x y)
    ∙ ap (λ (t : Bool). t && (d && w)) (crossed (a && b) c (x && y) z)
    ∙ crossed ((a && b) && c) d ((x && y) && z) w
    ∙ ap (λ (t : Bool). (((a && b) && c) && d) && t) (and_assoc (x && y) z w)

-- what is tested of the runs so far
abbrev pub so_far : Bool → ℕ → ℕ → ℕ → Bool
so_far rising last number pass = ((rising && leb last eof) && ltb 0 number) && ltb 0 pass

-- one run more, whose pass is read from its bytes
pub tally : (rising : Bool) (last number pass last' number' pass' : ℕ) (r : Run)
    → last' ≡ max last r.last → number' ≡ min number r.age.number.0 → pass' ≡ min pass r.age.pass.0 → r.age.pass.0 ≤ highest_pass
    → so_far (rising && leb r.first r.last) last' number' pass' ≡ (so_far rising last number pass && valid r)
unfolding sane
tally rising last number pass last' number' pass' r e f g h =
    rw (e, f, g, leb-max last r.last eof, leb-min number r.age.number.0 1, leb-min pass r.age.pass.0 1, le-leb r.age.pass.0 highest_pass h, and-true (leb 1 r.age.pass.0))
    (four rising (leb last eof) (ltb 0 number) (ltb 0 pass) (leb r.first r.last) (leb r.last eof) (ltb 0 r.age.number.0) (ltb 0 r.age.pass.0))
