-- What is kept of a line says what the line says: either it is the line, or both are too long, the CR of the break aside.
use Prim.Native.Nat.{ℕ, suc, ◌+◌, ◌-◌, ◌≤◌}
use Prim.Native.Char.{code}
use mathlib.Core.Path.{◌≡◌, refl, sym, ap, ◌∙◌}
use mathlib.Core.Bool.{Bool, true, false, cond, ◌&&◌}
use mathlib.Core.List.{List, [], ◌∷◌}
use mathlib.Core.Logic.{inl, inr}
use native.Mathlib.Omega.{arith}
use lib.Dec.{eqb}
use lib.Pointwise.{pointwise}
use lib.ListN.{length, get_or, take, drop, length-take, drop_of_length-le}
use lib.Seq.{drop-cons}
use denote.Bor.{Bor}
use Rattle.std.specs.Prelude.{Some, None, MatchOption}
use Rattle.std.specs.Option.{unwrap_or}
use Rattle.std.specs.declared.option.Option.{Option}
use Rattle.line.specs.Format.{read_line}
use Rattle.lines.specs.Lines.{bare}
use Rattle.lines.specs.Buffers.{Keeps}
use Rattle.line.proofs.Letters.{line-long}

length-bare : (p : List ℕ) → length p ≤ length (bare p) + 1
length-bare p = go (eqb (get_or p (length p - 1) 0) (code "\r"))
  where
    go : (b : Bool) → length p ≤ length (cond b (take (length p - 1) p) p) + 1
    go true = simp length-take (omega arith)
    go false = omega arith

pub keeps-read : (q p : List ℕ) → Keeps q p → read_line q ≡ read_line p
keeps-read q p (inl e) = ap read_line e
keeps-read q p (inr h) = sym (line-long q (omega arith)) ∙ line-long p (omega arith)

pub keeps-bare : (q p : List ℕ) → Keeps q p → read_line (bare q) ≡ read_line (bare p)
keeps-bare q p (inl e) = ap (λ (l : List ℕ). read_line (bare l)) e
keeps-bare q p (inr h) =
    sym (line-long (bare q) (omega (arith, length-bare q))) ∙ line-long (bare p) (omega (arith, length-bare p))

-- the CR that is the last of some bytes is stripped
last_at : (q : List ℕ) (n : ℕ) → n + 1 ≡ length q → pointwise eqb (drop n q) (code "\r" ∷ []) ≡ eqb (get_or q n 0) (code "\r")
last_at q n h = rw (drop-cons q n 0 (omega arith), drop_of_length-le q {i = suc n} (omega arith)) (and-true (eqb (get_or q n 0) (code "\r")))
  where
    and-true : (x : Bool) → x && true ≡ x
    and-true true = refl
    and-true false = refl

last-is : (q : List ℕ) → pointwise eqb (drop (length q - 1) q) (code "\r" ∷ []) ≡ eqb (get_or q (length q - 1) 0) (code "\r")
last-is [] = refl
last-is (b ∷ s) = last_at (b ∷ s) (length (b ∷ s) - 1) (omega arith)

module _ (b : Bor (List ℕ)) where
  abbrev last : Bool
  last = pointwise eqb (drop (length b.now - 1) b.now) (code "\r" ∷ [])

  pub stripped : (r : Option (Bor (List ℕ)))
      → MatchOption r (last ≡ false) (λ x. (last ≡ true) × (x.now ≡ take (length b.now - 1) b.now) × (length x.now + 1 ≡ length b.now))
      → (unwrap_or r b).now ≡ bare b.now
  stripped None h = rw (sym (last-is b.now) ∙ h) refl
  stripped (Some x) h = rw (sym (last-is b.now) ∙ h.0) h.1
