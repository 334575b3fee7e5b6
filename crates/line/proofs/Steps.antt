-- The readers at what is left of a line: its first byte and what is left behind it, or nothing.
use Prim.Native.Nat.{ℕ, ◌+◌, ◌*◌, ◌-◌, ◌≤◌, ◌<◌}
use Prim.Native.Char.{code}
use mathlib.Core.Path.{◌≡◌, refl}
use mathlib.Core.Bool.{Bool, true, false, cond, ◌&&◌}
use mathlib.Core.List.{List, [], ◌∷◌}
use native.Mathlib.Omega.{arith}
use lib.Dec.{leb}
use lib.ListN.{length}
use borrow.Author.Tests.{lt-ltb, le-ltb, le-leb, lt-leb, leb-true, ne_eqb}
use Rattle.std.specs.Prelude.{Some, None}
use Rattle.line.specs.Format.{right, wrong, largest, digit_of, read_digits, read_number, read_field}
use Rattle.line.specs.Fields.{digit_in}

-- a digit, or none
digit_none : (b : ℕ) → None ≡ digit_in b → 9 < digit_of b
digit_none b = go (leb 48 b) (leb b 57)
  where
    go : (x y : Bool) → None ≡ cond (x && y) (Some (b - 48)) None → 9 < cond (x && y) (b - 48) 10
    go true true e = absurd (let z : ⊥ = cc in z)
    go true false e = omega arith
    go false y e = omega arith

digit-some : (b d : ℕ) → Some d ≡ digit_in b → (digit_of b ≡ d) × (d ≤ 9)
digit-some b d = go (leb 48 b) (leb b 57) refl
  where
    go : (x y : Bool) → leb b 57 ≡ y → Some d ≡ cond (x && y) (Some (b - 48)) None → (cond (x && y) (b - 48) 10 ≡ d) × (d ≤ 9)
    go true true e f = let l = leb-true b 57 e in let g : b - 48 ≡ d = cc in (g, omega arith)
    go true false e f = absurd (let z : ⊥ = cc in z)
    go false y e f = absurd (let z : ⊥ = cc in z)

-- nothing is left
module _ (s : List ℕ) (h : length s ≡ 0) where
  none-left : s ≡ []
  none-left = go s h
    where
      go : (t : List ℕ) → length t ≡ 0 → t ≡ []
      go [] e = refl
      go (b ∷ t) e = absurd (let z : ⊥ = omega arith in z)

  pub digits-end : (v : ℕ) → right v s ≡ read_digits v s
  unfolding read_digits
  digits-end v = rw none-left

  pub number-end : wrong ≡ read_number s
  unfolding read_number
  number-end = rw none-left

  pub field_end : wrong ≡ read_field s
  unfolding read_field
  field_end = rw none-left

-- a byte is left, and s behind it
module _ {l : List ℕ} (b : ℕ) (s : List ℕ) (q : l ≡ b ∷ s) where
  module _ (e : None ≡ digit_in b) where
    pub digits-stop : (v : ℕ) → right v l ≡ read_digits v l
    unfolding read_digits
    digits-stop v = rw (q, lt-ltb 9 (digit_of b) (digit_none b e))

    pub number-none : wrong ≡ read_number l
    unfolding read_number
    number-none = rw (q, lt-ltb 9 (digit_of b) (digit_none b e))

  module _ {d : ℕ} (e : Some d ≡ digit_in b) where
    pub digits-over : (v : ℕ) → largest < v * 10 + d → wrong ≡ read_digits v l
    unfolding read_digits
    digits-over v h = let k = digit-some b d e in rw (q, k.0, le-ltb 9 d k.1, lt-leb (v * 10 + d) largest h)

    pub digits_more : (v : ℕ) → v * 10 + d ≤ largest → read_digits (v * 10 + d) s ≡ read_digits v l
    unfolding read_digits
    digits_more v h = let k = digit-some b d e in rw (q, k.0, le-ltb 9 d k.1, le-leb (v * 10 + d) largest h)

    pub number-zero : d ≡ 0 → right 0 s ≡ read_number l
    unfolding read_number
    number-zero p = let k = digit-some b d e in rw (q, k.0, p)

    pub number_more : (d ≡ 0 → ⊥) → read_digits d s ≡ read_number l
    unfolding read_number
    number_more n = let k = digit-some b d e in rw (q, k.0, le-ltb 9 d k.1, ne_eqb d 0 n)

  pub field-other : (b ≡ code "," → ⊥) → wrong ≡ read_field l
  unfolding read_field
  field-other n = rw (q, ne_eqb b (code ",") n)

  pub field-comma : b ≡ code "," → read_number s ≡ read_field l
  unfolding read_field
  field-comma e = rw (q, e)
