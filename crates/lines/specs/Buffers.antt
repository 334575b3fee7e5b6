-- What is kept of a line.
use Rattle.std.specs.Prelude.{ℕ, ◌+◌, ◌≤◌, ◌<◌, ◌≡◌, Bool, cond, List, [], ◌∷◌, ◌⊎◌, length, take, Some, None}
use Rattle.std.specs.declared.option.Option.{Option}
use Rattle.locks.specs.declared.Message.{Message}
use Rattle.line.specs.Format.{longest, read_line}
use Rattle.lines.specs.Lines.{bare, lines_in, left}

-- The bytes q are kept of the line p: all of it, or enough to know that it is too long, even without the CR of its break
abbrev pub Keeps : List ℕ → List ℕ → Type 0
Keeps q p = (q ≡ p) ⊎ ((longest + 2 ≤ length q) × (longest + 2 ≤ length p))

-- Whatever line the bytes q keep, r is what it says, with its break or, as the last line, without one
abbrev pub Saying : Bool → List ℕ → Option Message → Type 0
Saying last q r = (p : List ℕ) → Keeps q p → r ≡ read_line (cond last p (bare p))

-- In the piece s, behind p, a line ends at the last byte, or none does; the bytes q are kept of it
pub record Gathered (p s q : List ℕ) (whole : Bool) : Type 0 where
  pub line : List ℕ
  pub keeps : Keeps q line
  pub ends : lines_in p s ≡ cond whole (bare line ∷ []) []
  pub rest : left p s ≡ cond whole [] line

-- Whatever line is kept before, the first n bytes of the piece s are gathered behind it
pub record Gathers (s before after : List ℕ) (n : ℕ) (whole : Bool) : Type 0 where
  pub within : n ≤ length s
  pub onward : 0 < length s → 0 < n
  pub gathered : (p : List ℕ) → Keeps before p → Gathered p (take n s) after whole

-- How much of a piece is taken: up to the break, if it was met, and else all
abbrev pub taken : Option ℕ → List ℕ → ℕ
taken None s = length s
taken (Some n) s = n
