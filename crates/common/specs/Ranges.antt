-- Ranges of bytes. They include both ends.
use Rattle.std.specs.Prelude.{ℕ, Bool, ◌&&◌, leb}

-- EOF is 9,223,372,036,854,775,807
abbrev pub eof : ℕ
eof = 9223372036854775807

-- a ≤ x ≤ b
abbrev pub within : ℕ → ℕ → ℕ → Bool
within a x b = leb a x && leb x b

-- A valid range: neither first above last, nor last above EOF
abbrev pub range : ℕ → ℕ → Bool
range first last = leb first last && leb last eof

-- The ranges [a, b] and [c, d] have a byte in common
abbrev pub overlap : ℕ → ℕ → ℕ → ℕ → Bool
overlap a b c d = leb a d && leb c b
