-- Pieces: what a holder flushes. A note is told a piece's extent, and a write is lent its bytes too.
use Rattle.std.specs.Prelude.{ℕ, pred, ◌+◌, List, length}
use Rattle.runs.specs.declared.Run.{Run}
use Rattle.runs.specs.Ages.{pair}
use Rattle.stripe.specs.declared.Extent.{Extent}

-- What is told of a piece: "the piece's first byte, length, number", and its pass
abbrev pub extent : ℕ → ℕ → ℕ → ℕ → Extent
extent first len n p = record { first = first; len = len; age = pair n p }

-- Its place: its bytes from the first on, at its age
abbrev pub place : Extent → Run
place e = record { first = e.first; last = pred (e.first + e.len); age = e.age }

-- A piece: its first byte, its bytes, its number and its pass. Two pieces with all four alike are one piece
pub record Piece : Type 0 where
  pub first : ℕ
  pub bytes : List ℕ
  pub number : ℕ
  pub pass : ℕ

abbrev pub piece : ℕ → List ℕ → ℕ → ℕ → Piece
piece first bytes number pass = record { first = first; bytes = bytes; number = number; pass = pass }

abbrev pub extent_of : Piece → Extent
extent_of p = extent p.first (length p.bytes) p.number p.pass

abbrev pub place_of : Piece → Run
place_of p = place (extent_of p)
