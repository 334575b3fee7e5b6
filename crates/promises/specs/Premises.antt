-- DEMAND 3'S PREMISES CAN BE MET, so that demand 3 and the seam speak of something: from any empty log, the run of two passes under one number with the
-- first resent last has them all.
use Rattle.std.specs.Prelude.{ℕ, ◌≡◌, List, [], ◌∷◌, replicate}
use Rattle.stripe.specs.Piece.{piece}
use Rattle.promises.specs.Run.{Piece, EmptyLog, begin, Step, note, write, noted}
use Rattle.promises.specs.Examples.{dots}
use Rattle.promises.specs.Seam.{Flushes}

-- `aaaa` at 2 in the first pass of number 1, and over its end `bbb` in the second
abbrev pub first : Piece
first = piece 2 (replicate 4 97) 1 1

abbrev pub second : Piece
second = piece 3 (replicate 3 98) 1 2

abbrev pub resent : List Step
resent = note first ∷ write first ∷ note second ∷ write second ∷ note first ∷ write first ∷ []

abbrev pub Met : Type 0
Met = (log : List ℕ) → EmptyLog log → Flushes log dots resent × (noted (begin log dots) resent ≡ first ∷ second ∷ first ∷ [])
