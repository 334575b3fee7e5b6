-- THE PROGRAM AS A WHOLE. A run reads its input in pieces, cut in any way. What is left of a piece goes to `feed`, until nothing is left of it; then
-- the next is read; at the end of the input comes `end`. What these put down is written, one after the other. Each input has a run, however it is
-- cut, and each run of it writes `written` of it: the answers to its lines, on one table from empty.
-- No contract can say what a program reads or writes: that the loops around `feed` and `end` make such a run, while no write fails and in fewer
-- than 2^64 reads, is seen in crates/lockline/src/main.rt.
use Rattle.std.specs.Prelude.{ℕ, ◌<◌, ◌≡◌, true, List, [], ◌∷◌, ◌++◌, length, drop, replicate}
use Rattle.common.specs.Counters.{width}
use Rattle.xdr.specs.Be.{Bytes}
use Rattle.table.specs.Bytes.{table_size, sound_table_bytes}
use Rattle.session.specs.Session.{written}
use Rattle.session.specs.Buffers.{Feeds, Ends}

-- From what is kept of a line and the bytes of a table: the pieces that are still to be taken, and what is written
pub data Run : List ℕ → List ℕ → List (List ℕ) → List ℕ → Type 0 where
  end : {line table out : List ℕ} → Ends line table out → Run line table [] out
  read : {line table output : List ℕ} {pieces : List (List ℕ)} → Run line table pieces output → Run line table ([] ∷ pieces) output
  feed : {piece line line' table table' out output : List ℕ} {pieces : List (List ℕ)} {n : ℕ}
      → 0 < length piece → Feeds piece line table n line' table' out → Run line' table' (drop n piece ∷ pieces) output
      → Run line table (piece ∷ pieces) (out ++ output)

-- The input that is cut into these pieces
abbrev pub joined : List (List ℕ) → List ℕ
joined [] = []
joined (s ∷ ss) = s ++ joined ss

-- "starts with the empty table", all zeros, and with nothing of a line
abbrev pub start : List ℕ
start = replicate (table_size width) 0

pub record Whole : Type 0 where
  pub some : (pieces : List (List ℕ)) → Run [] start pieces (written (joined pieces))
  pub only : (pieces : List (List ℕ)) (output : List ℕ) → Run [] start pieces output → output ≡ written (joined pieces)
  -- No run is ever stuck: with whatever is kept of a line, and on any sound table, as each call of `feed` leaves them, it goes on to the end of
  -- its input
  pub goes_on : (pieces : List (List ℕ)) {line table : List ℕ} → sound_table_bytes table ≡ true → Bytes table
      → (output : List ℕ) × Run line table pieces output
