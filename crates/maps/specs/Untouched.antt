-- A map raised by a piece: the ages under it, and the runs that it leaves as they are. What the functions that raise a map promise each other; no public contract cites this file.
use Rattle.std.specs.Prelude.{ℕ, suc, ◌+◌, ◌-◌, ◌≤◌, ◌<◌, max, cond, List, [], ◌∷◌, eqb}
use Rattle.common.specs.Ranges.{eof}
use Rattle.xdr.specs.Be.{be}
use Rattle.runs.specs.declared.Run.{Run}
use Rattle.runs.specs.Owner.{over}
use Rattle.runbytes.specs.Places.{run_at}
use Rattle.pen.specs.declared.Pen.{Pen}
use Rattle.pen.specs.Drawing.{fresh}

-- the age m under a piece
abbrev pub under : Run → ℕ → ℕ → ℕ
under r m b = max (over r b) m

-- from the place `from` on, the runs up to before place k start at or before the byte x, and the run at place k after it
pub record Begun (s : List ℕ) (from x k : ℕ) : Type 0 where
  pub least : from ≤ k
  pub most : k ≤ be 4 s 0
  pub first : from < k → (run_at s (k - 1)).first ≤ x
  pub after : k < be 4 s 0 → x < (run_at s k).first

-- the run before place k ends before the byte x
pub record Ended (s : List ℕ) (x k : ℕ) : Type 0 where
  pub most : k ≤ be 4 s 0
  pub last : 0 < k → (run_at s (k - 1)).last < x

-- the pen that has drawn the runs before place i: the last of them is pending
abbrev pub pen_at : List ℕ → ℕ → Pen
pen_at s i = cond (eqb i 0) fresh (record { k = i - 1; cur = (run_at s (i - 1)).first; tip = (run_at s (i - 1)).age; x = (run_at s (i - 1)).last + 1 })

-- the byte at which runs start: past EOF where there are none
abbrev pub start_of : List Run → ℕ
start_of [] = suc eof
start_of (r ∷ rs) = r.first
