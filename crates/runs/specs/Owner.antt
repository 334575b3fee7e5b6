-- What a list of runs says of each byte. Document 01 says it of numbers; by document 02, #103, it is said of pairs, and here of their ages.
use Rattle.std.specs.Prelude.{ℕ, max, cond, List, [], ◌∷◌}
use Rattle.common.specs.Ranges.{within}
use Rattle.runs.specs.declared.Run.{Run}
use Rattle.runs.specs.Ages.{value_of, age}

-- By what a run is judged
abbrev pub age_of : Run → ℕ
age_of r = value_of r.age

-- The bytes first to last at an age
abbrev pub run : ℕ → ℕ → ℕ → Run
run first last a = record { first = first; last = last; age = age a }

-- The age that a run gives a byte: 0 outside
unfoldable pub over : Run → ℕ → ℕ
over r b = cond (within r.first b r.last) (age_of r) 0

-- "the greatest number of an entry over it". "A byte in no run has number 0"
unfoldable pub owner : List Run → ℕ → ℕ
owner [] b = 0
owner (r ∷ rs) b = max (over r b) (owner rs b)
