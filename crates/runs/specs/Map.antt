-- The map of a list of entries: "The log's map gives each byte the greatest number of an entry over it." Here it is drawn byte by byte; the
-- theorems map-owner, map-sound and sound-unique say that it is the one sound map that does so.
use Rattle.std.specs.Prelude.{ℕ, zero, suc, ◌+◌, max, Bool, cond, ◌&&◌, List, [], ◌∷◌, eqb}
use Rattle.runs.specs.declared.Run.{Run}
use Rattle.runs.specs.Owner.{age_of, run, owner}

-- Two runs that are one: the second goes on where the first ends, at the same age
abbrev pub joins : Run → Run → Bool
joins r t = eqb (r.last + 1) t.first && eqb (age_of r) (age_of t)

-- The run with b as its first byte
abbrev pub from : ℕ → Run → Run
from b r = record { first = b; last = r.last; age = r.age }

-- A run in front of runs that start after it: one run with the first of them, if they join
unfoldable pub join : Run → List Run → List Run
join r [] = r ∷ []
join r (t ∷ ts) = cond (joins r t) (from r.first t ∷ ts) (r ∷ t ∷ ts)

-- The byte b at an age, in front of runs that start after it. "A byte in no run has number 0"
unfoldable pub put : ℕ → ℕ → List Run → List Run
put b a rs = cond (eqb a 0) rs (join (run b b a) rs)

-- The n bytes from b on, each at the age that is given for it
unfoldable pub draw : (ℕ → ℕ) → ℕ → ℕ → List Run
draw ages b zero = []
draw ages b (suc n) = put b (ages b) (draw ages (suc b) n)

-- The byte after the last byte of all entries
unfoldable pub end : List Run → ℕ
end [] = 0
end (e ∷ es) = max (suc e.last) (end es)

unfoldable pub map_of : List Run → List Run
map_of es = draw (owner es) 0 (end es)

-- "raises each byte's number in the map to the piece's where that is greater": the map of the runs and the piece
abbrev pub raise : Run → List Run → List Run
raise r rs = map_of (r ∷ rs)
