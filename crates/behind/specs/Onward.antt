-- How the test of refusal 18 goes over a map, run by run. No public contract cites this file.
use Rattle.std.specs.Prelude.{ℕ, ◌+◌, ◌&&◌, cond, leb}
use Rattle.common.specs.Ranges.{within}
use Rattle.runs.specs.declared.Run.{Run}
use Rattle.runs.specs.Owner.{age_of}

-- The byte to ask about after b: the one past the run, if the run is over b and not older
unfoldable pub onward : Run → ℕ → ℕ → ℕ
onward r age b = cond (within r.first b r.last && leb age (age_of r)) (r.last + 1) b
