-- A map that is drawn over zeros and counted is the map's bytes.
use Prim.Native.Nat.{ℕ, ◌≤◌}
use mathlib.Core.Path.{◌≡◌}
use mathlib.Core.List.{List}
use lib.ListN.{replicate, length-map}
use Rattle.common.specs.Counters.{width}
use Rattle.xdr.specs.Be.{put_be}
use Rattle.xdr.specs.Array.{put_array}
use Rattle.runs.specs.declared.Run.{Run}
use Rattle.runs.specs.Sound.{max_runs}
use Rattle.runs.specs.Bytes.{map_size, map_bytes}
use Rattle.pen.specs.Drawing.{Stored}

pub filled : (rs : List Run) (s : List ℕ) (k : ℕ) → Stored rs (replicate (map_size width) 0) s k → k ≤ max_runs → put_be 4 s 0 k ≡ map_bytes width rs
unfolding map_bytes put_array
filled rs s k d h = rw (length-map, ← d.count, ← d.bytes h)
