-- A loop over the places of a sound map: at each place a valid run stands in front of those left.
use Prim.Native.Nat.{ℕ, ◌+◌, ◌≤◌, ◌<◌}
use mathlib.Core.Path.{◌≡◌}
use mathlib.Core.Bool.{true}
use mathlib.Core.List.{List, ◌∷◌}
use native.Mathlib.Omega.{arith}
use lib.ListN.{length, drop}
use Rattle.common.specs.Counters.{width}
use Rattle.xdr.specs.Be.{be}
use Rattle.runs.specs.Bytes.{run_place, runs_of, sound_map_bytes}
use Rattle.runs.proofs.OneByOne.{Rises, rises}
use Rattle.runs.proofs.Sound.{sound-canon}
use Rattle.runs.specs.Valid.{Valid}
use Rattle.runbytes.specs.Places.{run_at}
use Rattle.runbytes.proofs.Places.{runs-from}
use Rattle.runbytes.proofs.Facts.{map-facts, valid-at}

module _ (s : List ℕ) (i : ℕ) (sound : sound_map_bytes s ≡ true) (h : i < be 4 s 0) where
  pub room : run_place width (i + 1) ≤ length s
  room = let f = map-facts s sound in omega arith

  pub valid-here : Valid (run_at s i)
  valid-here = valid-at s i h (map-facts s sound).good

  pub rises-here : Rises (run_at s i ∷ drop (i + 1) (runs_of width s))
  rises-here = rw (runs-from s i h) at (rises i (runs_of width s) (sound-canon (runs_of width s) (map-facts s sound).sound))
