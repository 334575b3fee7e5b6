-- A loop over the places of a sound map: the runs left decide over the bytes left as the whole.
use Prim.Native.Nat.{ℕ, ◌+◌, ◌-◌, ◌≤◌, ◌<◌}
use mathlib.Core.Path.{◌≡◌, sym, ◌∙◌}
use mathlib.Core.Bool.{Bool, true}
use mathlib.Core.List.{List}
use native.Mathlib.Omega.{arith}
use lib.Dec.{ltb}
use lib.ListN.{drop}
use Rattle.common.specs.Counters.{width}
use Rattle.xdr.specs.Be.{be}
use Rattle.runs.specs.Bytes.{runs_of, sound_map_bytes}
use Rattle.runbytes.specs.Places.{run_at}
use Rattle.runbytes.proofs.Places.{runs-from, runs-end}
use Rattle.runbytes.proofs.Walk.{rises-here}
use Rattle.stripe.specs.Refusals.{behind}
use Rattle.behind.specs.Onward.{onward}
use Rattle.behind.proofs.Behind.{behind-none, behind-next}

module _ (s : List ℕ) (i : ℕ) where
  pub behind_more : sound_map_bytes s ≡ true → i < be 4 s 0 → (age e b : ℕ) (whole : Bool) → 0 < age → behind (drop i (runs_of width s)) age b (e - b) ≡ whole
      → behind (drop (i + 1) (runs_of width s)) age (onward (run_at s i) age b) (e - onward (run_at s i) age b) ≡ whole
  behind_more sound h age e b whole some k = sym (behind-next age e (rises-here s i sound h).canon some (e - b) b (omega arith)) ∙ rw (runs-from s i h) at k

  pub behind-end : be 4 s 0 ≤ i → (age e b : ℕ) (whole : Bool) → 0 < age → behind (drop i (runs_of width s)) age b (e - b) ≡ whole → ltb b e ≡ whole
  behind-end h age e b whole some k = sym (behind-none age e (e - b) b (omega arith) some) ∙ rw (runs-end s i h) at k
