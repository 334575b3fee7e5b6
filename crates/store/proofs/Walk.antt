-- A loop over the places of a sound map: the runs left store over what is stored so far as the whole.
use Prim.Native.Nat.{ℕ, ◌+◌, ◌≤◌, ◌<◌}
use mathlib.Core.Path.{◌≡◌, sym, ◌∙◌}
use mathlib.Core.Bool.{true}
use mathlib.Core.List.{List, [], ◌∷◌}
use lib.ListN.{drop}
use Rattle.common.specs.Counters.{width}
use Rattle.xdr.specs.Be.{be}
use Rattle.runs.specs.Bytes.{runs_of, sound_map_bytes}
use Rattle.runbytes.specs.Places.{run_at}
use Rattle.runbytes.proofs.Places.{runs-from, runs-end}
use Rattle.runbytes.proofs.Walk.{rises-here}
use Rattle.stripe.specs.Stripe.{stored}
use Rattle.stripe.proofs.ByRun.{stored-none, stored_next}

module _ (s : List ℕ) (i : ℕ) where
  pub stored_more : sound_map_bytes s ≡ true → i < be 4 s 0 → (age b : ℕ) (piece part whole : List ℕ) → 0 < age → stored (drop i (runs_of width s)) age b piece part ≡ whole
      → stored (drop (i + 1) (runs_of width s)) age b piece (stored (run_at s i ∷ []) age b piece part) ≡ whole
  stored_more sound h age b piece part whole some k = sym (stored_next age b piece part (rises-here s i sound h).canon some) ∙ rw (runs-from s i h) at k

  pub stored-end : be 4 s 0 ≤ i → (age b : ℕ) (piece part whole : List ℕ) → 0 < age → stored (drop i (runs_of width s)) age b piece part ≡ whole → part ≡ whole
  stored-end h age b piece part whole some k = sym (stored-none age b piece part some) ∙ rw (runs-end s i h) at k
