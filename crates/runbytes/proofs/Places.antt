-- The runs that bytes say are the runs at their places, so a loop that goes up by one meets them all.
use Prim.Native.Nat.{ℕ, ◌+◌, ◌≤◌, ◌<◌}
use native.Mathlib.Numerals.{add-one}
use mathlib.Core.Path.{◌≡◌}
use mathlib.Core.List.{List, [], ◌∷◌}
use lib.ListN.{length, get_or, drop, drop_of_length-le}
use lib.Seq.{drop-cons}
use Rattle.common.specs.Counters.{width}
use Rattle.xdr.specs.Be.{be}
use Rattle.xdr.specs.Layout.{fields}
use Rattle.xdr.specs.Tab.{tab}
use Rattle.xdr.specs.Array.{array}
use Rattle.xdr.proofs.Tabs.{length-tab, get_or-tab, map-tab}
use Rattle.runs.specs.declared.Run.{Run}
use Rattle.runs.specs.Owner.{run}
use Rattle.runs.specs.Bytes.{run_layout, run_place, run_of, runs_of}
use Rattle.runbytes.specs.Places.{run_at}

pub runs-tab : (s : List ℕ) → runs_of width s ≡ tab (be 4 s 0) (run_at s)
unfolding runs_of array run_at
runs-tab s = map-tab run_of (be 4 s 0) (λ i. fields (run_layout width) s (run_place width i) 0)

pub runs-length : (s : List ℕ) → length (runs_of width s) ≡ be 4 s 0
runs-length s = rw (runs-tab s) (length-tab (be 4 s 0) (run_at s))

module _ (s : List ℕ) (i : ℕ) where
  -- what is left from place i on
  pub runs-end : be 4 s 0 ≤ i → drop i (runs_of width s) ≡ []
  runs-end h = drop_of_length-le (runs_of width s) {i = i} (rw runs-length h)

  module _ (h : i < be 4 s 0) where
    pub runs-at : (d : Run) → get_or (runs_of width s) i d ≡ run_at s i
    runs-at d = rw (runs-tab s) (get_or-tab (be 4 s 0) (run_at s) i d h)

    pub runs-from : drop i (runs_of width s) ≡ run_at s i ∷ drop (i + 1) (runs_of width s)
    runs-from = rw (add-one, ← runs-at (run 0 0 0)) (drop-cons (runs_of width s) i (run 0 0 0) (rw runs-length h))
