-- `keep`: one run more is stored behind those that are kept.
use Prim.Native.Nat.{ℕ, ◌+◌, ◌<◌}
use native.Mathlib.Numerals.{add-one}
use native.Mathlib.Omega.{arith}
use mathlib.Core.Path.{◌≡◌}
use mathlib.Core.List.{List, [], ◌∷◌, map, map-append}
use lib.ListN.{length, take, drop, length-drop, length-map}
use lib.Seq.{take-suc, length-take-le, get_or-drop}
use Rattle.common.specs.Counters.{width}
use Rattle.xdr.specs.Be.{be}
use Rattle.xdr.specs.Layout.{put_fields}
use Rattle.xdr.specs.Array.{put_elements}
use Rattle.xdr.proofs.Appends.{put-elements-append}
use Rattle.runs.specs.Owner.{run}
use Rattle.runs.specs.Bytes.{run_layout, run_place, run_fields, runs_of}
use Rattle.runbytes.specs.Places.{run_at}
use Rattle.runbytes.proofs.Places.{runs-length, runs-at}
use Rattle.pen.specs.Drawing.{with_runs}

module _ (s old : List ℕ) (k from i : ℕ) (h : from + i < be 4 s 0) where
  pub keep-more : (out out' : List ℕ) → out ≡ with_runs old k (take i (drop from (runs_of width s)))
      → out' ≡ put_fields (run_layout width) out (run_place width (k + i)) 0 (run_fields (run_at s (from + i)))
      → out' ≡ with_runs old k (take (i + 1) (drop from (runs_of width s)))
  unfolding put_elements
  keep-more out out' e f =
      let rs = drop from (runs_of width s) in
      let l : i < length rs = rw (length-drop, runs-length) (omega arith) in
      rw (
        add-one,
        take-suc rs i (run 0 0 0) l,
        get_or-drop from (runs_of width s) i (run 0 0 0),
        runs-at s (from + i) h (run 0 0 0),
        map-append,
        ← put-elements-append (run_layout width) old 0 k (k + i) (map run_fields (take i rs)) (run_fields (run_at s (from + i)) ∷ []) (rw (length-map, length-take-le i rs (omega arith))),
        ← e,
      ) f
