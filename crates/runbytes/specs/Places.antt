-- The runs of a map or a log by their places. No public contract cites this file.
use Rattle.std.specs.Prelude.{ℕ, List}
use Rattle.common.specs.Counters.{width}
use Rattle.xdr.specs.Layout.{fields}
use Rattle.runs.specs.declared.Run.{Run}
use Rattle.runs.specs.Bytes.{run_layout, run_place, run_of}

-- the run at place i
unfoldable pub run_at : List ℕ → ℕ → Run
run_at s i = run_of (fields (run_layout width) s (run_place width i) 0)
