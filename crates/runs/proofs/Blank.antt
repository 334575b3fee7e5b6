-- Zeros are the empty map and the empty log.
use Prim.Native.Nat.{ℕ}
use mathlib.Core.Bool.{true}
use mathlib.Core.List.{List, [], map}
use mathlib.Core.Path.{◌≡◌, ap}
use lib.ListN.{length, replicate, length-replicate}
use borrow.Author.Tests.{eq-eqb}
use Rattle.common.specs.Counters.{width}
use Rattle.common.proofs.Blank.{zeros-from, blank, be-blank}
use Rattle.xdr.specs.Be.{be}
use Rattle.xdr.specs.Layout.{fields}
use Rattle.xdr.specs.Tab.{tab}
use Rattle.xdr.specs.Array.{array}
use Rattle.runs.specs.Sound.{sound_map, sound_log, apart}
use Rattle.runs.specs.Bytes.{run_layout, run_of, runs_of, run_place, runs_end, map_size, log_size, sound_map_bytes, sound_log_bytes}

-- bytes with the count 0 say no run, whatever stands after it
pub none-counted : (s : List ℕ) → be 4 s 0 ≡ 0 → runs_of width s ≡ []
unfolding runs_of array tab
none-counted s e = ap (λ (k : ℕ). map run_of (tab k (λ i. fields (run_layout width) s (run_place width i) 0))) e

pub no-runs : (n : ℕ) → runs_of width (replicate n 0) ≡ []
no-runs n = none-counted (replicate n 0) (be-blank 4 n 0)

pub empty-map : sound_map_bytes (replicate (map_size width) 0) ≡ true
unfolding sound_map_bytes sound_map apart
empty-map =
    rw (eq-eqb (length (replicate {A = ℕ} (map_size width) 0)) (map_size width) (length-replicate {A = ℕ} (map_size width) 0), no-runs (map_size width))
    (zeros-from (replicate (map_size width) 0) (runs_end width (replicate (map_size width) 0)) (λ b _. blank (map_size width) b))

pub none-logged : (log : List ℕ) → length log ≡ log_size width → be 4 log 0 ≡ 0 → sound_log_bytes log ≡ true
unfolding sound_log_bytes sound_log
none-logged log l e = rw (eq-eqb (length log) (log_size width) l, none-counted log e)

pub empty-log : sound_log_bytes (replicate (log_size width) 0) ≡ true
empty-log = none-logged (replicate (log_size width) 0) (length-replicate {A = ℕ} (log_size width) 0) (be-blank 4 (log_size width) 0)
