-- What a restart answers and leaves in the map, on bytes and for every input. It changes no log byte: the log is lent to be read.
use Rattle.std.specs.Prelude.{ℕ, ◌≡◌, List, eqb, length}
use Rattle.common.specs.Counters.{width}
use Rattle.common.specs.Refusals.{first_hit, leaves}
use Rattle.runs.specs.Map.{map_of}
use Rattle.runs.specs.Bytes.{map_size, runs_of, sound_log_bytes, map_bytes}
use Rattle.stripe.specs.Refusals.{restart_rules}

unfoldable pub restart_answer : List ℕ → List ℕ → ℕ
restart_answer m l = first_hit (restart_rules (eqb (length m) (map_size width)) (sound_log_bytes l) (runs_of width l))

-- The buffer after it
unfoldable pub restart_map : List ℕ → List ℕ → List ℕ
restart_map m l = leaves (restart_answer m l) (map_bytes width (map_of (runs_of width l))) m

-- "Restart fills the map buffer with the log's map."
pub record Restarts (m l : List ℕ) (answer : ℕ) (m' : List ℕ) : Type 0 where
  pub answers : answer ≡ restart_answer m l
  pub map : m' ≡ restart_map m l
