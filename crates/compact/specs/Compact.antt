-- What a compaction answers and leaves in the second buffer, on bytes and for every input. It changes no byte of the old log: that is lent to be read.
use Rattle.std.specs.Prelude.{ℕ, ◌≡◌, List, eqb, length}
use Rattle.common.specs.Counters.{width}
use Rattle.common.specs.Refusals.{first_hit, leaves}
use Rattle.runs.specs.Map.{map_of}
use Rattle.runs.specs.Bytes.{log_size, runs_of, sound_log_bytes, log_bytes}
use Rattle.stripe.specs.Refusals.{compact_rules}

unfoldable pub compact_answer : List ℕ → List ℕ → ℕ
compact_answer l n = first_hit (compact_rules (eqb (length n) (log_size width)) (sound_log_bytes l) (runs_of width l))

-- The second buffer after it: "a log whose entries are exactly the runs of the old log's map, rising, zeros after"
unfoldable pub compact_log : List ℕ → List ℕ → List ℕ
compact_log l n = leaves (compact_answer l n) (log_bytes width (map_of (runs_of width l))) n

-- "a call that fills a second lent buffer": l is the old log, n the second buffer as it is lent and n' as it is left
pub record Compacts (l n : List ℕ) (answer : ℕ) (n' : List ℕ) : Type 0 where
  pub answers : answer ≡ compact_answer l n
  pub log : n' ≡ compact_log l n
