-- `log_sound`: the code tests the rule from left to right.
use native.Mathlib.Omega.{arith}
use Rattle.std.proofs.lemmas.Grind.{common_steps}
use Rattle.runs.specs.Sound.{sound_log}
use Rattle.runs.specs.Bytes.{sound_log_bytes}
use Rattle.runbytes.proofs.Places.{runs-length}
use Rattle.runbytes.proofs.log_sound.Goals as goal
use Rattle.runbytes.proofs.log_sound.Goals.{then-s-eq-LOG_SIZE, else-s-eq-LOG_SIZE}

pub returns-then-count-le-MAX_ENTRIES : goal.returns-then-count-le-MAX_ENTRIES
unfolding sound_log_bytes sound_log
returns-then-count-le-MAX_ENTRIES c = elim c.if-s-eq-LOG_SIZE.branch [
  | then-s-eq-LOG_SIZE w ↦ grind (arith, common_steps, runs-length)
  | else-s-eq-LOG_SIZE w ↦ grind (arith, common_steps)
]

pub returns-else-count-le-MAX_ENTRIES : goal.returns-else-count-le-MAX_ENTRIES
unfolding sound_log_bytes sound_log
returns-else-count-le-MAX_ENTRIES c = elim c.if-s-eq-LOG_SIZE.branch [
  | then-s-eq-LOG_SIZE w ↦ grind (arith, common_steps, runs-length)
  | else-s-eq-LOG_SIZE w ↦ grind (arith, common_steps)
]
