-- `map_sound`: the code tests the rule from left to right.
use native.Mathlib.Omega.{arith}
use Rattle.std.proofs.lemmas.Grind.{common_steps}
use Rattle.runs.specs.Sound.{sound_map}
use Rattle.runs.specs.Bytes.{sound_map_bytes}
use Rattle.runbytes.proofs.Places.{runs-length}
use Rattle.runbytes.proofs.map_sound.Goals as goal
use Rattle.runbytes.proofs.map_sound.Goals.{then-s-eq-MAP_SIZE, else-s-eq-MAP_SIZE, then-count-le-MAX_RUNS, else-count-le-MAX_RUNS, then-all_valid, else-all_valid}

pub returns-then-all_apart : goal.returns-then-all_apart
unfolding sound_map_bytes sound_map
returns-then-all_apart c = elim c.if-all_valid.branch [
  | then-all_valid v ↦ elim c.if-count-le-MAX_RUNS.branch [
    | then-count-le-MAX_RUNS u ↦ elim c.if-s-eq-MAP_SIZE.branch [
      | then-s-eq-MAP_SIZE w ↦ grind (arith, common_steps, runs-length)
      | else-s-eq-MAP_SIZE w ↦ grind (arith, common_steps)
    ]
    | else-count-le-MAX_RUNS u ↦ grind (arith, common_steps)
  ]
  | else-all_valid v ↦ grind (arith, common_steps)
]

pub returns-else-all_apart : goal.returns-else-all_apart
unfolding sound_map_bytes sound_map
returns-else-all_apart c = elim c.if-all_valid.branch [
  | then-all_valid v ↦ elim c.if-count-le-MAX_RUNS.branch [
    | then-count-le-MAX_RUNS u ↦ elim c.if-s-eq-MAP_SIZE.branch [
      | then-s-eq-MAP_SIZE w ↦ grind (arith, common_steps, runs-length)
      | else-s-eq-MAP_SIZE w ↦ grind (arith, common_steps)
    ]
    | else-count-le-MAX_RUNS u ↦ elim c.if-s-eq-MAP_SIZE.branch [
      | then-s-eq-MAP_SIZE w ↦ grind (arith, common_steps, runs-length)
      | else-s-eq-MAP_SIZE w ↦ grind (arith, common_steps)
    ]
  ]
  | else-all_valid v ↦ elim c.if-count-le-MAX_RUNS.branch [
    | then-count-le-MAX_RUNS u ↦ elim c.if-s-eq-MAP_SIZE.branch [
      | then-s-eq-MAP_SIZE w ↦ grind (arith, common_steps, runs-length)
      | else-s-eq-MAP_SIZE w ↦ grind (arith, common_steps)
    ]
    | else-count-le-MAX_RUNS u ↦ elim c.if-s-eq-MAP_SIZE.branch [
      | then-s-eq-MAP_SIZE w ↦ grind (arith, common_steps, runs-length)
      | else-s-eq-MAP_SIZE w ↦ grind (arith, common_steps)
    ]
  ]
]
