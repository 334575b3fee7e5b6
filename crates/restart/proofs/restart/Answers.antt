-- `restart`: each answer is the first rule that is broken, and the map is drawn in scratch.
use Rattle.std.proofs.Common.{rules, ◌≡◌, false, arith}
use Rattle.common.specs.Refusals.{answer_of}
use Rattle.runs.specs.Bytes.{sound_log_bytes}
use Rattle.restart.proofs.Restarting.{restart-12, restart-13, restart-16, restart-0}
use Rattle.restart.proofs.restart.Goals as goal

pub returns-then-map-ne-MAP_SIZE : goal.returns-then-map-ne-MAP_SIZE
returns-then-map-ne-MAP_SIZE c = restart-12 _ _ (λ z. omega arith)

pub returns-in_err-log : goal.returns-in_err-log
returns-in_err-log c =
    let e : answer_of c.from_residual.result ≡ 13 = search rules in
    let s : sound_log_bytes c.args.log.now ≡ false = search rules in
    rw e (restart-13 _ _ (omega arith) s)

pub returns-then-runs-gt-MAX_RUNS : goal.returns-then-runs-gt-MAX_RUNS
returns-then-runs-gt-MAX_RUNS c =
    let e : c.in_ok-log.log.bytes.now ≡ c.args.log.now = search rules in
    restart-16 _ _ (omega arith) (rw e at c.in_ok-log.log.sound) _ _ (rw e at c.rebuilt-runs.ensures) (omega arith)

pub returns : goal.returns
returns c =
    let e : c.in_ok-log.log.bytes.now ≡ c.args.log.now = search rules in
    restart-0 _ _ (omega arith) (rw e at c.in_ok-log.log.sound) _ _ (rw e at c.rebuilt-runs.ensures) (omega arith) _ c.fill.ensures
