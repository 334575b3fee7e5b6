-- `compact`: each answer is the first rule that is broken; else what is drawn is copied, zeros come behind it, and it is counted.
use Rattle.std.proofs.Common.{rules, ◌≡◌, length, false, arith}
use lib.Seq.{take-length}
use Rattle.common.specs.Counters.{width}
use Rattle.common.specs.Refusals.{answer_of}
use Rattle.runs.specs.Bytes.{map_size, sound_log_bytes}
use Rattle.compact.proofs.Compacting.{short-13, unsound-13, many-16, few-0}
use Rattle.compact.proofs.compact.Goals as goal

pub returns-then-new-ne-LOG_SIZE : goal.returns-then-new-ne-LOG_SIZE
returns-then-new-ne-LOG_SIZE c = short-13 _ _ (λ z. omega arith)

pub returns-in_err-log : goal.returns-in_err-log
returns-in_err-log c =
    let e : answer_of c.from_residual.result ≡ 13 = search rules in
    let s : sound_log_bytes c.args.old.now ≡ false = search rules in
    rw e (unsound-13 _ _ (omega arith) s)

pub returns-then-runs-gt-MAX_RUNS : goal.returns-then-runs-gt-MAX_RUNS
returns-then-runs-gt-MAX_RUNS c =
    let e : c.in_ok-log.log.bytes.now ≡ c.args.old.now = search rules in
    many-16 _ _ (omega arith) (rw e at c.in_ok-log.log.sound) _ _ (rw e at c.rebuilt-runs.ensures) (omega arith)

pub returns : goal.returns
returns c =
    let e : c.in_ok-log.log.bytes.now ≡ c.args.old.now = search rules in
    let long : length c.rebuilt-runs.new.out ≡ map_size width = omega arith in
    few-0 _ _ (omega arith) (rw e at c.in_ok-log.log.sound) c.rebuilt-runs.new.out _ (rw e at c.rebuilt-runs.ensures) (omega arith) _ _ _ (rw (c.copy_from_slice.ensures.after, take-length c.rebuilt-runs.new.out, long)) c.clear.ensures c.put_count.ensures
