-- `all_valid`: one run more is told by its last byte, its number and its pass.
use native.Mathlib.Omega.{arith}
use mathlib.Core.Path.{sym, ◌∙◌, ap}
use Rattle.common.specs.Counters.{width}
use Rattle.common.proofs.Rests.{rest_more, rest-none}
use Rattle.runs.specs.Owner.{run}
use Rattle.runs.specs.Sound.{valid}
use Rattle.runs.specs.Bytes.{runs_of}
use Rattle.runbytes.proofs.Places.{runs-length, runs-at}
use Rattle.runbytes.proofs.Tally.{so_far, tally}
use Rattle.runbytes.proofs.all_valid.Goals as goal

pub loop-i-preserved : goal.loop-i-preserved
loop-i-preserved c =
    let s = c.args.s.now in
    let l = c.loop-i in
    let r = c.run_at-r in
    rw (tally l.rising l.last l.number l.pass _ _ _ r.result c.max-last.ensures c.min-number.ensures c.min-pass.ensures r.ensures.1)
    (rest_more valid (run 0 0 0) (runs_of width s) l.i _ (so_far l.rising l.last l.number l.pass) _ (ap valid (r.ensures.0 ∙ sym (runs-at s l.i (omega arith) (run 0 0 0)))) (rw (runs-length s) (omega arith)) l.invariant)

pub returns : goal.returns
returns c =
    let s = c.args.s.now in
    let l = c.loop-i in
    rest-none valid (run 0 0 0) (runs_of width s) l.i _ (so_far l.rising l.last l.number l.pass) (rw (runs-length s) (omega arith)) l.invariant
