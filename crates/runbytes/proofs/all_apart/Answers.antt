-- `all_apart`: two neighbours more are told apart.
use Prim.Native.Nat.{◌+◌, ◌-◌}
use native.Mathlib.Omega.{arith}
use mathlib.Core.Path.{◌≡◌, ◌∙◌, ap₂}
use Rattle.runs.specs.Sound.{leads}
use Rattle.runbytes.specs.Places.{run_at}
use Rattle.runbytes.proofs.Apart.{apart_more, apart_none}
use Rattle.runbytes.proofs.Facts.{valid-at}
use Rattle.runbytes.proofs.all_apart.Goals as goal

pub is_apart-ok-requires : goal.is_apart-ok-requires
is_apart-ok-requires c =
    let s = c.args.s.now in
    let i = c.loop-i.i in
    rw (c.run_at.ensures.0, c.run_at-in-loop-i.ensures.0) (valid-at s (i - 1) (omega arith) c.requires.1, valid-at s i (omega arith) c.requires.1)

pub loop-i-preserved : goal.loop-i-preserved
loop-i-preserved c =
    let s = c.args.s.now in
    let l = c.loop-i in
    let e : l.i - 1 + 1 ≡ l.i = omega arith in
    let f : l.i + 1 - 1 ≡ l.i = omega arith in
    let t : c.is_apart-ok.result ≡ leads (run_at s (l.i - 1)) (run_at s (l.i - 1 + 1)) = rw e (c.is_apart-ok.ensures ∙ ap₂ leads c.run_at.ensures.0 c.run_at-in-loop-i.ensures.0) in
    rw f (rw e at (apart_more s (l.i - 1) _ l.ok l.invariant _ t (omega arith)))

pub returns : goal.returns
returns c = let l = c.loop-i in apart_none c.args.s.now (l.i - 1) _ l.ok l.invariant (omega arith)
