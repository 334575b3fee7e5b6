-- `raised`: the runs before the piece are drawn as they stand, then those that it may meet one by one, and then the rest as they stand.
use native.Mathlib.Omega.{arith}
use mathlib.Core.Path.{◌≡◌, refl}
use mathlib.Core.List.{◌∷◌}
use lib.ListN.{drop}
use borrow.Author.Rules.{rules}
use Rattle.common.specs.Counters.{width}
use Rattle.runs.specs.Owner.{owner}
use Rattle.runs.specs.Map.{raise}
use Rattle.runs.specs.Bytes.{runs_of}
use Rattle.pen.specs.Drawing.{Stored}
use Rattle.runbytes.proofs.Places.{runs-from}
use Rattle.maps.proofs.Raising.{raise-more}
use Rattle.maps.proofs.Untouched.{Skipped, skipped, after-at, raise-done}
use Rattle.maps.proofs.raised.Goals as goal

pub loop-i-init : goal.loop-i-init
loop-i-init c =
    let s = c.args.map.now.bytes.now in
    let f : Skipped (owner (c.args.piece ∷ runs_of width s)) s c.args.out.now c.skip.new.d.out.now c.ended-from.result c.skip.new.d.pen =
    rw (c.skip.ensures.kept.0, c.skip.ensures.kept.1, c.start-d.ensures.fresh.1) (skipped s c.args.out.now c.args.piece c.args.map.now.sound _ c.ended-from.ensures.most c.ended-from.ensures.last) in
    record { most = f.most; left = f.left; drawn = f.drawn; lent = refl }

pub loop-i-preserved : goal.loop-i-preserved
loop-i-preserved c =
    let s = c.args.map.now.bytes.now in
    let l = c.loop-i in
    let w = c.draw_run.ensures.went in
    let m = c.begun-to.ensures.most in
    let v = c.run.ensures.1 in
    let d = raise-more c.args.piece (runs_of width s) l.d.pen _ l.d.out.now _ _ _ w (rw (runs-from s l.i (omega arith), ← c.run.ensures.0) at l.invariant.left) in
    record { most = omega (arith, w.at, v.short, l.invariant.most); left = d.0; drawn = d.1 c.args.out.now l.invariant.drawn; lent = search rules }

pub returns : goal.returns
returns c =
    let s = c.args.map.now.bytes.now in
    let l = c.loop-i in
    let e : l.i ≡ c.begun-to.result = omega arith in
    let z : Stored (raise c.args.piece (runs_of width s)) c.args.out.now c.rest.new.d.out.now c.rest.result =
    raise-done c.args.piece (runs_of width s) c.requires (drop c.begun-to.result (runs_of width s)) l.d.pen _ _ l.d.out.now _ _ _ _ _ _
    (after-at c.args.piece s _ c.begun-to.ensures.after) (rw e at l.invariant.left) l.invariant.drawn
    c.none.ensures (rw c.start_at.ensures.0 at c.span.ensures.went) c.flush-k.ensures.stored c.rest.ensures.added in
    search (rules, z)
