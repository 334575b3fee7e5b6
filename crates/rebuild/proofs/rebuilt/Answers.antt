use Rattle.std.proofs.Common.{rules, ◌-◌, ◌∙◌, refl, arith}
use lib.Seq.{get_or-take}
use Rattle.xdr.specs.Be.{be}
use Rattle.order.specs.Places.{first_at}
use Rattle.sort.proofs.Halves.{sorted-same}
use Rattle.common.specs.Counters.{width}
use Rattle.runs.specs.Ages.{Exact}
use Rattle.runs.specs.Map.{map_of}
use Rattle.runs.specs.Bytes.{runs_of}
use Rattle.runs.proofs.Valid.{beyond}
use Rattle.runs.proofs.Stretch.{map-drawn}
use Rattle.runbytes.proofs.Facts.{log_facts}
use Rattle.pen.specs.Drawing.{Stored}
use Rattle.pen.proofs.Steps.{drawn-fresh, flushed}
use Rattle.rebuild.specs.Sweeping.{Ready}
use Rattle.rebuild.proofs.Taking.{later}
use Rattle.rebuild.proofs.Owning.{Step, ready-owns, stretched}
use Rattle.rebuild.proofs.rebuilt.Goals as goal

pub start-sweep-requires-clause-sorted : goal.start-sweep-requires-clause-sorted
start-sweep-requires-clause-sorted c =
    let log = c.args.log.bytes.now in
    let s = c.by_first.new.list in
    sorted-same (first_at log) s _ 0 (be 4 log 0) (λ j f l. get_or-take (c.count.result - 0) s j 0 (omega arith)) c.by_first.ensures

pub loop-drawing-init : goal.loop-drawing-init
loop-drawing-init c = rw (c.start-drawing.ensures.fresh.0, c.start-drawing.ensures.fresh.1) (record { most = omega arith; drawn = drawn-fresh _ _; sweeping = c.start-sweep.ensures; lent = refl })

pub push-requires : goal.push-requires
push-requires c =
    let v = c.loop-drawing.invariant.sweeping in
    let r : Ready c.args.log.bytes.now c.drop_ended.new.self c.loop-drawing.drawing.pen.x = rw (c.take_in.ensures.0.same, v.same) at c.drop_ended.ensures in
    let o = ready-owns c.args.log.bytes.now c.drop_ended.new.self _ c.args.log.sound r in
    let e : Exact c.owned-owned.result.age = rw c.owned-owned.ensures o.exact in
    search rules

pub loop-drawing-preserved : goal.loop-drawing-preserved
loop-drawing-preserved c =
    let v = c.loop-drawing.invariant in
    let r : Ready c.args.log.bytes.now c.drop_ended.new.self c.loop-drawing.drawing.pen.x = rw (c.take_in.ensures.0.same, v.sweeping.same) at c.drop_ended.ensures in
    let s : Step _ c.args.out.now c.push.new.self.out.now c.loop-drawing.drawing.pen.x c.push.new.self.pen =
    stretched _ _ _ _ c.owned-owned.result _ _ (rw c.owned-owned.ensures (ready-owns c.args.log.bytes.now c.drop_ended.new.self _ c.args.log.sound r)) c.push.ensures.went v.drawn in
    let w = r.sweeping in
    record {
      most = s.most;
      drawn = s.drawn;
      sweeping = record { same = w.same; long = w.long; sorted = w.sorted; walking = later _ _ _ _ _ w.walking _ s.on };
      lent = c.push.ensures.lent ∙ v.lent;
    }

pub returns : goal.returns
returns c =
    let v = c.loop-drawing.invariant in
    let f = log_facts c.args.log.bytes.now c.args.log.sound in
    let d : Stored (map_of (runs_of width c.args.log.bytes.now)) c.args.out.now c.flush.new.self.out.now c.flush.result =
    rw (map-drawn (runs_of width c.args.log.bytes.now) c.loop-drawing.drawing.pen.x (λ b h. beyond _ b f.good (omega arith)))
    (flushed c.loop-drawing.drawing.pen c.loop-drawing.drawing.fine v.drawn c.flush.ensures.stored) in
    search rules
