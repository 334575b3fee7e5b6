-- `serve_items`: the loop begins, goes on by an item, and ends, as proofs/Going.antt says of plain values.
use mathlib.Core.Path.{refl}
use native.Mathlib.Omega.{arith}
use Rattle.std.proofs.Common.{◌<◌, ◌≤◌, length}
use Rattle.list.proofs.Going.{begun, item_room, next, ended}
use Rattle.list.proofs.serve_items.Goals as goal

pub loop-i-init : goal.loop-i-init
loop-i-init c = (begun c.args.e.now.k c.args.items.now c.args.t.now.bytes.now c.args.e.now.bytes.now _ c.requires.0 c.requires.1, (refl, refl))

pub serve_item-requires : goal.serve_item-requires
serve_item-requires c =
    let l = c.loop-i in
    let inside : l.i < length l.items = let here = c.loop-i-test.true in let long = l.auto.items in omega arith in
    (record { shape = l.t.shape; sounds = l.invariant.0.good.sounds }, item_room _ _ _ _ l.i l.e.k l.items l.t.bytes.now l.e.bytes.now l.invariant.0 inside)

pub loop-i-preserved : goal.loop-i-preserved
loop-i-preserved c =
    let l = c.loop-i in
    let inside : l.i < length l.items = let here = c.loop-i-test.true in let long = l.auto.items in omega arith in
    (next _ _ _ _ l.i l.e.k l.items l.t.bytes.now l.e.bytes.now l.invariant.0 inside c.serve_item.result _ _ _ c.serve_item.ensures.0, ((cc), (cc)))

pub returns : goal.returns
returns c =
    let l = c.loop-i in
    let over : length l.items ≤ l.i = let here = c.loop-i-test.false in let long = l.auto.items in omega arith in
    (ended _ _ _ _ l.i l.e.k l.items l.t.bytes.now l.e.bytes.now l.invariant.0 over, l.invariant.1)
