-- `enter`: the bytes that 1 and 2 let pass are a sound table, and there is room for the events of so many items.
use mathlib.Core.Path.{◌≡◌, refl, sym, subst}
use native.Mathlib.Omega.{arith}
use Rattle.std.proofs.Common.{rules, ℕ, Err}
use Rattle.table.specs.Places.{Good}
use Rattle.list.proofs.Judging.{passed, list-refused}
use Rattle.list.proofs.Going.{walks-length, list-room, list-served-at}
use Rattle.list.proofs.enter.Goals as goal

pub returns-in_err-list_refusal : goal.returns-in_err-list_refusal
returns-in_err-list_refusal c =
    let same : c.from_residual.result ≡ Err c.in_err-list_refusal.field-0.0 = search rules in
    rw same (list-refused c.args.items.now _ c.args.events.now _ c.in_err-list_refusal.ensures)

pub invariant_of-count : goal.invariant_of-count
invariant_of-count c = record { size = (passed c.args.items.now c.args.table.now c.args.events.now c.in_ok-list_refusal.ensures).good.shape.size }

pub invariant_of-t : goal.invariant_of-t
invariant_of-t c =
    let P = passed c.args.items.now c.args.table.now c.args.events.now c.in_ok-list_refusal.ensures in
    rw c.count-n.ensures (record { shape = P.good.shape })

pub serve_items-requires : goal.serve_items-requires
serve_items-requires c =
    let P = passed c.args.items.now c.args.table.now c.args.events.now c.in_ok-list_refusal.ensures in
    (subst (λ (n : ℕ). Good n c.args.table.now) (sym c.count-n.ensures) P.good, list-room _ _ _ P)

pub put_count-requires : goal.put_count-requires
put_count-requires c =
    let P = passed c.args.items.now c.args.table.now c.args.events.now c.in_ok-list_refusal.ensures in
    let room = P.room in
    let same = walks-length _ _ _ _ _ _ _ _ c.serve_items.ensures.0 in
    omega arith

pub returns : goal.returns
returns c =
    let P = passed c.args.items.now c.args.table.now c.args.events.now c.in_ok-list_refusal.ensures in
    list-served-at _ _ _ P _ _ _ _ _ _ _ _ c.serve_items.ensures.0 refl c.put_count.ensures.0 (search rules) (search rules)
