-- `enter`: the bytes that 1 and 2 let pass are a sound table, and there is room for the events.
use mathlib.Core.Path.{◌≡◌, refl, sym, subst}
use Rattle.std.proofs.Common.{rules, ℕ, Err}
use Rattle.table.specs.Places.{Good}
use Rattle.serve.specs.Posts.{answer_to}
use Rattle.message.proofs.Entering.{entry-refused, entered, let-through}
use Rattle.message.proofs.enter.Goals as goal

pub returns-in_err-entry_refusal : goal.returns-in_err-entry_refusal
returns-in_err-entry_refusal c =
    let same : c.from_residual.result ≡ Err c.in_err-entry_refusal.field-0.0 = search rules in
    rw same (entry-refused _ _ c.args.m _ c.in_err-entry_refusal.ensures)

pub invariant_of-count : goal.invariant_of-count
invariant_of-count c = record { size = (entered _ _ c.in_ok-entry_refusal.ensures).good.shape.size }

pub invariant_of-t : goal.invariant_of-t
invariant_of-t c = let S = (entered _ _ c.in_ok-entry_refusal.ensures).good.shape in rw c.count-n.ensures (record { shape = S })

pub serve-requires : goal.serve-requires
serve-requires c =
    let E = entered _ _ c.in_ok-entry_refusal.ensures in
    (subst (λ (n : ℕ). Good n c.args.table.now) (sym c.count-n.ensures) E.good, refl, E.room)

pub returns : goal.returns
returns c = let-through _ _ c.in_ok-entry_refusal.ensures c.args.m (answer_to c.serve.result) _ _ _ _ c.serve.ensures.0 (search rules) (search rules)
