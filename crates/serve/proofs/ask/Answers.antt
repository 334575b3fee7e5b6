-- `ask`: refused by its rows, or the record that they let pass is added.
use mathlib.Core.Path.{◌≡◌, refl, ap, ◌∙◌}
use native.Mathlib.Omega.{arith}
use Rattle.std.proofs.Common.{rules, ℕ, List, Err}
use Rattle.common.specs.Counters.{width}
use Rattle.table.specs.Bytes.{table_of}
use Rattle.serve.proofs.Asking.{request-refused, allowed, request-fits, request-good, request-room, request-served}
use Rattle.serve.proofs.ask.Goals as goal

pub returns-in_err-request_refusal : goal.returns-in_err-request_refusal
returns-in_err-request_refusal c =
    let same : c.from_residual.result ≡ Err c.in_err-request_refusal.field-0.0 = search rules in
    rw same (request-refused c.args.t.now.n c.args.a c.args.t.now.bytes.now _ _ _ (rw c.listed.ensures.0 at c.in_err-request_refusal.ensures), (refl, refl))

pub add-requires : goal.add-requires
add-requires c =
    let issued : c.issued.result ≡ (table_of width c.args.t.now.bytes.now).issued = c.issued.ensures.0 ∙ ap (λ (b : List ℕ). (table_of width b).issued) c.records.ensures in
    let g = allowed c.args.t.now.n c.args.a c.args.t.now.bytes.now c.requires.0 (rw c.listed.ensures.0 at c.in_ok-request_refusal.ensures) _ issued in
    let n = c.put_issued.ensures.1 in
    (omega arith, request-fits c.args.t.now.n c.args.a c.args.t.now.bytes.now c.requires.0 (rw c.listed.ensures.0 at c.in_ok-request_refusal.ensures) _ issued c.waiting.result c.waiting.ensures)

pub settled-requires : goal.settled-requires
settled-requires c =
    let issued : c.issued.result ≡ (table_of width c.args.t.now.bytes.now).issued = c.issued.ensures.0 ∙ ap (λ (b : List ℕ). (table_of width b).issued) c.records.ensures in (
      request-good c.args.t.now.n c.args.a c.args.t.now.bytes.now c.requires.0 (rw c.listed.ensures.0 at c.in_ok-request_refusal.ensures) _ issued c.waiting.result c.waiting.ensures _ _ _ _ c.put_issued.ensures.0 c.add.ensures.0,
      request-room c.args.t.now.n c.args.a c.args.t.now.bytes.now c.requires.0 (rw c.listed.ensures.0 at c.in_ok-request_refusal.ensures) _ issued c.waiting.result c.waiting.ensures _ _ _ _ c.put_issued.ensures.0 c.add.ensures.0 _ _ c.requires.1,
    )

pub returns : goal.returns
returns c =
    let issued : c.issued.result ≡ (table_of width c.args.t.now.bytes.now).issued = c.issued.ensures.0 ∙ ap (λ (b : List ℕ). (table_of width b).issued) c.records.ensures in
    (request-served c.args.t.now.n c.args.a c.args.t.now.bytes.now c.requires.0 (rw c.listed.ensures.0 at c.in_ok-request_refusal.ensures) _ issued c.waiting.result c.waiting.ensures _ _ _ _ c.put_issued.ensures.0 c.add.ensures.0 _ _ _ _ _ _ c.settled.ensures.0, ((cc), (cc)))
