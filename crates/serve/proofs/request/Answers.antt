-- `request`: asked for behind no events, and the count is stored.
use mathlib.Core.Path.{◌≡◌, sym, subst, ◌∙◌}
use native.Mathlib.Omega.{arith}
use Rattle.std.proofs.Common.{rules, ℕ, ◌+◌, length, Err}
use Rattle.common.specs.Counters.{width}
use Rattle.table.specs.Bytes.{table_of}
use Rattle.locks.specs.Serve.{serve}
use Rattle.locks.specs.Events.{Room}
use Rattle.judge.specs.Posts.{requests}
use Rattle.serve.proofs.Behind.{message-fits, behind-length, whole-refused, whole-none, whole-accepted}
use Rattle.serve.proofs.request.Goals as goal

pub ask-requires : goal.ask-requires
ask-requires c =
    (c.requires.0, subst (λ (k : ℕ). Room (k + length (serve (table_of width c.args.t.now.bytes.now) (requests c.args.a)).events) c.args.e.now.bytes.now) (sym c.requires.1) (message-fits _ _ _ c.requires.0 c.requires.2 (requests c.args.a)))

pub returns-in_err-accepted : goal.returns-in_err-accepted
returns-in_err-accepted c =
    let same : c.from_residual.result ≡ Err c.in_err-accepted.field-0.0 = search rules in
    let asked = c.in_err-accepted.ensures in
    let behind = rw c.requires.1 at asked.0 in
    rw same (whole-refused (requests c.args.a) _ _ _ _ _ _ behind, asked.1, whole-none (requests c.args.a) _ _ _ _ _ _ behind ∙ sym c.requires.1)

pub put_count-requires : goal.put_count-requires
put_count-requires c =
    let room = c.requires.2 in
    let same = behind-length _ _ _ _ _ _ _ _ c.ask.ensures.0 in
    omega arith

pub returns : goal.returns
returns c =
    let asked = c.in_ok-accepted.ensures in
    let behind = rw c.requires.1 at asked.0 in
    (whole-accepted _ _ _ c.in_ok-accepted.accepted _ _ _ _ behind c.put_count.ensures.0, ((cc), (cc)), tt)
