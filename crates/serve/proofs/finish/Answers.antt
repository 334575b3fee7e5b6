-- `finish`: settled behind no events, and the count is stored.
use mathlib.Core.Path.{sym, subst}
use native.Mathlib.Omega.{arith}
use Rattle.std.proofs.Common.{ℕ, ◌+◌, length}
use Rattle.common.specs.Counters.{width}
use Rattle.table.specs.Bytes.{table_of}
use Rattle.locks.specs.Settle.{settle}
use Rattle.locks.specs.Events.{Room}
use Rattle.serve.proofs.Behind.{end_fits, behind-length, whole-accepted}
use Rattle.serve.proofs.finish.Goals as goal

pub settled-accepted-requires : goal.settled-accepted-requires
settled-accepted-requires c =
    (c.requires.0, subst (λ (k : ℕ). Room (k + length (settle (table_of width c.args.t.now.bytes.now)).events) c.args.e.now.bytes.now) (sym c.requires.1) (end_fits _ _ _ c.requires.0 c.requires.2))

pub put_count-requires : goal.put_count-requires
put_count-requires c =
    let room = c.requires.2 in
    let same = behind-length _ _ _ _ _ _ _ _ c.settled-accepted.ensures.0 in
    omega arith

pub returns : goal.returns
returns c =
    let behind = rw c.requires.1 at c.settled-accepted.ensures.0 in
    (whole-accepted _ _ _ c.settled-accepted.result _ _ _ _ behind c.put_count.ensures.0, ((cc), (cc)))
