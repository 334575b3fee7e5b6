-- `named`: the record is there, and another client's or the client's.
use mathlib.Core.Path.{◌≡◌}
use Rattle.std.proofs.Common.{rules, Some}
use Rattle.table.specs.Places.{lock_at}
use Rattle.judge.proofs.Finding.{finds-10, finds-it}
use Rattle.judge.proofs.named.Goals as goal

pub returns-then-lock-client : goal.returns-then-lock-client
returns-then-lock-client c =
    let there : c.find.result ≡ Some c.in_ok-i.i = search rules in
    let found = rw there at c.find.ensures in
    let l : c.lock.result ≡ lock_at c.args.t.now.records.bytes.now c.in_ok-i.i = cc in
    finds-10 _ _ _ _ c.in_ok-i.i c.requires found.1 c.if-client-gt-MAX_CLIENT.false found.0 c.lock.result l c.if-lock-client.true

pub returns : goal.returns
returns c =
    let there : c.find.result ≡ Some c.in_ok-i.i = search rules in
    let found = rw there at c.find.ensures in
    let l : c.lock.result ≡ lock_at c.args.t.now.records.bytes.now c.in_ok-i.i = cc in
    finds-it _ _ _ _ c.in_ok-i.i c.requires found.1 c.if-client-gt-MAX_CLIENT.false found.0 c.lock.result l c.if-lock-client.false
