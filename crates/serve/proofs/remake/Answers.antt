-- `remake`: refused by what was found or by 11, or the record becomes another.
use mathlib.Core.Path.{◌≡◌, refl}
use Rattle.std.proofs.Common.{rules, Err}
use Rattle.table.specs.Places.{lock_at}
use Rattle.serve.proofs.Naming.{remakes, naming-refused, naming-11, made-good, made-served}
use Rattle.serve.proofs.remake.Goals as goal

pub returns-in_err-i : goal.returns-in_err-i
returns-in_err-i c =
    let same : c.from_residual.result ≡ Err c.in_err-i.field-0.0 = search rules in
    rw same (naming-refused _ _ _ _ c.requires.0 _ _ (remakes c.args.to c.args.client c.args.handle.0) _ _ (rw (c.listed.ensures.0, c.listed.ensures.1) at c.in_err-i.ensures), (refl, refl), refl)

pub returns-in_err-l : goal.returns-in_err-l
returns-in_err-l c =
    let same : c.from_residual-in_err-l.result ≡ Err c.in_err-l.field-0.0 = search rules in
    let l : c.lock.result ≡ lock_at c.args.t.now.bytes.now c.in_ok-i.i = cc in
    rw same (naming-11 _ _ _ _ c.requires.0 _ (rw (c.listed.ensures.0, c.listed.ensures.1) at c.in_ok-i.ensures) c.lock.result l c.args.to _ _ c.in_err-l.ensures, (refl, refl), refl)

pub finish-requires : goal.finish-requires
finish-requires c =
    let l : c.lock.result ≡ lock_at c.args.t.now.bytes.now c.in_ok-i.i = cc in
    (made-good _ _ _ _ c.requires.0 _ (rw (c.listed.ensures.0, c.listed.ensures.1) at c.in_ok-i.ensures) c.lock.result l c.args.to _ c.in_ok-l.ensures _ _ c.put_lock.ensures.0, c.requires.1, c.requires.2)

pub returns : goal.returns
returns c =
    let l : c.lock.result ≡ lock_at c.args.t.now.bytes.now c.in_ok-i.i = cc in
    (made-served _ _ _ _ c.requires.0 _ (rw (c.listed.ensures.0, c.listed.ensures.1) at c.in_ok-i.ensures) c.lock.result l c.args.to _ c.in_ok-l.ensures _ _ c.put_lock.ensures.0 _ _ _ _ c.finish.ensures.0, ((cc), (cc)), tt)
