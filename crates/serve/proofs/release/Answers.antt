-- `release`: the record is removed.
use mathlib.Core.Path.{◌≡◌, refl}
use Rattle.std.proofs.Common.{rules, Err}
use Rattle.serve.proofs.Naming.{releases, naming-refused, gone-good, gone-served}
use Rattle.serve.proofs.release.Goals as goal

pub returns-in_err-i : goal.returns-in_err-i
returns-in_err-i c =
    let same : c.from_residual.result ≡ Err c.in_err-i.field-0.0 = search rules in
    rw same (naming-refused _ _ _ _ c.requires.0 _ _ (releases c.args.client c.args.handle.0) _ _ (rw (c.listed.ensures.0, c.listed.ensures.1) at c.in_err-i.ensures), (refl, refl), refl)

pub finish-requires : goal.finish-requires
finish-requires c = (gone-good _ _ _ _ c.requires.0 _ (rw (c.listed.ensures.0, c.listed.ensures.1) at c.in_ok-i.ensures) _ _ c.remove.ensures.0, c.requires.1, c.requires.2)

pub returns : goal.returns
returns c = (gone-served _ _ _ _ c.requires.0 _ (rw (c.listed.ensures.0, c.listed.ensures.1) at c.in_ok-i.ensures) _ _ c.remove.ensures.0 _ _ _ _ c.finish.ensures.0, ((cc), (cc)), tt)
