-- `later`: the derived order is that of the ages' ℕ.
use native.Mathlib.Omega.{arith}
use mathlib.Core.Path.{◌∙◌, ◌≡◌}
use mathlib.Core.Bool.{true, ◌&&◌, cond}
use lib.Dec.{eqb, ltb}
use Rattle.std.proofs.lemmas.Grind.{common_steps}
use Rattle.runs.proofs.Ages.{older-pair, later-pair}
use Rattle.runs.proofs.later.Goals as goal

pub returns : goal.returns
returns c =
    let a = c.args.a in
    let b = c.args.b in
    let e : c.max.result ≡ cond (cond (ltb b.number.0 a.number.0) true (eqb b.number.0 a.number.0 && ltb b.pass.0 a.pass.0)) a b = grind (arith, common_steps) in
    rw (older-pair b a c.requires.1 c.requires.0) at e ∙ later-pair a b c.requires.0 c.requires.1
