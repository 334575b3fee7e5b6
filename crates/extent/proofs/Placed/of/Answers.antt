-- `Placed::of`: what refusals 14 and 15 let pass.
use Rattle.std.proofs.Common.{sym, ◌∙◌, arith}
use Rattle.runs.proofs.Ages.{exact-pass}
use Rattle.stripe.proofs.Accepted.{placed, numbered, numbered-pos, numbered-exact}
use Rattle.extent.proofs.Placed.of.Goals as goal

pub invariant_of-result : goal.invariant_of-result
invariant_of-result c =
    let e = c.args.e in
    let p = placed e c.args.image (sym c.is_misplaced.ensures ∙ c.if-is_misplaced.false) in
    let n = numbered e (sym c.is_misnumbered.ensures ∙ c.if-is_misnumbered.false) in
    record { ends = omega arith; granted = numbered-pos e n; fits = exact-pass e.age (numbered-exact e n) }
