-- `gather`: no break stands in the bytes before the one that is found, or in any.
use Rattle.std.proofs.Common.{◌≡◌, rules, tests, arith}
use Rattle.std.proofs.lemmas.Iterator.{YieldsList-from_slice, IsFirst-from_position}
use Prim.Native.Char.{code}
use Rattle.lines.proofs.Pieces.{gathered-part, gathered-line}
use Rattle.lines.proofs.gather.Goals as goal

pub returns-in_default : goal.returns-in_default
returns-in_default g c =
    let F =
    IsFirst-from_position _ _ _ (λ b. b ≡ code "\n") (λ b. b ≡ code "\n" → ⊥) c.in_default.ensures.ran
    (YieldsList-from_slice c.args.piece.now c.iter.ensures.rest) (λ x q k. search (rules, tests)) (λ x q k. search (rules, tests)) in
    record {
      within = omega arith;
      onward = λ z. z;
      gathered = λ p k. gathered-part p _ _ (λ i l. F i 0 (omega arith) l) (c.keep.ensures p k);
    }

pub returns : goal.returns
returns g c =
    let F =
    IsFirst-from_position _ _ _ (λ b. b ≡ code "\n") (λ b. b ≡ code "\n" → ⊥) c.in-Some.ensures.ran
    (YieldsList-from_slice c.args.piece.now c.iter.ensures.rest) (λ x q k. search (rules, tests)) (λ x q k. search (rules, tests)) in
    record {
      within = omega (arith, F.0);
      onward = λ z. omega arith;
      gathered = λ p k. gathered-line p _ _ c.in-Some.end F.0 (F.1 0) (λ j l. F.2 j 0 (omega arith) l) (c.keep-2.ensures p k);
    }
