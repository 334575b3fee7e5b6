-- `digits`: what is left of the line, after the digits so far, reads as the whole.
use Rattle.std.proofs.Common.{◌≡◌, length}
use Rattle.line.specs.Format.{read_digits}
use Rattle.line.proofs.Fields.digits.Given as goal

abbrev pub invariant-loop-b : goal.invariant-loop-b
invariant-loop-b l = read_digits l.v l.self.rest.now ≡ read_digits l.front l.fn.self.rest.now

abbrev pub decreases-loop-b : goal.decreases-loop-b
decreases-loop-b l = length l.self.rest.now
