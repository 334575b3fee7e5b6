-- `is_blank`: the greatest byte is 0 where all are.
use Rattle.std.proofs.Common.{drop}
use Rattle.common.proofs.Blank.{greatest-blank, rest-of}
use Rattle.common.proofs.is_blank.Goals as goal

pub returns : goal.returns
returns c = rw (c.greatest.ensures, rest-of _ _ _ c.min.ensures) (greatest-blank 0 (drop c.args.from c.args.s.now))
