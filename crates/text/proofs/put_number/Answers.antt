-- `put_number`: the library's digits are those of `decimal`, and there is room for them.
use Rattle.std.proofs.Common.{rules, arith}
use Rattle.text.proofs.Decimal.{library-decimal}
use Rattle.text.proofs.put_number.Goals as goal

pub returns : goal.returns
returns g c = let e = library-decimal c.args.n (omega arith) in search (rules, e)
