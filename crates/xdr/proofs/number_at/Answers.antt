-- `number_at`: a number of more than 4 bytes is two.
use Rattle.std.proofs.Common.{arith}
use Rattle.xdr.proofs.Numbers.{be-words}
use Rattle.xdr.proofs.Powers.{word-room, two-words}
use Rattle.xdr.proofs.number_at.Goals as goal

pub overflow_mul-result : goal.overflow_mul-result
overflow_mul-result g c =
    let r = word-room g.row.N c.requires.0 in
    let w = two-words g.row.N c.word_at-2.result 0 (omega arith) c.word_at-2.ensures.1 (omega arith) in
    omega arith

pub overflow_add-result : goal.overflow_add-result
overflow_add-result g c =
    let r = word-room g.row.N c.requires.0 in
    let w = two-words g.row.N c.word_at-2.result c.word_at-3.result (omega arith) c.word_at-2.ensures.1 c.word_at-3.ensures.1 in
    omega arith

pub returns : goal.returns
returns g c = (
  rw (c.word_at-2.ensures.0, c.word_at-3.ensures.0) (be-words g.row.N c.args.s.now c.args.at (omega arith)),
  two-words g.row.N c.word_at-2.result c.word_at-3.result (omega arith) c.word_at-2.ensures.1 c.word_at-3.ensures.1,
)
