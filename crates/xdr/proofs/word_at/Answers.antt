-- `word_at`: a byte more is one step of `be`.
use Rattle.std.proofs.Common.{arith, rules}
use native.Mathlib.Nat.{pow-suc}
use native.Mathlib.Numerals.{add-one}
use Rattle.xdr.specs.Be.{be}
use Rattle.xdr.proofs.Powers.{bytes_room}
use Rattle.xdr.proofs.word_at.Goals as goal

pub loop-j-init : goal.loop-j-init
unfolding be
loop-j-init c = search rules

pub overflow_mul-v : goal.overflow_mul-v
overflow_mul-v c = let r = bytes_room c.loop-j.j (omega arith) in let i = c.loop-j.invariant.1 in omega arith

pub overflow_add-v : goal.overflow_add-v
overflow_add-v c = let r = bytes_room c.loop-j.j (omega arith) in let i = c.loop-j.invariant.1 in omega arith

pub loop-j-preserved : goal.loop-j-preserved
unfolding be
loop-j-preserved c = rw (add-one, pow-suc) (rw (← c.loop-j.invariant.0, c.from.ensures), omega arith)
