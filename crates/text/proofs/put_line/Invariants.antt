-- `put_line`: after i turns the letter stands there, and the first i numbers behind it.
use Rattle.std.proofs.Common.{◌+◌, ◌*◌, ◌∷◌, take}
use Rattle.text.specs.Text.{fields_text}
use Rattle.text.specs.Buffers.{Wrote}
use Rattle.text.proofs.put_line.Given as goal

abbrev pub invariant-loop-n : goal.invariant-loop-n
invariant-loop-n g l = Wrote (1 + 21 * l.n-index) l.fn.out.items l.out.items (l.letter ∷ fields_text (take l.n-index l.numbers))
