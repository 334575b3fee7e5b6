-- `word_at`: the number of the first j bytes.
use Rattle.std.proofs.Common.{◌≡◌, ◌^◌, ◌<◌}
use Rattle.xdr.specs.Be.{be}
use Rattle.xdr.proofs.word_at.Given as goal

abbrev pub invariant-loop-j : goal.invariant-loop-j
invariant-loop-j l = (l.v ≡ be l.j l.s l.at) × (l.v < 256 ^ l.j)
