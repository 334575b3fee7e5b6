-- `put_number`: the first j bytes hold what stands above the bytes to come.
use Rattle.std.proofs.Common.{◌≡◌, ◌^◌, ◌-◌, ◌/◌}
use Rattle.xdr.specs.Be.{put_be}
use Rattle.xdr.proofs.put_number.Given as goal

abbrev pub invariant-loop-j : goal.invariant-loop-j
invariant-loop-j g l = l.s ≡ put_be l.j l.fn.s l.at (l.v / 256 ^ (g.row.N - l.j))
