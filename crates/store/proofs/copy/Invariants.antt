-- `copy`: after k blocks these are copied.
use Rattle.std.proofs.Common.{◌≡◌, ◌*◌, take}
use Rattle.store.proofs.copy.Given as goal

abbrev pub invariant-loop-k : goal.invariant-loop-k
invariant-loop-k l = take (16384 * l.k) l.part ≡ take (16384 * l.k) l.bytes
