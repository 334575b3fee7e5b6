-- `copy_bytes`: the first i bytes of the part are those to copy.
use Rattle.std.proofs.Common.{◌≡◌, take}
use Rattle.store.proofs.copy_bytes.Given as goal

abbrev pub invariant-loop-i : goal.invariant-loop-i
invariant-loop-i l = take l.i l.part ≡ take l.i l.bytes
