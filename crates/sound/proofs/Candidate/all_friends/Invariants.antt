use Rattle.std.proofs.Common.{◌≡◌, ◌+◌, ◌≤◌}
use mathlib.Core.Bool.{true, ◌&&◌}
use lib.ListN.{drop}
use Rattle.common.specs.Counters.{width}
use Rattle.common.specs.Tests.{all, pairs}
use Rattle.table.specs.Bytes.{locks_of}
use Rattle.sound.specs.Parts.{friendly}
use Rattle.sound.proofs.Candidate.all_friends.Given as goal

abbrev pub invariant-loop-j : goal.invariant-loop-j
invariant-loop-j l =
    (l.j ≤ l.fn.self.n) × (l.ok ≡ true)
    × ((all (friendly l.holder.1.0) (drop l.j (locks_of width l.fn.self.records.bytes.now)) && pairs friendly (drop (l.i + 1) (locks_of width l.fn.self.records.bytes.now))) ≡ pairs friendly (locks_of width l.fn.self.records.bytes.now))

abbrev pub invariant-search : goal.invariant-search
invariant-search l =
    (l.i ≤ l.fn.self.n) × (l.ok ≡ true) × (pairs friendly (drop l.i (locks_of width l.fn.self.records.bytes.now)) ≡ pairs friendly (locks_of width l.fn.self.records.bytes.now))
