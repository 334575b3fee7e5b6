use Rattle.std.proofs.Common.{◌≡◌, ◌≤◌}
use mathlib.Core.Bool.{◌&&◌}
use lib.ListN.{drop}
use Rattle.common.specs.Counters.{width}
use Rattle.common.specs.Tests.{all}
use Rattle.table.specs.Sound.{valid}
use Rattle.table.specs.Bytes.{table_of, locks_of}
use Rattle.sound.specs.Parts.{Tallied, climbs}
use Rattle.sound.proofs.Candidate.each_sound.Given as goal

abbrev pub invariant-loop-i : goal.invariant-loop-i
invariant-loop-i l =
    (l.i ≤ l.fn.self.n)
    × ((all (valid l.fn.self.issued (table_of width l.fn.self.records.bytes.now).lasts) (drop l.i (locks_of width l.fn.self.records.bytes.now)) && climbs l.before.0 (drop l.i (locks_of width l.fn.self.records.bytes.now))) ≡ (all (valid l.fn.self.issued (table_of width l.fn.self.records.bytes.now).lasts) (locks_of width l.fn.self.records.bytes.now) && climbs 0 (locks_of width l.fn.self.records.bytes.now)))
    × Tallied l.i l.waiters (locks_of width l.fn.self.records.bytes.now)
