use Rattle.std.proofs.Common.{◌≡◌, ◌≤◌}
use mathlib.Core.Bool.{◌&&◌}
use Rattle.common.specs.Counters.{width}
use Rattle.common.specs.Tests.{all}
use Rattle.table.specs.Table.{stripe_count}
use Rattle.table.specs.Sound.{room, stripes}
use Rattle.table.specs.Bytes.{table_of}
use Rattle.sound.proofs.Left.{stripes_from}
use Rattle.sound.proofs.Candidate.rooms.Given as goal

abbrev pub invariant-loop-s : goal.invariant-loop-s
invariant-loop-s l =
    (l.s ≤ stripe_count)
    × ((l.ok && all (room l.fn.self.issued (table_of width l.fn.self.records.bytes.now).lasts (table_of width l.fn.self.records.bytes.now).locks) (stripes_from l.s)) ≡ all (room l.fn.self.issued (table_of width l.fn.self.records.bytes.now).lasts (table_of width l.fn.self.records.bytes.now).locks) stripes)
