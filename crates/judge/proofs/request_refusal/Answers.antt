-- `request_refusal`: 8 counts the records that the bytes say.
use mathlib.Core.Path.{◌∙◌}
use Rattle.std.proofs.Common.{rules, ◌≡◌, length}
use Rattle.common.specs.Counters.{width}
use Rattle.table.specs.Bytes.{locks_of}
use Rattle.table.proofs.Reading.{locks-length}
use Rattle.judge.proofs.request_refusal.Goals as goal

pub returns-then-t-ge-MAX_RECORDS : goal.returns-then-t-ge-MAX_RECORDS
returns-then-t-ge-MAX_RECORDS c =
    let many : length (locks_of width c.args.t.now.records.bytes.now) ≡ c.args.t.now.n = locks-length c.args.t.now.records.bytes.now ∙ c.args.t.now.shape.count in
    rw many (search rules)

pub returns : goal.returns
returns c =
    let many : length (locks_of width c.args.t.now.records.bytes.now) ≡ c.args.t.now.n = locks-length c.args.t.now.records.bytes.now ∙ c.args.t.now.shape.count in
    rw many (search rules)
