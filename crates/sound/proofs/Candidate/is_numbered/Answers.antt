use Rattle.common.specs.Counters.{width}
use Rattle.table.specs.Bytes.{table_of}
use Rattle.table.proofs.Reading.{lasts-length}
use Rattle.sound.proofs.Numbers.{is-nowhere}
use Rattle.sound.proofs.Candidate.is_numbered.Goals as goal

pub returns-then-l-gt-MAX_STRIPE : goal.returns-then-l-gt-MAX_STRIPE
returns-then-l-gt-MAX_STRIPE c =
    let t = c.args.self.now.records.bytes.now in
    is-nowhere (table_of width t).lasts c.args.l c.if-waits-l.false (lasts-length t) c.if-l-gt-MAX_STRIPE.true
