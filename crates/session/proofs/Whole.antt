-- The program as a whole, `Whole` of specs/Run: from its own buffers a run goes on to the end of its input, and it writes what each run of it writes.
use mathlib.Core.Path.{subst}
use mathlib.Core.List.{[]}
use Rattle.common.specs.Counters.{width}
use Rattle.table.specs.Bytes.{table_size}
use Rattle.common.proofs.Blank.{blank-bytes}
use Rattle.session.specs.Run.{Run, start, Whole}
use Rattle.table.proofs.Zeros.{zeros-sound}
use Rattle.session.proofs.Only.{only}
use Rattle.session.proofs.Onward.{goes_on}

pub whole : Whole
whole =
    record {
      some = λ pieces.
          let R = goes_on pieces {line = []} zeros-sound (blank-bytes (table_size width)) in
          subst (Run [] start pieces) (only pieces R.0 R.1) R.1;
      only = only;
      goes_on = goes_on;
    }
