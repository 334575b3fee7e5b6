-- What the program's own functions leave of a session.
use Rattle.std.specs.Prelude.{List, ℕ, OnOk}
use Rattle.std.specs.declared.result.Result.{Result}
use Rattle.common.specs.Counters.{width}
use Rattle.table.specs.Bytes.{table_of}
use Rattle.lines.specs.Buffers.{Keeps}
use Rattle.session.specs.Buffers.{Takes}

-- A piece is taken whole, where each write succeeds
abbrev pub Pours : {T E : Type 0} → List ℕ → List ℕ → List ℕ → Result T E → List ℕ → List ℕ → Type 0
Pours piece before begin r line table = OnOk r ((p : List ℕ) → Keeps before p → Takes (table_of width begin) p piece line table)
