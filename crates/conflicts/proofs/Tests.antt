-- Who waits not, presses not.
use Prim.Native.Nat.{ℕ}
use mathlib.Core.Bool.{Bool, false, ◌&&◌}
use mathlib.Core.List.{List}
use mathlib.Core.Path.{◌≡◌, ap}
use lib.ListN.{take}
use Rattle.common.proofs.Scans.{none-imp}
use Rattle.table.specs.declared.Lock.{Lock}
use Rattle.table.specs.Table.{waits}
use Rattle.table.specs.Places.{Past}
use Rattle.locks.specs.Conflicts.{conflicts}
use Rattle.locks.specs.Settle.{presses}

pub rests : (r x : Lock) → waits x ≡ false → presses r x ≡ false
rests r x e = ap (λ (b : Bool). b && conflicts x r) e

pub none-press : (n i : ℕ) (rs : List Lock) (r : Lock) → Past waits n rs i → Past (presses r) n rs i
none-press n i rs r s = record { most = s.most; none = none-imp waits (presses r) (rests r) (take i rs) s.none }
