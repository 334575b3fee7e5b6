-- `raised`: the runs from place i on are left to draw.
use Prim.Native.Nat.{suc, ◌≤◌}
use mathlib.Core.Path.{◌≡◌}
use mathlib.Core.List.{◌∷◌}
use lib.ListN.{drop}
use Rattle.common.specs.Counters.{width}
use Rattle.common.specs.Ranges.{eof}
use Rattle.runs.specs.Owner.{owner}
use Rattle.runs.specs.Bytes.{runs_of}
use Rattle.pen.specs.Drawing.{Drawn}
use Rattle.maps.proofs.Raising.{Left}
use Rattle.maps.proofs.raised.Given as goal

abbrev pub invariant-loop-i : goal.invariant-loop-i
invariant-loop-i l = record {
  most : l.d.pen.x ≤ suc eof;
  left : Left (runs_of width l.map.bytes.now) (drop l.i (runs_of width l.map.bytes.now)) l.d.pen.x;
  drawn : Drawn (owner (l.piece ∷ runs_of width l.map.bytes.now)) l.fn.out l.d.out.now l.d.pen;
  lent : l.d.out.ghost_name ≡ l.initial.d.out.ghost_name;
}
