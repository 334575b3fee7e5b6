-- The place of a piece that is not empty, with a last byte that does not wrap.
use Prim.Native.Nat.{pred, ◌+◌, ◌-◌, ◌<◌}
use mathlib.Core.Path.{◌≡◌}
use native.Mathlib.Omega.{arith}
use Rattle.stripe.specs.declared.Extent.{Extent}
use Rattle.stripe.specs.Piece.{place}

pub piece-place : (e : Extent) → 0 < e.len → record { first = e.first; last = e.first + (e.len - 1); age = (place e).age } ≡ place e
piece-place e h =
    let q : e.first + (e.len - 1) ≡ pred (e.first + e.len) = omega arith in
    λ i. record { first = e.first; last = q i; age = (place e).age }
