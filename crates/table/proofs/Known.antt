-- A known mode stands in the last byte of its field: the other bytes are zeros.
use Prim.Native.Nat.{ℕ, ◌+◌, ◌≤◌, ◌<◌}
use native.Mathlib.Omega.{arith}
use mathlib.Core.List.{List}
use mathlib.Core.Path.{◌≡◌, refl, sym, subst}
use lib.Dec.{T, leb, leb→le}
use lib.ListN.{get_or, take}
use Rattle.common.specs.Counters.{width}
use Rattle.common.proofs.Bools.{and_l, and_r}
use Rattle.common.proofs.Scans.{all_here}
use Rattle.xdr.specs.Be.{be}
use Rattle.xdr.specs.Layout.{fields, size}
use Rattle.table.specs.declared.Lock.{Lock}
use Rattle.table.specs.Table.{blank}
use Rattle.table.specs.Bytes.{lock_layout, locks_of}
use Rattle.table.specs.Places.{lock_place, lock_at, Moded, moded}
use Rattle.table.proofs.Reading.{inside, nth-is}

known : (n i : ℕ) (t : List ℕ) → Moded n t → i < n → T (moded (lock_at t i))
known n i t F h =
    subst (λ (x : Lock). T (moded x)) (nth-is n i t (lock_at t i) F.shape h refl)
    (all_here moded blank (locks_of width t) i (inside n i t F.shape h) F.modes)

last_byte : (t : List ℕ) (at : ℕ) → be 4 t at ≤ 4 → get_or t (at + 3) 0 ≡ be 4 t at
unfolding be
last_byte t at h = omega arith

-- the last byte of the mode of a record that starts at p
abbrev pub mode_byte : ℕ → ℕ
mode_byte p = p + size (take 3 (lock_layout width)) + 3

pub mode-byte : (n i p : ℕ) (t : List ℕ) → Moded n t → i < n → p ≡ lock_place i
    → (get_or t (mode_byte p) 0 ≡ (lock_at t i).mode) × (1 ≤ get_or t (mode_byte p) 0) × (get_or t (mode_byte p) 0 ≤ 4)
unfolding lock_at fields
mode-byte n i p t F h q =
    let m : ℕ = (lock_at t i).mode in
    let k = known n i t F h in
    let lo : 1 ≤ m = leb→le 1 m (and_l (leb 1 m) (leb m 4) k) in
    let hi : m ≤ 4 = leb→le m 4 (and_r (leb 1 m) (leb m 4) k) in
    let e : get_or t (mode_byte (lock_place i)) 0 ≡ m = last_byte t (lock_place i + size (take 3 (lock_layout width))) hi in
    rw q (e, subst (λ (x : ℕ). 1 ≤ x) (sym e) lo, subst (λ (x : ℕ). x ≤ 4) (sym e) hi)
