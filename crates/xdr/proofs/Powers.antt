-- Powers of 256: as powers of 2, by which a shift divides, and those of 8 bytes at most.
use mathlib.Core.Path.{◌≡◌, refl, ap, ◌∙◌}
use Prim.Native.Nat.{ℕ, zero, suc, ◌+◌, ◌*◌, ◌/◌, ◌%◌, ◌-◌, ◌^◌, ◌≤◌, ◌<◌}
use mathlib.Core.List.{List}
use native.Mathlib.Nat.{mul-suc, pow-suc, div-div-eq-div-mul}
use Rattle.std.proofs.lemmas.Nat.{pow-add}
use native.Mathlib.Omega.{arith}
use lib.ListN.{set}
use Rattle.std.proofs.Math.Pow.{pow_mono}
use Rattle.xdr.specs.Be.{put_be}

bytes-bits : (k : ℕ) → 256 ^ k ≡ 2 ^ (8 * k)
bytes-bits zero = refl
bytes-bits (suc k) = rw (pow-suc 256 k, mul-suc 8 k, pow-add 2 (8 * k) 8, bytes-bits k)

-- one byte more of a number of fewer than 8
pub bytes_room : (j : ℕ) → j < 8 → 256 ^ j * 256 ≤ 2 ^ 64
bytes_room j h = rw (bytes-bits j) (let m = pow_mono {i = 8 * j} {j = 56} (omega arith) in omega arith)

-- one byte more of a number is stored, of the n that it has
pub put_more : (n j : ℕ) (s : List ℕ) (at v : ℕ) → j < n
    → set (put_be j s at (v / 256 ^ (n - j))) (at + j) (v / 2 ^ (8 * (n - 1 - j)) % 256) ≡ put_be (suc j) s at (v / 256 ^ (n - suc j))
unfolding put_be
put_more n j s at v h =
    let e : n - j ≡ suc (n - suc j) = omega arith in
    let f : n - 1 - j ≡ n - suc j = omega arith in
    rw (e, f, ← bytes-bits (n - suc j), pow-suc, ← div-div-eq-div-mul)

-- a number of n bytes, 8 at most, fits 64 bits
pub word-room : (n : ℕ) → n ≤ 8 → 256 ^ n ≤ 2 ^ 64
word-room n h = rw (bytes-bits n) (pow_mono {i = 8 * n} {j = 64} (omega arith))

-- a number of more than 4 bytes, as two
pub two-words : (n a b : ℕ) → 4 < n → a < 256 ^ (n - 4) → b < 256 ^ 4 → a * 4294967296 + b < 256 ^ n
two-words n a b h p q =
    let e : n ≡ (n - 4) + 4 = omega arith in
    let f : 256 ^ n ≡ 256 ^ (n - 4) * 256 ^ 4 = ap (λ (k : ℕ). 256 ^ k) e ∙ pow-add 256 (n - 4) 4 in
    rw f (omega arith)
