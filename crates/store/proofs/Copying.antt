-- A stretch is copied part by part, from the front on.
use Prim.Native.Nat.{ℕ, ◌+◌, ◌-◌, ◌≤◌}
use mathlib.Core.Path.{◌≡◌}
use mathlib.Core.List.{List, append_assoc}
use native.Mathlib.Omega.{arith}
use lib.ListN.{length, take, drop, length-take}
use lib.Seq.{take_at, take-add}
use borrow.Rule.Slice.PartMut.{mid_of, put_mid}

-- put in from place i up to before place e, the piece's bytes make the first e right
pub grown : (i e : ℕ) (part piece : List ℕ) → i ≤ e → e ≤ length piece → take i part ≡ take i piece
    → take e (put_mid i (e - i) part (mid_of i (e - i) piece)) ≡ take e piece
grown i e part piece h g same =
    let k : ℕ = e - i in
    let q : i + k ≡ e = omega arith in
    rw (same, ← append_assoc, ← take-add, q, take_at (take e piece) (drop k (drop i part)) e (simp length-take (omega arith)))
