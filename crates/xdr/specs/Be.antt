-- An unsigned integer of RFC 4506 in a list of bytes: big-endian, over its width in bytes.
use Rattle.std.specs.Prelude.{ℕ, zero, suc, ◌+◌, ◌*◌, ◌/◌, ◌%◌, ◌<◌, List, get_or, set}

-- every element of s is a byte
abbrev pub Bytes : List ℕ → Type 0
Bytes s = (i : ℕ) → get_or s i 0 < 256

-- the number in the n bytes of s from `at` on
unfoldable pub be : ℕ → List ℕ → ℕ → ℕ
be zero s at = 0
be (suc n) s at = be n s at * 256 + get_or s (at + n) 0

-- s with v in the n bytes from `at` on
unfoldable pub put_be : ℕ → List ℕ → ℕ → ℕ → List ℕ
put_be zero s at v = s
put_be (suc n) s at v = set (put_be n s at (v / 256)) (at + n) (v % 256)
