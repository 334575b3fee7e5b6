-- A structure of RFC 4506 whose fields are unsigned integers, one after the other: the list of their widths in bytes.
use Rattle.std.specs.Prelude.{ℕ, ◌+◌, ◌^◌, ◌<◌, List, [], ◌∷◌}
use Rattle.xdr.specs.Be.{be, put_be}

-- the numbers in fields of the widths ws; the first field starts o bytes past `at`
unfoldable pub fields : List ℕ → List ℕ → ℕ → ℕ → List ℕ
fields [] t at o = []
fields (w ∷ ws) t at o = be w t (at + o) ∷ fields ws t at (o + w)

-- t with the numbers vs in these fields
unfoldable pub put_fields : List ℕ → List ℕ → ℕ → ℕ → List ℕ → List ℕ
put_fields [] t at o vs = t
put_fields (w ∷ ws) t at o [] = t
put_fields (w ∷ ws) t at o (v ∷ vs) = put_fields ws (put_be w t (at + o) v) at (o + w) vs

-- how many bytes the structure has
abbrev pub size : List ℕ → ℕ
size [] = 0
size (w ∷ ws) = w + size ws

-- vs has one number for each field, and each fits its width
abbrev pub Fit : List ℕ → List ℕ → Type 0
Fit [] [] = Unit {0}
Fit [] (v ∷ vs) = ⊥
Fit (w ∷ ws) [] = ⊥
Fit (w ∷ ws) (v ∷ vs) = (v < 256 ^ w) × Fit ws vs
