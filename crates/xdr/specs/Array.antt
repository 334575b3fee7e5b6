-- A variable array of RFC 4506 whose elements are structures: their count in 4 bytes, then one element after the other.
use Rattle.std.specs.Prelude.{ℕ, suc, ◌+◌, ◌*◌, List, [], ◌∷◌, length}
use Rattle.xdr.specs.Be.{be, put_be}
use Rattle.xdr.specs.Layout.{fields, put_fields, size, Fit}
use Rattle.xdr.specs.Tab.{tab}

-- where element i of the array at `at` starts
abbrev pub element : List ℕ → ℕ → ℕ → ℕ
element ws at i = at + 4 + size ws * i

-- how many bytes an array of n elements has
abbrev pub array_size : ℕ → List ℕ → ℕ
array_size n ws = 4 + size ws * n

-- the elements of the array at `at`, each as the numbers in its fields
unfoldable pub array : List ℕ → List ℕ → ℕ → List (List ℕ)
array ws t at = tab (be 4 t at) (λ i. fields ws t (element ws at i) 0)

-- t with the elements vss from place k on
unfoldable pub put_elements : List ℕ → List ℕ → ℕ → ℕ → List (List ℕ) → List ℕ
put_elements ws t at k [] = t
put_elements ws t at k (vs ∷ vss) = put_elements ws (put_fields ws t (element ws at k) 0 vs) at (suc k) vss

-- t with the array of the elements vss at `at`
unfoldable pub put_array : List ℕ → List ℕ → ℕ → List (List ℕ) → List ℕ
put_array ws t at vss = put_be 4 (put_elements ws t at 0 vss) at (length vss)

-- each element fits
abbrev pub Fits : List ℕ → List (List ℕ) → Type 0
Fits ws [] = Unit {0}
Fits ws (vs ∷ vss) = Fit ws vs × Fits ws vss
