-- Elements that are stored behind others are stored with them.
use mathlib.Core.Path.{◌≡◌, ◌∙◌}
use mathlib.Core.List.{List, [], ◌∷◌, ◌++◌}
use Prim.Native.Nat.{ℕ, suc, ◌+◌}
use native.Mathlib.Nat.{add-zero}
use native.Mathlib.Omega.{arith}
use lib.ListN.{length}
use Rattle.xdr.specs.Layout.{put_fields}
use Rattle.xdr.specs.Array.{element, put_elements}

pub put-elements-append : (ws t : List ℕ) (at k j : ℕ) (us vs : List (List ℕ)) → j ≡ k + length us
    → put_elements ws (put_elements ws t at k us) at j vs ≡ put_elements ws t at k (us ++ vs)
unfolding put_elements
put-elements-append ws t at k j [] vs e = rw (e ∙ add-zero k)
put-elements-append ws t at k j (u ∷ us) vs e = put-elements-append ws (put_fields ws t (element ws at k) 0 u) at (suc k) j us vs (omega arith)
