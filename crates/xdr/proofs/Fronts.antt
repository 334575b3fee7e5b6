-- What is stored in the front of a list leaves what stands behind: a number, a structure, elements.
use mathlib.Core.Path.{◌≡◌, refl, ap, ◌∙◌}
use mathlib.Core.List.{List, [], ◌∷◌, ◌++◌}
use Prim.Native.Nat.{ℕ, zero, suc, ◌+◌, ◌/◌, ◌%◌, ◌≤◌}
use native.Mathlib.Omega.{arith}
use lib.ListN.{length, set}
use lib.Seq.{set-append_left}
use Rattle.xdr.specs.Be.{put_be}
use Rattle.xdr.specs.Layout.{put_fields, size}
use Rattle.xdr.specs.Array.{element, put_elements}
use Rattle.xdr.proofs.Numbers.{put-length}
use Rattle.xdr.proofs.Fields.{put-fields-length}

put_front : (n : ℕ) (s t : List ℕ) (at v : ℕ) → at + n ≤ length s → put_be n (s ++ t) at v ≡ put_be n s at v ++ t
unfolding put_be
put_front zero s t at v h = refl
put_front (suc n) s t at v h =
    ap (λ (l : List ℕ). set l (at + n) (v % 256)) (put_front n s t at (v / 256) (omega arith))
    ∙ set-append_left (put_be n s at (v / 256)) t (at + n) (v % 256) (let e = put-length n s at (v / 256) in omega arith)

put-fields-front : (ws s t : List ℕ) (at o : ℕ) (vs : List ℕ) → at + (o + size ws) ≤ length s → put_fields ws (s ++ t) at o vs ≡ put_fields ws s at o vs ++ t
unfolding put_fields
put-fields-front [] s t at o vs h = refl
put-fields-front (w ∷ ws) s t at o [] h = refl
put-fields-front (w ∷ ws) s t at o (v ∷ vs) h =
    ap (λ (l : List ℕ). put_fields ws l at (o + w) vs) (put_front w s t (at + o) v (omega arith))
    ∙ put-fields-front ws (put_be w s (at + o) v) t at (o + w) vs (let e = put-length w s (at + o) v in omega arith)

pub put-elements-front : (ws s t : List ℕ) (at k : ℕ) (vss : List (List ℕ)) → element ws at (k + length vss) ≤ length s
    → put_elements ws (s ++ t) at k vss ≡ put_elements ws s at k vss ++ t
unfolding put_elements
put-elements-front ws s t at k [] h = refl
put-elements-front ws s t at k (vs ∷ vss) h =
    ap (λ (l : List ℕ). put_elements ws l at (suc k) vss) (put-fields-front ws s t (element ws at k) 0 vs (omega arith))
    ∙ put-elements-front ws (put_fields ws s (element ws at k) 0 vs) t at (suc k) vss (let e = put-fields-length ws s (element ws at k) 0 vs in omega arith)
