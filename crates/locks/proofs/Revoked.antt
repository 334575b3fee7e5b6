-- A revocation makes a granted lock asked, which counts as granted: no test of one record against another changes.
use Prim.Native.Nat.{ℕ}
use native.Mathlib.Omega.{arith}
use mathlib.Core.Bool.{Bool, true, not, ◌&&◌, ◌||◌}
use mathlib.Core.List.{List, map}
use mathlib.Core.Path.{◌≡◌, refl, sym, ap, ap₂, subst, ◌∙◌}
use lib.Dec.{T, eqb, ltb, eqb→eq}
use borrow.Author.Tests.{ne_eqb}
use Rattle.common.specs.Ranges.{overlap}
use Rattle.common.specs.Tests.{any, all}
use Rattle.common.proofs.Bools.{and_l, by_cond}
use Rattle.common.proofs.Listed.{any-map, all_map, all_of}
use Rattle.modes.specs.Codes.{granted, asked}
use Rattle.modes.specs.declared.Entry.{Entry}
use Rattle.modes.specs.declared.Entry.TheVariants as e
use Rattle.modes.specs.Conflict.{entry, bars, conflict}
use Rattle.table.specs.declared.Lock.{Lock}
use Rattle.table.specs.Table.{waits, handle_of}
use Rattle.locks.specs.Conflicts.{other, against, conflicts, obstacle}
use Rattle.locks.specs.Settle.{in_state, presses, wanted, revoked}

-- x is granted where it is wanted
pub is-granted : (rs : List Lock) (x : Lock) → T (wanted rs x) → x.state ≡ granted
is-granted rs x t = eqb→eq x.state granted (and_l (eqb x.state granted) (any (presses x) rs) t)

pub same-matrix : (a m : ℕ) → conflict a m asked ≡ conflict a m granted
unfolding conflict
same-matrix a m = go (entry a m)
  where
    go : (x : Entry) → bars x asked ≡ bars x granted
    go e.Never = refl
    go e.Always = refl
    go e.Unless = refl

pub waits-same : (rs : List Lock) (x : Lock) → waits (revoked rs x) ≡ waits x
waits-same rs x =
    by_cond (λ (y : Lock). waits y ≡ waits x) (wanted rs x) (in_state asked x) x
    (λ t. sym (ne_eqb x.state 0 (let e = is-granted rs x t in λ z. omega arith))) (λ t. refl)

-- as the record that is asked against, and as the record that asks
against-same : (rs : List Lock) (w x : Lock) (l : ℕ) → against w l (revoked rs x) ≡ against w l x
against-same rs w x l =
    by_cond (λ (y : Lock). against w l y ≡ against w l x) (wanted rs x) (in_state asked x) x
    (λ t. ap (λ (b : Bool). (other w x && (eqb w.stripe x.stripe && overlap w.first l x.first x.last)) && b) (same-matrix w.mode x.mode ∙ ap (conflict w.mode x.mode) (sym (is-granted rs x t))))
    (λ t. refl)

by-asker : (rs : List Lock) (w x : Lock) → conflicts (revoked rs w) x ≡ conflicts w x
by-asker rs w x = by_cond (λ (y : Lock). conflicts y x ≡ conflicts w x) (wanted rs w) (in_state asked w) w (λ t. refl) (λ t. refl)

pub handle-same : (rs : List Lock) (x : Lock) → handle_of (revoked rs x) ≡ handle_of x
handle-same rs x = by_cond (λ (y : Lock). handle_of y ≡ handle_of x) (wanted rs x) (in_state asked x) x (λ t. refl) (λ t. refl)

pub presses-same : (rs : List Lock) (r x : Lock) → presses r (revoked rs x) ≡ presses r x
presses-same rs r x = ap₂ (λ (a b : Bool). a && b) (waits-same rs x) (by-asker rs x r)

pub obstacle-same : (rs : List Lock) (w x : Lock) → obstacle (revoked rs w) (revoked rs x) ≡ obstacle w x
obstacle-same rs w x =
    ap₂ (λ (a b : Bool). a && b)
    (ap₂ (λ (a b : Bool). not a || b) (waits-same rs x) (ap₂ ltb (handle-same rs x) (handle-same rs w)))
    (by-asker rs w (revoked rs x) ∙ against-same rs w x w.last)

-- After the revocations no lock in state 1 conflicts with a waiting request
pub none-wanted : (rs : List Lock) → T (all (λ r. not (wanted (map (revoked rs) rs) r)) (map (revoked rs) rs))
none-wanted rs = all_map (λ r. true) (λ r. not (wanted (map (revoked rs) rs) r)) (revoked rs) (λ r t. one r) rs (all_of (λ r. true) (λ r. tt) rs)
  where
    one : (r : Lock) → T (not (wanted (map (revoked rs) rs) (revoked rs r)))
    one r =
        by_cond (λ (y : Lock). T (not (wanted (map (revoked rs) rs) y))) (wanted rs r) (in_state asked r) r (λ t. tt)
        (λ t. subst (λ (b : Bool). T (not (eqb r.state granted && b))) (sym (any-map (presses r) (presses r) (revoked rs) (presses-same rs r) rs)) t)
