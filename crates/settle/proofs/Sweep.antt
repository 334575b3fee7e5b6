-- Revoking place by place: a revocation changes no record that waits, so each record is wanted as it was before the first one.
use Prim.Native.Nat.{ℕ, suc, ◌+◌, ◌<◌}
use native.Mathlib.Omega.{arith}
use native.Mathlib.Numerals.{add-one}
use mathlib.Core.Bool.{Bool, true, false, ◌&&◌, cond}
use mathlib.Core.List.{List, [], ◌∷◌, ◌++◌, map, map-append}
use mathlib.Core.Path.{◌≡◌, refl, sym, ap, ap₂, subst, ◌∙◌}
use lib.Dec.{T, eqb}
use lib.ListN.{length, get_or, set, take, length-map, length-append}
use lib.Seq.{set-get_or, take-length, take_all}
use Rattle.common.specs.Counters.{width}
use Rattle.common.specs.Tests.{all, any, keep}
use Rattle.common.proofs.Bools.{by_cond, and-false}
use Rattle.common.proofs.Scans.{none-imp}
use Rattle.common.proofs.Partly.{partly, partly_none, partly-all, partly_here, partly_more, partly-keeps, partly-any, partly-first, keep-more, keep-first, keep-none, map_same}
use Rattle.modes.specs.Codes.{granted, asked}
use Rattle.table.specs.declared.Lock.{Lock}
use Rattle.table.specs.Table.{Table, blank, waits}
use Rattle.table.specs.Bytes.{locks_of, table_of}
use Rattle.table.specs.Places.{Shape, Moded, moded, Past, First, with_lock, with_locks}
use Rattle.table.proofs.Reading.{locks-length, inside}
use Rattle.locks.specs.Settle.{Event, Settled, revocation, in_state, presses, wanted, revoked, revocations, revoke}
use Rattle.conflicts.proofs.Tests.{rests}
use Rattle.locks.proofs.Revoked.{waits-same, presses-same}
use Rattle.locks.specs.Events.{Room}
use Rattle.settle.specs.Posts.{fresh, Did, revoke_at}
use Rattle.settle.proofs.Written.{did_none, and_then, did_then}

-- the records of X, of which the first i are revoked where they are wanted, and their events
abbrev pub sofar : Table → ℕ → Settled
sofar X i = record { table = with_locks X (partly (revoked X.locks) X.locks i); events = map (λ r. revocation (in_state asked r)) (keep (wanted X.locks) (take i X.locks)) }

wanted-same : (rs : List Lock) (i : ℕ) (r : Lock) → wanted (partly (revoked rs) rs i) r ≡ wanted rs r
wanted-same rs i r = ap (λ (b : Bool). eqb r.state granted && b) (partly-any (revoked rs) (presses r) (presses-same rs r) rs i)

sofar-on : (X : Table) (i : ℕ) → i < length X.locks → sofar X (suc i) ≡ and_then (sofar X i) (revoke_at i (sofar X i).table)
unfolding revoke_at
sofar-on X i h =
    rw (partly_here (revoked rs) blank rs i, wanted-same rs i x, ← partly_more (revoked rs) blank rs i h, keep-more (wanted rs) blank rs i h, map-append (λ r. revocation (in_state asked r)))
    (go (wanted rs x) (set_same))
  where
    rs : List Lock
    rs = X.locks

    x : Lock
    x = get_or rs i blank

    P : List Lock
    P = partly (revoked rs) rs i

    E : List Event
    E = (sofar X i).events

    set_same : set P i x ≡ P
    set_same = ap (set P i) (sym (partly_here (revoked rs) blank rs i)) ∙ set-get_or P i blank

    go : (b : Bool) → set P i x ≡ P
        → ◌≡◌ {A = Settled} (record { table = with_locks X (set P i (cond b (in_state asked x) x)); events = E ++ map (λ r. revocation (in_state asked r)) (cond b (x ∷ []) []) })
        (and_then (sofar X i) (cond b (record { table = with_lock (sofar X i).table i (in_state asked x); events = revocation (in_state asked x) ∷ [] }) (fresh (sofar X i).table)))
    go true e = refl
    go false e = λ k. record { table = with_locks X (e k); events = E ++ [] }

-- the table t, of which the first i places are done
module _ (n : ℕ) (t : List ℕ) (S : Shape n t) where
  abbrev rows : List Lock
  rows = locks_of width t

  pub sofar-none : (k : ℕ) (b : List ℕ) → Did n k (sofar (table_of width t) 0) b k t b
  sofar-none k b = subst (λ (l : List Lock). Did n k (fresh (with_locks (table_of width t) l)) b k t b) (sym (partly_none (revoked rows) rows)) (did_none n k t b S)

  pub sofar-end : (i j k : ℕ) (b u c : List ℕ) → i ≡ n → Did n j (sofar (table_of width t) i) b k u c → Did n j (revoke (fresh (table_of width t))) b k u c
  sofar-end i j k b u c e D =
      let l : i ≡ length rows = e ∙ sym (locks-length t ∙ S.count) in
      subst (λ (s : Settled). Did n j s b k u c)
      (ap (sofar (table_of width t)) l
      ∙ ap₂ {C = Settled} (λ (x y : List Lock). record { table = with_locks (table_of width t) x; events = map (λ r. revocation (in_state asked r)) (keep (wanted rows) y) }) (partly-all (revoked rows) rows) (take-length rows)) D

  module _ (i j k : ℕ) (b u c : List ℕ) (D : Did n j (sofar (table_of width t) i) b k u c) where
    now-rows : locks_of width u ≡ partly (revoked rows) rows i
    now-rows = ap (λ (X : Table). X.locks) D.table.says

    pub sofar-moded : T (all moded rows) → Moded n u
    sofar-moded m = record {
      shape = D.table.shape;
      modes = subst (λ (l : List Lock). T (all moded l)) (sym now-rows) (partly-keeps (revoked rows) moded (λ x v. by_cond (λ (y : Lock). T (moded y)) (wanted rows x) (in_state asked x) x (λ w. v) (λ w. v)) rows i m);
    }

    pub sofar-past : (f : ℕ) → Past waits n rows f → Past waits n (locks_of width u) f
    sofar-past f P = record {
      most = P.most;
      none = ap (λ (l : List Lock). any waits (take f l)) now-rows ∙ partly-first (revoked rows) waits (waits-same rows) rows i f ∙ P.none;
    }

    module _ (h : i < n) where
      on : sofar (table_of width t) (suc i) ≡ and_then (sofar (table_of width t) i) (revoke_at i (table_of width u))
      on = sofar-on (table_of width t) i (inside n i t S h) ∙ ap (λ (X : Table). and_then (sofar (table_of width t) i) (revoke_at i X)) (sym D.table.says)

      pub sofar-more : (r : ℕ) (v d : List ℕ) → Did n k (revoke_at i (table_of width u)) c r v d → Did n j (sofar (table_of width t) (i + 1)) b r v d
      sofar-more r v d E = rw add-one (subst (λ (s : Settled). Did n j s b r v d) (sym on) (did_then n j k r (sofar (table_of width t) i) (revoke_at i (table_of width u)) b u c v d D E))

      pub sofar-room : (e : List ℕ) → length c ≡ length e → Room (j + length (revocations rows)) e → Room (k + length (revoke_at i (table_of width u)).events) c
      sofar-room e l m =
          let p = ap (λ (s : Settled). length s.events) on in
          let q = D.count in
          omega (
            arith,
            length-append (sofar (table_of width t) i).events (revoke_at i (table_of width u)).events,
            length-map (keep (wanted rows) (take (suc i) rows)) (λ r. revocation (in_state asked r)),
            length-map (keep (wanted rows) rows) (λ r. revocation (in_state asked r)),
            keep-first (wanted rows) rows (suc i),
          )

-- where none waits there is nothing to do
pub nothing-wanted : (n k : ℕ) (t b : List ℕ) → Shape n t → First waits n (locks_of width t) n → Did n k (revoke (fresh (table_of width t))) b k t b
nothing-wanted n k t b S F =
    rw (map_same (revoked rs) (λ r. rw (unwanted r)) rs, keep-none (wanted rs) unwanted rs) (did_none n k t b S)
  where
    rs : List Lock
    rs = locks_of width t

    none-waits : any waits rs ≡ false
    none-waits = ap (any waits) (sym (take_all n rs (let l = locks-length t in let c = S.count in omega arith))) ∙ F.past.none

    unwanted : (r : Lock) → wanted rs r ≡ false
    unwanted r = ap (λ (x : Bool). eqb r.state granted && x) (none-imp waits (presses r) (rests r) rs none-waits) ∙ and-false (eqb r.state granted)
