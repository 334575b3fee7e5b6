-- Changes that make no lock conflict with more: a revocation, an acknowledgement, a downgrade. A waiting request stays as it is.
use Prim.Native.Nat.{ℕ, zero, suc, ◌-◌, ◌≤◌, ◌<◌}
use native.Mathlib.Omega.{arith}
use mathlib.Core.Bool.{Bool, ◌&&◌, cond}
use mathlib.Core.List.{List, []}
use mathlib.Core.Logic.{⊎_elim}
use mathlib.Core.Path.{◌≡◌, refl, sym, subst, ◌∙◌}
use lib.Dec.{T, eqb, eqb→eq, leb→le}
use lib.ListN.{get_or}
use borrow.Author.Tests.{ne_eqb}
use Rattle.common.specs.Ranges.{overlap}
use Rattle.common.proofs.Bools.{and_l, and_r, and_i, by_cond}
use Rattle.common.proofs.Order.{below}
use Rattle.modes.specs.Codes.{asked, canceling, nbw, bw, pw}
use Rattle.modes.specs.declared.Entry.{Entry}
use Rattle.modes.specs.declared.Entry.TheVariants as e
use Rattle.modes.specs.Conflict.{never, matrix, entry, bars, conflict}
use Rattle.table.specs.declared.Lock.{Lock}
use Rattle.table.specs.Table.{handle_of, waits}
use Rattle.locks.specs.Conflicts.{other, conflicts}
use Rattle.locks.specs.Settle.{in_state, wanted, revoked}
use Rattle.locks.specs.Refusals.{may_acknowledge, may_downgrade}
use Rattle.locks.specs.Serve.{downgraded}
use Rattle.locks.proofs.Revoked.{is-granted, same-matrix}

pub record Milder (r r' : Lock) : Type 0 where
  pub handle-is : handle_of r' ≡ handle_of r
  pub waits-is : waits r' ≡ waits r
  pub left : T (waits r') → r' ≡ r
  pub less : (w : Lock) → T (conflicts w r') → T (conflicts w r)

unchanged : (r : Lock) → Milder r r
unchanged r = record { handle-is = refl; waits-is = refl; left = λ t. refl; less = λ w t. t }

-- the same stripe, a byte in common
abbrev meets : Lock → Lock → Bool
meets w r = other w r && (eqb w.stripe r.stripe && overlap w.first w.last r.first r.last)

-- a held lock in another held state
moved : (s : ℕ) (r : Lock) → 1 ≤ r.state → 1 ≤ s → ((a : ℕ) → T (conflict a r.mode s) → T (conflict a r.mode r.state)) → Milder r (in_state s r)
moved s r h k f =
    record {
      handle-is = refl;
      waits-is = ne_eqb s 0 (omega arith) ∙ sym (ne_eqb r.state 0 (omega arith));
      left = λ t. absurd (let e = eqb→eq s 0 t in let z : ⊥ = omega arith in z);
      less = λ w t. and_i (meets w r) (conflict w.mode r.mode r.state) (and_l (meets w r) (conflict w.mode r.mode s) t) (f w.mode (and_r (meets w r) (conflict w.mode r.mode s) t));
    }

-- "asked counts as granted"
pub revoked-milder : (rs : List Lock) (r : Lock) → Milder r (revoked rs r)
revoked-milder rs r =
    by_cond (Milder r) (wanted rs r) (in_state asked r) r
    (λ t. let e = is-granted rs r t in moved asked r (omega arith) (omega arith) (λ a c. subst (λ (s : ℕ). T (conflict a r.mode s)) (sym e) (subst T (same-matrix a r.mode) c)))
    (λ t. unchanged r)

-- what conflicts with a canceling lock conflicts with it in any state
canceling-less : (a m s : ℕ) → T (conflict a m canceling) → T (conflict a m s)
unfolding conflict
canceling-less a m s = go (entry a m)
  where
    go : (x : Entry) → T (bars x canceling) → T (bars x s)
    go e.Never t = absurd t
    go e.Always t = tt
    go e.Unless t = absurd t

pub acknowledged-milder : (c h : ℕ) (r : Lock) → Milder r (cond (may_acknowledge c h r) (in_state canceling r) r)
acknowledged-milder c h r =
    by_cond (Milder r) (may_acknowledge c h r) (in_state canceling r) r
    (λ t. let e = eqb→eq r.state asked (search (and_r)) in moved canceling r (omega arith) (omega arith) (λ a k. canceling-less a r.mode r.state k))
    (λ t. unchanged r)

-- what conflicts with a canceling NBW conflicts with BW and PW: in each row of the matrix
columns : (i : ℕ) → T (bars (get_or (get_or matrix i []) 1 never) canceling) → T (bars (get_or (get_or matrix i []) 2 never) canceling) × T (bars (get_or (get_or matrix i []) 3 never) canceling)
columns zero t = (tt, tt)
columns (suc zero) t = absurd t
columns (suc (suc zero)) t = absurd t
columns (suc (suc (suc zero))) t = (tt, tt)
columns (suc (suc (suc (suc i)))) t = absurd t

lower : (a m : ℕ) → bw ≤ m → m ≤ pw → T (conflict a nbw canceling) → T (conflict a m canceling)
unfolding conflict
lower a m h k t =
    ⊎_elim
    (λ (u : m < pw). let e : bw ≡ m = omega arith in subst (λ (n : ℕ). T (bars (entry a n) canceling)) e (columns (a - 1) t).0)
    (λ (u : pw ≤ m). let e : pw ≡ m = omega arith in subst (λ (n : ℕ). T (bars (entry a n) canceling)) e (columns (a - 1) t).1)
    (below m pw)

pub downgraded-milder : (c h : ℕ) (r : Lock) → Milder r (cond (may_downgrade c h r) (downgraded r) r)
downgraded-milder c h r = by_cond (Milder r) (may_downgrade c h r) (downgraded r) r (λ t. lowered (eqb→eq r.state canceling (search (and_l, and_r))) (leb→le bw r.mode (search (and_l, and_r))) (leb→le r.mode pw (search (and_r)))) (λ t. unchanged r)
  where
    lowered : r.state ≡ canceling → bw ≤ r.mode → r.mode ≤ pw → Milder r (downgraded r)
    lowered e lo hi =
        record {
          handle-is = refl;
          waits-is = refl;
          left = λ t. absurd (let z = eqb→eq r.state 0 t in let y : ⊥ = omega arith in y);
          less = λ w t.
              and_i (meets w r) (conflict w.mode r.mode r.state) (and_l (meets w r) (conflict w.mode nbw r.state) t)
              (subst (λ (s : ℕ). T (conflict w.mode r.mode s)) (sym e) (lower w.mode r.mode lo hi (subst (λ (s : ℕ). T (conflict w.mode nbw s)) e (and_r (meets w r) (conflict w.mode nbw r.state) t))));
        }
