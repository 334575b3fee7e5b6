-- Table II's rule, at all sixteen entries at once: PR is harmless to PR, a canceling NBW to NBW and BW, and nothing else is.
use Prim.Native.Nat.{ℕ, ◌+◌, ◌-◌, ◌≤◌}
use mathlib.Core.Bool.{Bool, true, false, not, ◌&&◌, ◌||◌, cond, not-not}
use mathlib.Core.Logic.{◌⊎◌, inl, inr, ⊎_elim}
use mathlib.Core.Path.{◌≡◌, refl, subst}
use native.Mathlib.Nat.{sub-add_cancel}
use native.Mathlib.Omega.{arith}
use lib.Dec.{T, eqb, eqb→eq, leb→le, le→leb}
use Rattle.common.specs.Ranges.{within}
use Rattle.common.proofs.Bools.{and_l, and_r, and_i, or-e, or_l, or_r}
use Rattle.common.proofs.Order.{eq→eqb}
use Rattle.modes.specs.Codes.{pr, nbw, bw, canceling}
use Rattle.modes.specs.declared.Entry.{Entry}
use Rattle.modes.specs.declared.Entry.TheVariants as e
use Rattle.modes.specs.Conflict.{never, always, unless, matrix, entry, bars, conflict}
use Rattle.modes.proofs.Table.{grid, at-grid}

-- a record of mode m in state s is harmless to an asked mode a
abbrev pub Harmless : ℕ → ℕ → ℕ → Type 0
Harmless a m s = ((a ≡ pr) × (m ≡ pr)) ⊎ ((m ≡ nbw) × (s ≡ canceling) × (nbw ≤ a) × (a ≤ bw))

-- both PR; NBW or BW against NBW
abbrev readers : ℕ → ℕ → Bool
readers a m = eqb a pr && eqb m pr

abbrev writers : ℕ → ℕ → Bool
writers a m = eqb m nbw && within nbw a bw

-- the entry by the rule
abbrev kind : ℕ → ℕ → Entry
kind a m = cond (readers a m) never (cond (writers a m) unless always)

abbrev same : Entry → Entry → Bool
same e.Never e.Never = true
same e.Always e.Always = true
same e.Unless e.Unless = true
same _ _ = false

same→ : (x y : Entry) → T (same x y) → x ≡ y
same→ e.Never e.Never t = refl
same→ e.Always e.Always t = refl
same→ e.Unless e.Unless t = refl
same→ e.Never e.Always t = absurd t
same→ e.Never e.Unless t = absurd t
same→ e.Always e.Never t = absurd t
same→ e.Always e.Unless t = absurd t
same→ e.Unless e.Never t = absurd t
same→ e.Unless e.Always t = absurd t

abbrev ruled : ℕ → ℕ → Entry → Bool
ruled i k x = same x (kind (i + 1) (k + 1))

-- each entry of the matrix is the one by the rule: antt computes it
entries : T (grid ruled 4 matrix)
entries = tt

entry-is : (a m : ℕ) → 1 ≤ a → a ≤ 4 → 1 ≤ m → m ≤ 4 → entry a m ≡ kind a m
entry-is a m h k i j =
    rw (sub-add_cancel h, sub-add_cancel i) at
    (same→ (entry a m) (kind (a - 1 + 1) (m - 1 + 1)) (at-grid never ruled 4 matrix entries (a - 1) (m - 1) (omega arith) (omega arith)))

-- what an entry by the rule lets pass
clear : (x y : Bool) (s : ℕ) → not (bars (cond x never (cond y unless always)) s) ≡ (x || (y && eqb s canceling))
clear true y s = refl
clear false true s = not-not (eqb s canceling)
clear false false s = refl

rule : (a m s : ℕ) → 1 ≤ a → a ≤ 4 → 1 ≤ m → m ≤ 4 → not (conflict a m s) ≡ (readers a m || (writers a m && eqb s canceling))
unfolding conflict
rule a m s h k i j = rw (entry-is a m h k i j) (clear (readers a m) (writers a m) s)

pub harmless : (a m s : ℕ) → 1 ≤ a → a ≤ 4 → 1 ≤ m → m ≤ 4 → T (not (conflict a m s)) → Harmless a m s
harmless a m s h k i j t =
    ⊎_elim
    (λ (u : T (readers a m)). inl (search (and_l, and_r, eqb→eq)))
    (λ (u : T (writers a m && eqb s canceling)). inr (search (and_l, and_r, eqb→eq, leb→le)))
    (or-e (readers a m) (writers a m && eqb s canceling) (subst T (rule a m s h k i j) t))

pub harmless-back : (a m s : ℕ) → Harmless a m s → T (not (conflict a m s))
harmless-back a m s (inl p) =
    rw (rule a m s (omega arith) (omega arith) (omega arith) (omega arith)) (search (or_l, and_i, eq→eqb))
harmless-back a m s (inr p) =
    rw (rule a m s (omega arith) (omega arith) (omega arith) (omega arith)) (search (or_r, and_i, eq→eqb, le→leb))
