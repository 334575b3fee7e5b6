-- An unmarked request that is granted in state 1 ends at the greatest byte up to EOF for which its whole range conflicts with nothing, at its turn.
use Prim.Native.Nat.{ℕ, suc, ◌≤◌, ◌<◌}
use native.Mathlib.Omega.{arith}
use native.Mathlib.Nat.{le_refl}
use mathlib.Core.Bool.{not}
use mathlib.Core.List.{List, ◌∷◌, ◌++◌}
use mathlib.Core.Path.{◌≡◌, refl, sym, ap, subst, ◌∙◌}
use lib.Dec.{T}
use lib.ListN.{length, take, drop}
use lib.Seq.{split_at}
use Rattle.common.specs.Ranges.{eof}
use Rattle.common.specs.Tests.{any}
use Rattle.common.proofs.Bools.{by_cond, cond-false}
use Rattle.common.proofs.Listed.{nobody}
use Rattle.modes.specs.Codes.{granted, canceling}
use Rattle.table.specs.declared.Lock.{Lock}
use Rattle.table.specs.Table.{Table, nth, blank, marked}
use Rattle.table.proofs.Facts.{Sound}
use Rattle.locks.specs.Conflicts.{against, hurries}
use Rattle.locks.specs.Settle.{given, next_number, widest, last_given, grant, free, turns}
use Rattle.locks.proofs.Widening.{clear, taken, at_most, at_least}
use Rattle.locks.proofs.Turn.{given-exact, quiet, w-valid-here}
use Rattle.locks.proofs.Walk.{Sounds, turns-sound}

-- with the last byte l the request w conflicts with none of the records; with any later one up to EOF it conflicts with some
pub record Greatest (w : Lock) (rs : List Lock) (l : ℕ) : Type 0 where
  pub reaches : w.last ≤ l
  pub within-eof : l ≤ eof
  pub clear-of-all : T (not (any (against w l) rs))
  pub no-further : (m : ℕ) → l < m → m ≤ eof → T (any (against w m) rs)

greatest : (issued : ℕ) (lasts : List ℕ) (before : List Lock) (w : Lock) (after : List Lock) → Sound issued lasts (before ++ (w ∷ after)) → T (free (before ++ (w ∷ after)) w)
    → T (not (any (hurries w) (before ++ (w ∷ after)))) → T (not (marked w)) → Greatest w (before ++ (w ∷ after)) (grant lasts (before ++ (w ∷ after)) w).last
unfolding grant
greatest issued lasts before w after S t u k =
    subst (Greatest w rs)
    (sym (ap (λ (g : Lock). g.last) (cond-false (any (hurries w) rs) (given w canceling (next_number lasts w) w.last) (given w granted (next_number lasts w) (last_given rs w)) u)
    ∙ cond-false (marked w) w.last (widest w eof rs) k))
    (record {
      reaches = at_least w eof rs (w-valid-here issued lasts before w after S t).ends (quiet issued lasts before w after S t u);
      within-eof = at_most w eof rs;
      clear-of-all = nobody (against w (widest w eof rs)) rs (clear w eof rs (widest w eof rs) (le_refl (widest w eof rs)) (quiet issued lasts before w after S t u));
      no-further = taken w eof rs;
    })
  where
    rs : List Lock
    rs = before ++ (w ∷ after)

-- The grant at place n of an unmarked request, when its turn comes and no later request hurries it
pub turn-greatest : (t : Table) → Sound t.issued t.lasts t.locks → (n : ℕ) → n < length t.locks
    → T (free (turns n t).table.locks (nth (turns n t).table n))
    → T (not (any (hurries (nth (turns n t).table n)) (turns n t).table.locks)) → T (not (marked (nth (turns n t).table n)))
    → Greatest (nth (turns n t).table n) (turns n t).table.locks (grant (turns n t).table.lasts (turns n t).table.locks (nth (turns n t).table n)).last
turn-greatest t S n h f u k =
    subst (λ (l : List Lock). Greatest w l (grant lasts l w).last) (sym e)
    (greatest t.issued lasts (take n rs) w (drop (suc n) rs) (subst (λ (l : List Lock). Sound t.issued lasts l) e R.sound)
    (subst (λ (l : List Lock). T (free l w)) e f) (subst (λ (l : List Lock). T (not (any (hurries w) l))) e u) k)
  where
    R : Sounds t (turns n t)
    R = turns-sound t S n (omega arith)

    rs : List Lock
    rs = (turns n t).table.locks

    lasts : List ℕ
    lasts = (turns n t).table.lasts

    w : Lock
    w = nth (turns n t).table n

    e : rs ≡ take n rs ++ (w ∷ drop (suc n) rs)
    e = split_at rs n blank (subst (λ (k : ℕ). n < k) (sym R.long) h)

-- A marked request's grant ends where it asked, in whatever state
pub grant-exact : (lasts : List ℕ) (rs : List Lock) (w : Lock) → T (marked w) → (grant lasts rs w).last ≡ w.last
unfolding grant
grant-exact lasts rs w k =
    by_cond (λ (g : Lock). g.last ≡ w.last) (any (hurries w) rs) (given w canceling (next_number lasts w) w.last) (given w granted (next_number lasts w) (last_given rs w))
    (λ u. refl) (λ u. given-exact rs w k)
