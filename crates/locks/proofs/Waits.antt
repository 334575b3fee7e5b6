-- No lost waiter: after an accepted message each request that still waits has an obstacle. So a waiter is granted in the very call in which its
-- last obstacle goes. A walk: a request passed by keeps its obstacle, since what is granted later was no obstacle to it.
use Prim.Native.Nat.{ℕ}
use native.Mathlib.Omega.{arith}
use mathlib.Core.Bool.{Bool, true, false, not, ◌&&◌, ◌||◌}
use mathlib.Core.List.{List, [], ◌∷◌, ◌++◌, map, append-nil}
use mathlib.Core.Path.{sym, subst, subst₂}
use lib.Dec.{T, T_not, not_T, ltb, eqb, ltb→lt}
use lib.ListN.{length}
use lib.Seq.{append_snoc}
use Rattle.common.specs.Refusals.{Rule, first_hit}
use Rattle.common.specs.Tests.{all, any, implies}
use Rattle.common.proofs.Bools.{and_l, and_i, imp-i, imp-e, undo, nand-l}
use Rattle.common.proofs.Listed.{all-imp2, all_join, all_map, any-but, any-map, pairs-before}
use Rattle.table.specs.declared.Lock.{Lock}
use Rattle.table.specs.Table.{Table, handle_of, waits, held}
use Rattle.table.specs.Sound.{differ, share, agree, sound}
use Rattle.table.proofs.Facts.{Sound, sound→}
use Rattle.locks.specs.declared.Message.{Message}
use Rattle.locks.specs.Conflicts.{conflicts, obstacle}
use Rattle.locks.specs.Settle.{Event, grant, free, turns, revoked, wanted, settle}
use Rattle.locks.specs.Refusals.{rules, refusal}
use Rattle.locks.specs.Serve.{Outcome, change, answered, served, serve}
use Rattle.locks.proofs.Walk.{OnGrant, OnWait, Walked, walk}
use Rattle.locks.proofs.Served.{change-keeps, by-served, served-as}
use Rattle.locks.proofs.Events.{grant-held}
use Rattle.locks.proofs.Revoked.{waits-same, obstacle-same, none-wanted}

-- if it waits, it has an obstacle in the table
abbrev pub stuck : List Lock → Lock → Bool
stuck rs r = implies (waits r) (any (obstacle r) rs)

not_free : (rs : List Lock) (w : Lock) → T (not (free rs w)) → T (stuck rs w)
not_free rs w t = imp-i (waits w) (any (obstacle w) rs) (λ h. go (any (obstacle w) rs) (waits w) h t)
  where
    go : (b c : Bool) → T c → T (not (c && not b)) → T b
    go b true h t = undo b t
    go b false h t = absurd h

-- a later waiting request is no obstacle
no-obstacle : (r w : Lock) → T (waits w) → T (agree r w) → T (not (obstacle r w))
unfolding agree
no-obstacle r w h t =
    nand-l (held w || ltb (handle_of w) (handle_of r)) (conflicts r w)
    (not_T (held w || ltb (handle_of w) (handle_of r)) (λ u. go (waits w) h (ltb (handle_of w) (handle_of r)) later u))
  where
    later : T (ltb (handle_of w) (handle_of r)) → ⊥
    later k =
        let a = ltb→lt (handle_of w) (handle_of r) k in
        let b = ltb→lt (handle_of r) (handle_of w) (and_l (ltb (handle_of r) (handle_of w)) (differ r w && share r w) t) in
        omega arith

    go : (c : Bool) → T c → (d : Bool) → (T d → ⊥) → T (not c || d) → ⊥
    go true h d f u = f u
    go false h d f u = absurd h

-- the requests whose turn is over
abbrev Stuck : List ℕ → List Lock → List Lock → List Event → Type 0
Stuck lasts before after es = T (all (stuck (before ++ after)) before)

turns-stuck : (t : Table) → Sound t.issued t.lasts t.locks → Walked t.issued Stuck (turns (length t.locks) t)
turns-stuck t S = walk Stuck t on by S tt
  where
    on : OnGrant t.issued Stuck
    on lasts before w after es S f M =
        rw append_snoc
        (all_join (stuck (before ++ (g ∷ after))) before (g ∷ [])
        (all-imp2 (λ r. agree r w) (stuck (before ++ (w ∷ after))) (stuck (before ++ (g ∷ after))) keeps before (pairs-before agree before w after S.apart) M)
        (and_i (stuck (before ++ (g ∷ after)) g) true (imp-i (waits g) (any (obstacle g) (before ++ (g ∷ after))) (λ h. absurd (T_not (waits g) (grant-held lasts (before ++ (w ∷ after)) w) h))) tt))
      where
        g : Lock
        g = grant lasts (before ++ (w ∷ after)) w

        keeps : (r : Lock) → T (agree r w) → T (stuck (before ++ (w ∷ after)) r) → T (stuck (before ++ (g ∷ after)) r)
        keeps r a b =
            imp-i (waits r) (any (obstacle r) (before ++ (g ∷ after)))
            (λ h. any-but (obstacle r) before w g after (no-obstacle r w (and_l (waits w) (not (any (obstacle w) (before ++ (w ∷ after)))) f) a) (imp-e (waits r) (any (obstacle r) (before ++ (w ∷ after))) b h))

    by : OnWait t.issued Stuck
    by lasts before w after es S f M =
        rw append_snoc (all_join (stuck (before ++ (w ∷ after))) before (w ∷ []) M (and_i (stuck (before ++ (w ∷ after)) w) true (not_free (before ++ (w ∷ after)) w f) tt))

revoked-stuck : (rs : List Lock) → T (all (stuck rs) rs) → T (all (stuck (map (revoked rs) rs)) (map (revoked rs) rs))
revoked-stuck rs M = all_map (stuck rs) (stuck (map (revoked rs) rs)) (revoked rs) one rs M
  where
    one : (r : Lock) → T (stuck rs r) → T (stuck (map (revoked rs) rs) (revoked rs r))
    one r t =
        subst₂ (λ (a b : Bool). T (implies a b)) (sym (waits-same rs r))
        (sym (any-map (obstacle r) (obstacle (revoked rs r)) (revoked rs) (obstacle-same rs r) rs)) t

pub settle-stuck : (t : Table) → Sound t.issued t.lasts t.locks → T (all (stuck (settle t).table.locks) (settle t).table.locks)
unfolding settle
settle-stuck t S = revoked-stuck (turns (length t.locks) t).table.locks (rw append-nil at (turns-stuck t S).law)

-- After an accepted message each request that still waits has an obstacle, and no lock in state 1 conflicts with a waiting request
pub record Calm (rs : List Lock) : Type 0 where
  pub waiters : T (all (stuck rs) rs)
  pub unwanted : T (all (λ r. not (wanted rs r)) rs)

settle-calm : (t : Table) → T (sound t) → Calm (settle t).table.locks
unfolding settle
settle-calm t s = record { waiters = settle-stuck t (sound→ t s); unwanted = none-wanted (turns (length t.locks) t).table.locks }

pub served-calm : (list : List Rule) (h : ℕ) (u t : Table) → T (eqb (first_hit list) 0) → T (sound u) → Calm (served list h u t).table.locks
served-calm list h u t e s = subst (λ (o : Outcome). Calm o.table.locks) (sym (served-as list h u t e)) (settle-calm u s)

pub serve-calm : (t : Table) (m : Message) → T (sound t) → T (eqb (refusal t m) 0) → Calm (serve t m).table.locks
unfolding serve
serve-calm t m s e = served-calm (rules t m) (answered t m) (change t m) t e (change-keeps t m s e)

-- any message keeps it
pub serve-stuck : (t : Table) (m : Message) → T (sound t) → T (all (stuck t.locks) t.locks) → T (all (stuck (serve t m).table.locks) (serve t m).table.locks)
unfolding serve
serve-stuck t m s k =
    by-served (rules t m) (answered t m) (change t m) t (λ (o : Outcome). T (all (stuck o.table.locks) o.table.locks))
    (λ e. settle-stuck (change t m) (sound→ (change t m) (change-keeps t m s e))) k
