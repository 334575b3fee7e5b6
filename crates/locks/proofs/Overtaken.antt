-- Nobody is overtaken: no held lock of a larger handle conflicts with a waiting request. The thought: what a turn grants conflicts with no earlier
-- waiting request, and so no earlier waiting request with it; and no other change makes a lock conflict with more.
use Prim.Native.Nat.{ℕ, ◌+◌}
use mathlib.Core.Bool.{Bool, not, ◌&&◌, cond}
use mathlib.Core.List.{List, [], ◌∷◌, ◌++◌, map, append-nil}
use mathlib.Core.Path.{subst}
use lib.Dec.{T, T_not, not_T, eqb, ltb}
use lib.ListN.{length}
use lib.Seq.{append_snoc}
use Rattle.common.specs.Tests.{all, any, pairs}
use Rattle.common.proofs.Bools.{and_l, and_r, and_i, by_cond, nand-l, nand-r}
use Rattle.common.proofs.Listed.{all-imp2, all_of, all_left, pairs-out, pairs-put, pairs-map, pairs-keep, pairs-before}
use Rattle.modes.specs.Codes.{granted, canceling}
use Rattle.table.specs.declared.Lock.{Lock}
use Rattle.table.specs.Table.{Table, handle_of, waits, held}
use Rattle.table.specs.Sound.{valid, differ, share, agree, sound}
use Rattle.table.proofs.Facts.{valid→, Sound, sound→}
use Rattle.locks.specs.declared.Message.{Message}
use Rattle.locks.specs.declared.Message.TheVariants.{Request, Acknowledge, Downgrade, Release}
use Rattle.locks.specs.Conflicts.{against, conflicts, obstacle, hurries}
use Rattle.locks.specs.Settle.{Event, given, in_state, next_number, last_given, grant, free, turns, presses, revoked, settle}
use Rattle.locks.specs.Refusals.{refusal, named, may_acknowledge, may_downgrade}
use Rattle.locks.specs.Serve.{Outcome, asking, downgraded, change, answered, accepted, refused, serve}
use Rattle.locks.proofs.Turn.{by-elder, w-valid-here, unhindered, widened-clear}
use Rattle.locks.proofs.Walk.{OnGrant, OnWait, Walked, walk}
use Rattle.locks.proofs.Served.{change-sound}
use Rattle.locks.proofs.Events.{not-both, grant-held}
use Rattle.locks.proofs.Milder.{Milder, revoked-milder, acknowledged-milder, downgraded-milder}

-- b, which stands behind a in the table, is held, and a waits for it
abbrev pub overtakes : Lock → Lock → Bool
overtakes b a = held b && presses b a

abbrev pub in_order : List Lock → Bool
in_order = pairs (λ a b. not (overtakes b a))

-- an earlier request that is no obstacle does not conflict
elder : (w r : Lock) → T (agree r w) → T (not (obstacle w r)) → T (not (conflicts w r))
unfolding agree
elder w r a o = not_T (conflicts w r) (λ c. T_not (obstacle w r) o (by-elder w r (and_l (ltb (handle_of r) (handle_of w)) (differ r w && share r w) a) c))

-- The turn of w, which is granted
module _ (issued : ℕ) (lasts : List ℕ) (before : List Lock) (w : Lock) (after : List Lock) (S : Sound issued lasts (before ++ (w ∷ after))) (f : T (free (before ++ (w ∷ after)) w)) where
  abbrev table : List Lock
  table = before ++ (w ∷ after)

  -- in whatever state, with the last byte l, if so it conflicts with no earlier record
  met-by-none : (s l : ℕ) → T (all (λ r. not (against w l r)) before) → T (all (λ r. not (overtakes (given w s (next_number lasts w) l) r)) before)
  met-by-none s l c =
      let g : Lock = given w s (next_number lasts w) l in
      all-imp2 (valid issued lasts) (λ r. not (against w l r)) (λ r. not (overtakes g r))
      (λ r v n. nand-r (held g) (presses g r) (not-both w r s l (next_number lasts w) issued lasts (w-valid-here issued lasts before w after S f) (valid→ issued lasts r v) n))
      before (all_left (valid issued lasts) before (w ∷ after) S.each) c

  overtakes-none : T (all (λ r. not (overtakes (grant lasts table w) r)) before)
  unfolding grant
  overtakes-none =
      by_cond (λ (g : Lock). T (all (λ r. not (overtakes g r)) before)) (any (hurries w) table)
      (given w canceling (next_number lasts w) w.last) (given w granted (next_number lasts w) (last_given table w))
      (λ u. met-by-none canceling w.last
      (all-imp2 (λ r. agree r w) (λ r. not (obstacle w r)) (λ r. not (conflicts w r)) (elder w) before
      (pairs-before agree before w after S.apart) (all_left (λ r. not (obstacle w r)) before (w ∷ after) (unhindered issued lasts before w after S f))))
      (λ u. met-by-none granted (last_given table w)
      (all_left (λ r. not (against w (last_given table w) r)) before (w ∷ after) (widened-clear issued lasts before w after S f u)))

-- what is held is not overtaken
not-waiting : (g r : Lock) → T (held g) → T (not (overtakes r g))
not-waiting g r h = nand-r (held r) (presses r g) (nand-l (waits g) (conflicts g r) h)

abbrev InOrder : List ℕ → List Lock → List Lock → List Event → Type 0
InOrder lasts before after es = T (in_order (before ++ after))

turns-in-order : (t : Table) → Sound t.issued t.lasts t.locks → T (in_order t.locks) → Walked t.issued InOrder (turns (length t.locks) t)
turns-in-order t S i = walk InOrder t on by S i
  where
    on : OnGrant t.issued InOrder
    on lasts before w after es S f i =
        let g : Lock = grant lasts (before ++ (w ∷ after)) w in
        rw append_snoc
        (pairs-put (λ a b. not (overtakes b a)) before g after (pairs-out (λ a b. not (overtakes b a)) before w after i)
        (overtakes-none t.issued lasts before w after S f)
        (all_of (λ r. not (overtakes r g)) (λ r. not-waiting g r (grant-held lasts (before ++ (w ∷ after)) w)) after))

    by : OnWait t.issued InOrder
    by lasts before w after es S f i = rw append_snoc i

-- The other changes make no lock conflict with more
module _ (g : Lock → Lock) (milder : (r : Lock) → Milder r (g r)) where
  no_more : (a b : Lock) → T (not (overtakes b a)) → T (not (overtakes (g b) (g a)))
  no_more a b n =
      not_T (overtakes (g b) (g a))
      (λ t.
      let w : T (waits (g a)) = search (and_l, and_r) in
      let c : T (conflicts (g a) (g b)) = search (and_l, and_r) in
      T_not (overtakes b a) n
      (and_i (held b) (presses b a) (subst (λ (x : Bool). T (not x)) (milder b).waits-is (and_l (held (g b)) (presses (g b) (g a)) t))
      (and_i (waits a) (conflicts a b) (subst T (milder a).waits-is w) ((milder b).less a (subst (λ (x : Lock). T (conflicts x (g b))) ((milder a).left w) c)))))

  changed-in-order : (rs : List Lock) → T (in_order rs) → T (in_order (map g rs))
  changed-in-order rs t = pairs-map (λ a b. not (overtakes b a)) (λ a b. not (overtakes b a)) g no_more rs t

change-in-order : (t : Table) (m : Message) → T (in_order t.locks) → T (in_order (change t m).locks)
unfolding change
change-in-order t (Request c s m f l k) i =
    let new : Lock = asking (t.issued + 1) c s m f l k in
    pairs-put (λ a b. not (overtakes b a)) t.locks new [] (rw append-nil i) (all_of (λ r. not (overtakes new r)) (λ r. tt) t.locks) tt
change-in-order t (Acknowledge c h) i = changed-in-order (λ r. cond (may_acknowledge c h r) (in_state canceling r) r) (acknowledged-milder c h) t.locks i
change-in-order t (Downgrade c h) i = changed-in-order (λ r. cond (may_downgrade c h r) (downgraded r) r) (downgraded-milder c h) t.locks i
change-in-order t (Release c h) i = pairs-keep (λ a b. not (overtakes b a)) (λ r. not (named c h r)) t.locks i

settle-in-order : (t : Table) → Sound t.issued t.lasts t.locks → T (in_order t.locks) → T (in_order (settle t).table.locks)
unfolding settle
settle-in-order t S i =
    let rs : List Lock = (turns (length t.locks) t).table.locks in
    changed-in-order (revoked rs) (revoked-milder rs) rs (rw append-nil at (turns-in-order t S i).law)

-- A message keeps it
pub serve-in-order : (t : Table) (m : Message) → T (sound t) → T (in_order t.locks) → T (in_order (serve t m).table.locks)
unfolding serve
serve-in-order t m s i =
    by_cond (λ (o : Outcome). T (in_order o.table.locks)) (eqb (refusal t m) 0) (accepted (answered t m) (settle (change t m))) (refused t (refusal t m))
    (λ e. settle-in-order (change t m) (change-sound t m e (sound→ t s)) (change-in-order t m i)) (λ e. i)
