-- The grant of a request that is due: the table stays sound after it, so what is stored fits, and the stores make the turn of the rules.
use Prim.Native.Nat.{ℕ, suc, ◌+◌, ◌^◌, ◌<◌}
use native.Mathlib.Omega.{arith}
use mathlib.Core.Bool.{false, not, ◌&&◌, cond}
use mathlib.Core.List.{List, [], ◌∷◌, ◌++◌}
use mathlib.Core.Path.{◌≡◌, refl, sym, ap, ap₂, subst, ◌∙◌}
use lib.Dec.{T, not_T, le→leb, ltb, ltb→lt}
use lib.ListN.{length, get_or, take, drop}
use lib.Seq.{split_at}
use Rattle.common.specs.Counters.{width}
use Rattle.common.specs.Tests.{all, any}
use Rattle.common.proofs.Bools.{and_l, and_i, nand-l, nand-r, false-is, by_cond, cond-true}
use Rattle.common.proofs.Listed.{all-at, all-imp, nobody, pairs-before}
use Rattle.modes.specs.Codes.{granted, canceling}
use Rattle.table.specs.declared.Lock.{Lock}
use Rattle.table.specs.Table.{Table, blank, handle_of, number_of, waits, stripe_count}
use Rattle.table.specs.Sound.{valid, agree}
use Rattle.table.specs.Bytes.{locks_of, table_of}
use Rattle.table.specs.Places.{lock_at, LockFits, Holds, Good, Moded, moded, Past, with_lock}
use Rattle.table.proofs.Facts.{Valid, valid→, Sound, sound→}
use Rattle.table.proofs.Fitting.{lock-fits}
use Rattle.table.proofs.Reading.{inside, nth-is}
use Rattle.locks.specs.Conflicts.{conflicts, hurries}
use Rattle.locks.specs.Settle.{Settled, grant_event, given, last_given, next_number, lasts_after, grant, free, granting, turn}
use Rattle.locks.specs.Events.{Room}
use Rattle.locks.proofs.Turn.{w-valid-here, grant-sound}
use Rattle.settle.specs.Posts.{granted_as, Took, Due, put_events, fresh, Did}

pub good-moded : (n : ℕ) (t : List ℕ) → Good n t → Moded n t
good-moded n t G = record {
  shape = G.shape;
  modes = all-imp (valid T.issued T.lasts) moded (λ r u. let v = valid→ T.issued T.lasts r u in search (and_i, le→leb)) T.locks (sound→ T G.sounds).each;
}
  where
    T : Table
    T = table_of width t

number_is : (lasts : List ℕ) (rs : List Lock) (w : Lock) → number_of (grant lasts rs w) ≡ next_number lasts w
unfolding grant
number_is lasts rs w =
    by_cond (λ (g : Lock). number_of g ≡ next_number lasts w) (any (hurries w) rs) (given w canceling (next_number lasts w) w.last) (given w granted (next_number lasts w) (last_given rs w)) (λ u. refl) (λ u. refl)

-- a record with a smaller handle does not hurry w
earlier : (w r : Lock) → T (agree r w) → T (not (hurries w r))
unfolding agree
earlier w r t =
    let h = ltb→lt (handle_of r) (handle_of w) (search and_l) in
    nand-l (waits r && ltb (handle_of w) (handle_of r)) (conflicts w r)
    (nand-r (waits r) (ltb (handle_of w) (handle_of r)) (not_T (ltb (handle_of w) (handle_of r)) (λ u. let k = ltb→lt (handle_of w) (handle_of r) u in let z : ⊥ = omega arith in z)))

module _ (n i : ℕ) (w : Lock) (t : List ℕ) (D : Due n i w t) where
  abbrev lasts : List ℕ
  lasts = (table_of width t).lasts

  abbrev rs : List Lock
  rs = locks_of width t

  abbrev around : List Lock
  around = take i rs ++ (w ∷ drop (suc i) rs)

  split : rs ≡ around
  split = split_at rs i blank (inside n i t D.good.shape D.place) ∙ ap (λ (x : Lock). take i rs ++ (x ∷ drop (suc i) rs)) D.is

  sounds : Sound (table_of width t).issued lasts around
  sounds = subst (λ (l : List Lock). Sound (table_of width t).issued lasts l) split (sound→ (table_of width t) D.good.sounds)

  freed : T (free around w)
  freed = subst (λ (l : List Lock). T (free l w)) split D.free

  valid-here : Valid (table_of width t).issued lasts w
  valid-here = w-valid-here (table_of width t).issued lasts (take i rs) w (drop (suc i) rs) sounds freed

  unhurried : any (hurries w) (take i rs) ≡ false
  unhurried =
      false-is (any (hurries w) (take i rs))
      (nobody (hurries w) (take i rs) (all-imp (λ r. agree r w) (λ r. not (hurries w r)) (earlier w) (take i rs) (pairs-before agree (take i rs) w (drop (suc i) rs) sounds.apart)))

  pub due-stripe : w.stripe < stripe_count
  due-stripe = let v = valid-here in omega arith

  due-fits : LockFits (grant lasts rs w)
  due-fits =
      subst (λ (l : List Lock). LockFits (grant lasts l w)) (sym split)
      (lock-fits (table_of width t).issued (lasts_after lasts w) (take i rs ++ (grant lasts around w ∷ drop (suc i) rs)) after (grant lasts around w)
      (all-at (valid (table_of width t).issued (lasts_after lasts w)) (take i rs) (grant lasts around w) (drop (suc i) rs) after.each))
    where
      after : Sound (table_of width t).issued (lasts_after lasts w) (take i rs ++ (grant lasts around w ∷ drop (suc i) rs))
      after = grant-sound (table_of width t).issued lasts (take i rs) w (drop (suc i) rs) sounds freed

  pub due-number : next_number lasts w < 256 ^ width
  due-number = subst (λ (m : ℕ). m < 256 ^ width) (number_is lasts rs w) due-fits.1.1.1.1.1.0

  due-turn : turn i (fresh (table_of width t)) ≡ granting i (fresh (table_of width t)) w (grant lasts rs w)
  unfolding turn
  due-turn =
      ap (λ (x : Lock). cond (free rs x) (granting i (fresh (table_of width t)) x (grant lasts rs x)) (fresh (table_of width t))) D.is
      ∙ cond-true (free rs w) (granting i (fresh (table_of width t)) w (grant lasts rs w)) (fresh (table_of width t)) D.free

  pub due-room : (k : ℕ) (b : List ℕ) → Room (k + length (turn i (fresh (table_of width t))).events) b → Room (k + 1) b
  due-room k b h = subst (λ (s : Settled). Room (k + length s.events) b) due-turn h

  -- the number v is taken, which leaves u
  module _ (v : ℕ) (u : List ℕ) (K : Took n w (table_of width t) v u) where
    same-locks : locks_of width u ≡ rs
    same-locks = ap (λ (X : Table). X.locks) K.table.says

    pub due-moded : Moded n u
    due-moded = record { shape = K.table.shape; modes = subst (λ (l : List Lock). T (all moded l)) (sym same-locks) (good-moded n t D.good).modes }

    pub due-here : w ≡ lock_at u i
    due-here = sym D.is ∙ ap (λ (l : List Lock). get_or l i blank) (sym same-locks) ∙ nth-is n i u (lock_at u i) K.table.shape D.place refl

    pub due-first : Past (hurries (lock_at u i)) n (locks_of width u) i
    due-first = record {
      most = let h = D.place in omega arith;
      none = subst (λ (x : Lock). any (hurries x) (take i (locks_of width u)) ≡ false) due-here (ap (λ (l : List Lock). any (hurries w) (take i l)) same-locks ∙ unhurried);
    }

    -- w becomes g
    module _ (g : Lock) (q : g ≡ granted_as (locks_of width u) w v) where
      as-granted : g ≡ grant lasts rs w
      unfolding grant
      as-granted = q ∙ ap₂ (λ (l : List Lock) (m : ℕ). granted_as l w m) same-locks K.number

      pub granted-fits : LockFits g
      granted-fits = subst LockFits (sym as-granted) due-fits

      pub due-did : (k : ℕ) (b u' c : List ℕ) → Holds n (with_lock (table_of width u) i g) u' → c ≡ put_events b k (grant_event g ∷ []) → Did n k (turn i (fresh (table_of width t))) b (k + 1) u' c
      due-did k b u' c H e =
          subst (λ (s : Settled). Did n k s b (k + 1) u' c) (sym (due-turn ∙ ap (λ (x : Lock). granting i (fresh (table_of width t)) w x) (sym as-granted)))
          (record { table = subst (λ (X : Table). Holds n (with_lock X i g) u') K.table.says H; bytes = e; count = refl })
