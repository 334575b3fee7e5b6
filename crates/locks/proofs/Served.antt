-- A call keeps the table sound: settling does, and so does each message's own change.
use Prim.Native.Nat.{ℕ, ◌+◌, ◌≤◌, ◌<◌}
use native.Mathlib.Omega.{arith}
use native.Mathlib.Nat.{le_trans}
use mathlib.Core.Bool.{Bool, true, false, not, ◌&&◌, cond}
use mathlib.Core.List.{List, [], ◌∷◌, ◌++◌, append-nil}
use mathlib.Core.Path.{◌≡◌, refl, ap}
use lib.Dec.{T, leb, ltb, eqb, leb→le, le→leb, nleb→lt, nltb→le, lt→ltb}
use lib.ListN.{length, get_or, length-append}
use Rattle.common.specs.Counters.{width, highest}
use Rattle.common.specs.Ranges.{range, eof}
use Rattle.common.specs.Tests.{count, keep}
use Rattle.common.specs.Refusals.{Rule, first_hit}
use Rattle.common.proofs.Bools.{and_l, and_r, and_i, undo, by_cond, cond-true}
use Rattle.common.proofs.Listed.{all-imp, all_join, all_keep, pairs-put, pairs-keep, count-put, count-keep, length-keep}
use Rattle.common.proofs.Refusals.{unbroken}
use Rattle.modes.specs.Codes.{known_mode, canceling}
use Rattle.table.specs.declared.Lock.{Lock}
use Rattle.table.specs.Table.{Table, handle_of, max_client, max_stripe, max_records}
use Rattle.table.specs.Sound.{valid, differ, share, agree, room, stripes, wants, sound}
use Rattle.table.proofs.Facts.{valid→, →valid, still-valid, →friends, Sound, sound→, →sound}
use Rattle.locks.specs.declared.Message.{Message}
use Rattle.locks.specs.declared.Message.TheVariants.{Request, Acknowledge, Downgrade, Release}
use Rattle.locks.specs.Settle.{Settled, in_state, revoked, turns, settle}
use Rattle.locks.specs.Refusals.{rules, refusal, request_rules, named, may_acknowledge, may_downgrade}
use Rattle.locks.specs.Serve.{Outcome, asking, downgraded, change, answered, accepted, refused, served, serve}
use Rattle.locks.proofs.Changes.{changed, calm-revoked, calm-acknowledged, calm-downgraded}
use Rattle.locks.proofs.Walk.{Sounds, turns-sound}

at_most_one : (b : Bool) → cond {A = ℕ} b 1 0 ≤ 1
at_most_one true = omega arith
at_most_one false = omega arith

-- A request is added
module _ (issued : ℕ) (lasts : List ℕ) (rs : List Lock) (c s m f l : ℕ) (k : Bool) (S : Sound issued lasts rs) where
  abbrev new : Lock
  new = asking (issued + 1) c s m f l k

  older : (r : Lock) → T (valid issued lasts r) → T (valid (issued + 1) lasts r)
  older r t = →valid (issued + 1) lasts r (still-valid r (omega arith) (omega arith) (valid→ issued lasts r t))

  older-agree : (r : Lock) → T (valid issued lasts r) → T (agree r new)
  unfolding agree
  older-agree r t =
      and_i (ltb (handle_of r) (issued + 1)) (differ r new && share r new)
      (lt→ltb (handle_of r) (issued + 1) (let v = valid→ issued lasts r t in omega arith))
      (→friends r new (record { differ = λ h k e p q d. k; clear = λ h k e p q. absurd k }))

  asked-room : (i : ℕ) → T (room issued lasts rs i) → T (room (issued + 1) lasts (rs ++ (new ∷ [])) i)
  unfolding room
  asked-room i t =
      le→leb (get_or lasts i 0 + count (wants i) (rs ++ (new ∷ []))) (issued + 1)
      (let h = leb→le (get_or lasts i 0 + count (wants i) rs) issued t in
      let e : count (wants i) (rs ++ []) ≡ count (wants i) rs = ap (count (wants i)) (append-nil rs) in
      omega (arith, count-put (wants i) rs new [], at_most_one (wants i new)))

  pub asked : c ≤ max_client → s ≤ max_stripe → 1 ≤ m → m ≤ 4 → f ≤ l → l ≤ eof → issued < highest width → length rs < max_records → Sound (issued + 1) lasts (rs ++ (new ∷ []))
  asked c-hi s-hi m-lo m-hi fl l-hi i-hi n-hi = record {
    few = omega arith;
    sixteen = S.sixteen;
    fits = omega (arith, length-append rs (new ∷ []));
    each =
        all_join (valid (issued + 1) lasts) rs (new ∷ []) (all-imp (valid issued lasts) (valid (issued + 1) lasts) older rs S.each)
        (and_i (valid (issued + 1) lasts new) true
        (→valid (issued + 1) lasts new
        (record {
          handle-lo = omega arith;
          handle-hi = omega arith;
          client-hi = c-hi;
          stripe-hi = s-hi;
          mode-lo = m-lo;
          mode-hi = m-hi;
          state-hi = omega arith;
          ordered = fl;
          ends = l-hi;
          mark_of = λ h. at_most_one k;
          mark-no = λ h. absurd h;
          number-of = λ h. absurd h;
          number-no = λ h. refl;
        })) tt);
    apart = pairs-put agree rs new [] (rw append-nil S.apart) (all-imp (valid issued lasts) (λ r. agree r new) older-agree rs S.each) tt;
    rooms = all-imp (room issued lasts rs) (room (issued + 1) lasts (rs ++ (new ∷ []))) asked-room stripes S.rooms;
  }

-- Some records are kept
module _ (issued : ℕ) (lasts : List ℕ) (rs : List Lock) (q : Lock → Bool) (S : Sound issued lasts rs) where
  kept-room : (i : ℕ) → T (room issued lasts rs i) → T (room issued lasts (keep q rs) i)
  unfolding room
  kept-room i t =
      le→leb (get_or lasts i 0 + count (wants i) (keep q rs)) issued
      (let h = leb→le (get_or lasts i 0 + count (wants i) rs) issued t in omega (arith, count-keep (wants i) q rs))

  pub kept : Sound issued lasts (keep q rs)
  kept = record {
    few = S.few;
    sixteen = S.sixteen;
    fits = le_trans (length-keep q rs) S.fits;
    each = all_keep (valid issued lasts) q rs S.each;
    apart = pairs-keep agree q rs S.apart;
    rooms = all-imp (room issued lasts rs) (room issued lasts (keep q rs)) kept-room stripes S.rooms;
  }

abbrev Good : Table → Type 0
Good t = Sound t.issued t.lasts t.locks

pub change-sound : (t : Table) (m : Message) → T (eqb (refusal t m) 0) → Good t → Good (change t m)
unfolding change rules
change-sound t (Request c s m f l k) e S =
    let u = unbroken (request_rules t c s m f l) tt e in
    let w : T (known_mode m) = undo (known_mode m) (search (and_l, and_r) depth 8) in
    let z : T (range f l) = undo (range f l) (search (and_l, and_r) depth 8) in
    asked t.issued t.lasts t.locks c s m f l k S
    (nltb→le max_client c (search (and_l))) (nltb→le max_stripe s (search (and_l, and_r))) (search (and_l, leb→le)) (search (and_r, leb→le))
    (leb→le f l (and_l (leb f l) (leb l eof) z)) (leb→le l eof (and_r (leb f l) (leb l eof) z))
    (nleb→lt (highest width) t.issued (search (and_l, and_r) depth 8)) (nleb→lt max_records (length t.locks) (search (and_l, and_r) depth 16))
change-sound t (Acknowledge c h) e S = changed t.issued t.lasts (λ r. cond (may_acknowledge c h r) (in_state canceling r) r) (calm-acknowledged c h) t.locks S
change-sound t (Downgrade c h) e S = changed t.issued t.lasts (λ r. cond (may_downgrade c h r) (downgraded r) r) (calm-downgraded c h) t.locks S
change-sound t (Release c h) e S = kept t.issued t.lasts t.locks (λ r. not (named c h r)) S

-- the turns keep it, and so do the revocations
pub settle-sound : (t : Table) → Good t → Good (settle t).table
unfolding settle
settle-sound t S =
    let s : Settled = turns (length t.locks) t in
    let R : Sounds t s = turns-sound t S (length t.locks) (omega arith) in
    changed s.table.issued s.table.lasts (revoked s.table.locks) (calm-revoked s.table.locks) s.table.locks (rw R.count R.sound)

pub change-keeps : (t : Table) (m : Message) → T (sound t) → T (eqb (refusal t m) 0) → T (sound (change t m))
change-keeps t m s e = →sound (change t m) (change-sound t m e (sound→ t s))

-- Any call: its rules, the handle that it answers, and its change u of the table t. What holds of t refused and of u settled holds of the outcome,
-- so a new call has to show of itself that u is sound where no rule is broken
module _ (list : List Rule) (h : ℕ) (u t : Table) where
  pub by-served : (P : Outcome → Type 0) → (T (eqb (first_hit list) 0) → P (accepted h (settle u))) → P (refused t (first_hit list)) → P (served list h u t)
  by-served P a b = by_cond P (eqb (first_hit list) 0) (accepted h (settle u)) (refused t (first_hit list)) a (λ e. b)

  pub served-as : T (eqb (first_hit list) 0) → served list h u t ≡ accepted h (settle u)
  served-as e = cond-true (eqb (first_hit list) 0) (accepted h (settle u)) (refused t (first_hit list)) e

  pub served-sound : T (sound t) → (T (eqb (first_hit list) 0) → T (sound u)) → T (sound (served list h u t).table)
  served-sound s g = by-served (λ (o : Outcome). T (sound o.table)) (λ e. →sound (settle u).table (settle-sound u (sound→ u (g e)))) s

-- An accepted message leaves a sound table
pub serve-sound : (t : Table) (m : Message) → T (sound t) → T (sound (serve t m).table)
unfolding serve
serve-sound t m s = served-sound (rules t m) (answered t m) (change t m) t s (change-keeps t m s)
