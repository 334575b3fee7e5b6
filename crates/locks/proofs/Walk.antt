-- The turns as a walk: what each turn of a sound table keeps, for the records whose turn is over and those whose turn is to come, holds after
-- all turns. Each theorem on settling is such a walk.
use Prim.Native.Nat.{ℕ, zero, suc, ◌≤◌, ◌<◌}
use native.Mathlib.Omega.{arith}
use mathlib.Core.Bool.{not}
use mathlib.Core.List.{List, [], ◌∷◌, ◌++◌}
use mathlib.Core.Path.{◌≡◌, refl, sym, ap, subst, ◌∙◌}
use lib.Dec.{T}
use lib.ListN.{length, take, drop, length-set}
use lib.Seq.{split_at, set_split, drop-cons, take-suc, take-suc-set, drop-set-lt, take-length, drop-length}
use Rattle.common.proofs.Bools.{by_cond}
use Rattle.table.specs.declared.Lock.{Lock}
use Rattle.table.specs.Table.{Table, nth, blank}
use Rattle.table.proofs.Facts.{Sound}
use Rattle.locks.specs.Settle.{Event, Settled, grant_event, lasts_after, grant, free, granting, turn, turns}
use Rattle.locks.proofs.Turn.{grant-sound}

-- of the last numbers, the records before, those after, and the events so far
abbrev pub Law : Type 1
Law = List ℕ → List Lock → List Lock → List Event → Type 0

-- the turn of w keeps the law where w is granted, and where it goes on as it was
abbrev pub OnGrant : ℕ → Law → Type 0
OnGrant issued P =
    (lasts : List ℕ) (before : List Lock) (w : Lock) (after : List Lock) (es : List Event)
    → Sound issued lasts (before ++ (w ∷ after))
    → T (free (before ++ (w ∷ after)) w)
    → P lasts before (w ∷ after) es
    → P (lasts_after lasts w) (before ++ (grant lasts (before ++ (w ∷ after)) w ∷ [])) after (es ++ (grant_event (grant lasts (before ++ (w ∷ after)) w) ∷ []))

abbrev pub OnWait : ℕ → Law → Type 0
OnWait issued P =
    (lasts : List ℕ) (before : List Lock) (w : Lock) (after : List Lock) (es : List Event)
    → Sound issued lasts (before ++ (w ∷ after))
    → T (not (free (before ++ (w ∷ after)) w))
    → P lasts before (w ∷ after) es
    → P lasts (before ++ (w ∷ [])) after es

-- after n turns
record Reached (issued size : ℕ) (P : Law) (n : ℕ) (s : Settled) : Type 0 where
  count : s.table.issued ≡ issued
  long : length s.table.locks ≡ size
  sound : Sound issued s.table.lasts s.table.locks
  law : P s.table.lasts (take n s.table.locks) (drop n s.table.locks) s.events

module _ (issued size : ℕ) (P : Law) (on : OnGrant issued P) (by : OnWait issued P) where
  step : (n : ℕ) (s : Settled) → n < size → Reached issued size P n s → Reached issued size P (suc n) (turn n s)
  unfolding turn
  step n s h R =
      by_cond (Reached issued size P (suc n)) (free rs w) (granting n s w (grant lasts rs w)) s
      (λ t.
      let u : T (free L w) = subst (λ (l : List Lock). T (free l w)) e t in
      record {
        count = R.count;
        long = length-set rs n (grant lasts rs w) ∙ R.long;
        sound =
            subst (λ (l : List Lock). Sound issued (lasts_after lasts w) l) (sym (set_split rs n (grant lasts rs w) k))
            (subst (λ (l : List Lock). Sound issued (lasts_after lasts w) (take n rs ++ (grant lasts l w ∷ drop (suc n) rs))) (sym e)
            (grant-sound issued lasts (take n rs) w (drop (suc n) rs) S u));
        law =
            subst (λ (l : List Lock). P (lasts_after lasts w) l (drop (suc n) (set_to rs)) (es ++ (grant_event (grant lasts rs w) ∷ []))) (sym (take-suc-set rs n (grant lasts rs w) k))
            (subst (λ (l : List Lock). P (lasts_after lasts w) (take n rs ++ (grant lasts rs w ∷ [])) l (es ++ (grant_event (grant lasts rs w) ∷ []))) (sym (drop-set-lt (suc n) rs n (grant lasts rs w) (omega arith)))
            (subst (λ (l : List Lock). P (lasts_after lasts w) (take n rs ++ (grant lasts l w ∷ [])) (drop (suc n) rs) (es ++ (grant_event (grant lasts l w) ∷ []))) (sym e)
            (on lasts (take n rs) w (drop (suc n) rs) es S u p)));
      })
      (λ t.
      record {
        count = R.count;
        long = R.long;
        sound = R.sound;
        law =
            subst (λ (l : List Lock). P lasts l (drop (suc n) rs) es) (sym (take-suc rs n blank k))
            (by lasts (take n rs) w (drop (suc n) rs) es S (subst (λ (l : List Lock). T (not (free l w))) e t) p);
      })
    where
      rs : List Lock
      rs = s.table.locks

      lasts : List ℕ
      lasts = s.table.lasts

      es : List Event
      es = s.events

      w : Lock
      w = nth s.table n

      L : List Lock
      L = take n rs ++ (w ∷ drop (suc n) rs)

      set_to : List Lock → List Lock
      set_to l = (granting n s w (grant lasts l w)).table.locks

      k : n < length rs
      k = subst (λ (m : ℕ). n < m) (sym R.long) h

      e : rs ≡ L
      e = split_at rs n blank k

      S : Sound issued lasts L
      S = subst (λ (l : List Lock). Sound issued lasts l) e R.sound

      p : P lasts (take n rs) (w ∷ drop (suc n) rs) es
      p = subst (λ (l : List Lock). P lasts (take n rs) l es) (drop-cons rs n blank k) R.law

  steps : (t : Table) → Reached issued size P 0 (turns 0 t) → (n : ℕ) → n ≤ size → Reached issued size P n (turns n t)
  unfolding turns
  steps t R zero h = R
  steps t R (suc n) h = step n (turns n t) h (steps t R n (omega arith))

-- after all of them: the table stays sound, and the law holds of it
pub record Walked (issued : ℕ) (P : Law) (s : Settled) : Type 0 where
  pub count : s.table.issued ≡ issued
  pub sound : Sound issued s.table.lasts s.table.locks
  pub law : P s.table.lasts s.table.locks [] s.events

pub walk : (P : Law) (t : Table) → OnGrant t.issued P → OnWait t.issued P → Sound t.issued t.lasts t.locks → P t.lasts [] t.locks []
    → Walked t.issued P (turns (length t.locks) t)
unfolding turns
walk P t on by S p = end (turns N t) (steps t.issued N P on by t (record { count = refl; long = refl; sound = S; law = p }) N (omega arith))
  where
    N : ℕ
    N = length t.locks

    end : (s : Settled) → Reached t.issued N P N s → Walked t.issued P s
    end s R =
        let rs : List Lock = s.table.locks in
        record {
          count = R.count;
          sound = R.sound;
          law =
              subst (λ (l : List Lock). P s.table.lasts l [] s.events) (ap (λ (m : ℕ). take m rs) (sym R.long) ∙ take-length rs)
              (subst (λ (l : List Lock). P s.table.lasts (take N rs) l s.events) (ap (λ (m : ℕ). drop m rs) (sym R.long) ∙ drop-length rs) R.law);
        }

-- after n turns the table is sound, with as many records, and as many handles issued
pub record Sounds (t : Table) (s : Settled) : Type 0 where
  pub count : s.table.issued ≡ t.issued
  pub long : length s.table.locks ≡ length t.locks
  pub sound : Sound t.issued s.table.lasts s.table.locks

pub turns-sound : (t : Table) → Sound t.issued t.lasts t.locks → (n : ℕ) → n ≤ length t.locks → Sounds t (turns n t)
unfolding turns
turns-sound t S n h = read (turns n t) (steps t.issued (length t.locks) (λ l b a e. Unit {0}) (λ l b w a e s f p. tt) (λ l b w a e s f p. tt) t (record { count = refl; long = refl; sound = S; law = tt }) n h)
  where
    read : (s : Settled) → Reached t.issued (length t.locks) (λ l b a e. Unit {0}) n s → Sounds t s
    read s R = record { count = R.count; long = R.long; sound = R.sound }
