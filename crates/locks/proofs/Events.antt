-- The events of a call: grants in rising handle, then revocations in rising handle, each record at most once, so at most 256. The thought: a lock
-- that is granted in state 1 conflicts with no waiting request, then or later in the call, so it is not asked in the same call.
use Prim.Native.Nat.{ℕ, ◌≤◌, zero-le}
use native.Mathlib.Omega.{arith}
use mathlib.Core.Bool.{Bool, true, not, ◌&&◌}
use mathlib.Core.List.{List, [], ◌∷◌, ◌++◌, map, map-map, map-append, append-nil}
use mathlib.Core.Logic.{inl, inr}
use mathlib.Core.Path.{◌≡◌, refl, sym, ap, ap₂, subst, subst₂, ◌∙◌}
use lib.Dec.{T, T_not, not_T, ltb, eqb, ltb→lt, eqb→eq}
use lib.ListN.{length, length-append, length-map}
use lib.Seq.{append_snoc}
use Rattle.common.specs.Refusals.{Rule, first_hit}
use Rattle.common.specs.Tests.{all, any, keep, pairs}
use Rattle.common.proofs.Bools.{and_l, and_r, and_i, by_cond, nand-l, nand-imp}
use Rattle.common.proofs.Listed.{all-imp, all-imp2, none, nobody, all-out, all-put, all_join, pairs-keep, pairs-map}
use Rattle.common.proofs.Order.{eq→eqb}
use Rattle.common.proofs.Sublist as sub
use Rattle.common.proofs.Sublist.{Sub}
use Rattle.modes.specs.Codes.{granted, asked, canceling}
use Rattle.modes.specs.Conflict.{conflict}
use Rattle.modes.proofs.Rule.{harmless, Harmless}
use Rattle.table.specs.declared.Lock.{Lock}
use Rattle.table.specs.Table.{Table, handle_of, waits, held, max_records}
use Rattle.table.specs.Sound.{valid, differ, share, agree, sound}
use Rattle.table.proofs.Facts.{Valid, valid→, Sound, sound→}
use Rattle.locks.specs.declared.Message.{Message}
use Rattle.locks.specs.Conflicts.{other, against, conflicts, hurries}
use Rattle.locks.specs.Settle.{Event, Settled, grant_event, revocation, given, in_state, next_number, last_given, grant, free, turns, presses, wanted, revocations, settle}
use Rattle.locks.specs.Refusals.{rules}
use Rattle.locks.specs.Serve.{Outcome, change, answered, served, serve}
use Rattle.locks.proofs.Turn.{w-valid-here, widened-clear}
use Rattle.locks.proofs.Walk.{OnGrant, OnWait, Walked, walk}
use Rattle.locks.proofs.Served.{change-keeps, by-served}

-- Two records are two either way round
turned : (a b : Lock) → T (other a b) → T (other b a)
turned a b o = not_T (eqb (handle_of b) (handle_of a)) (λ k. T_not (eqb (handle_of a) (handle_of b)) o (eq→eqb (handle_of a) (handle_of b) (sym (eqb→eq (handle_of b) (handle_of a) k))))

-- Without canceling the matrix is the same both ways: a request x that w does not conflict with does not conflict with w once it is granted
pr-meets-pr : (s : ℕ) → T (conflict 1 1 s) → ⊥
unfolding conflict
pr-meets-pr s t = t

pub not-both : (w x : Lock) (s l n issued : ℕ) (lasts : List ℕ) → Valid issued lasts w → Valid issued lasts x → T (not (against w l x)) → T (not (presses (given w s n l) x))
not-both w x s l n issued lasts v u c =
    not_T (presses (given w s n l) x)
    (λ t.
    let a : T (conflicts x (given w s n l)) = search (and_r) in
    go (harmless w.mode x.mode x.state v.mode-lo v.mode-hi u.mode-lo u.mode-hi
    (not_T (conflict w.mode x.mode x.state)
    (λ z.
    let o : T (other x w) = search (and_l, and_r) in
    let e : T (eqb x.stripe w.stripe) = search (and_l, and_r) in
    let b : T (eqb w.stripe x.stripe) = eq→eqb w.stripe x.stripe (sym (eqb→eq x.stripe w.stripe e)) in
    let q : T (other w x) = turned x w o in
    T_not (against w l x) c (search (and_l, and_r, and_i) depth 7))))
    (eqb→eq x.state 0 (search (and_l))) (search (and_r)))
  where
    go : Harmless w.mode x.mode x.state → x.state ≡ 0 → T (conflict x.mode w.mode s) → ⊥
    go (inl p) e h = pr-meets-pr s (subst₂ (λ (a b : ℕ). T (conflict a b s)) p.1 p.0 h)
    go (inr p) e h = omega arith

-- What is granted is held
pub grant-held : (lasts : List ℕ) (rs : List Lock) (w : Lock) → T (held (grant lasts rs w))
unfolding grant
grant-held lasts rs w =
    by_cond (λ (g : Lock). T (held g)) (any (hurries w) rs)
    (given w canceling (next_number lasts w) w.last) (given w granted (next_number lasts w) (last_given rs w)) (λ u. tt) (λ u. tt)

-- The turn of w
module _ (issued : ℕ) (lasts : List ℕ) (before : List Lock) (w : Lock) (after : List Lock) (S : Sound issued lasts (before ++ (w ∷ after))) where
  abbrev table : List Lock
  table = before ++ (w ∷ after)

  -- what it becomes is not asked
  pub unwanted : T (free table w) → T (not (wanted (before ++ (grant lasts table w ∷ after)) (grant lasts table w)))
  unfolding grant
  unwanted t =
      by_cond (λ (g : Lock). T (not (wanted (before ++ (g ∷ after)) g))) (any (hurries w) table)
      (given w canceling (next_number lasts w) w.last) one (λ u. tt)
      (λ u. nobody (presses one) (before ++ (one ∷ after))
      (all-put (λ x. not (presses one x)) before one after tt
      (all-imp2 (valid issued lasts) (λ r. not (against w (last_given table w) r)) (λ x. not (presses one x))
      (λ x a b. not-both w x granted (last_given table w) (next_number lasts w) issued lasts (w-valid-here issued lasts before w after S t) (valid→ issued lasts x a) b)
      (before ++ after) (all-out (valid issued lasts) before w after S.each)
      (all-out (λ r. not (against w (last_given table w) r)) before w after (widened-clear issued lasts before w after S t u)))))
    where
      one : Lock
      one = given w granted (next_number lasts w) (last_given table w)

  -- a grant makes no other record wanted
  pub less-wanted : (g : Lock) → T (held g) → (r : Lock) → T (not (wanted table r)) → T (not (wanted (before ++ (g ∷ after)) r))
  less-wanted g h r =
      nand-imp (eqb r.state granted) (any (presses r) table) (any (presses r) (before ++ (g ∷ after)))
      (λ n. nobody (presses r) (before ++ (g ∷ after))
      (all-put (λ x. not (presses r x)) before g after (nand-l (waits g) (conflicts g r) h) (all-out (λ x. not (presses r x)) before w after (none (presses r) table n))))

-- The grants so far, some of the records whose turn is over: none of them is wanted
pub record Spared (lasts : List ℕ) (before after : List Lock) (es : List Event) : Type 0 where
  pub grants : List Lock
  pub are : es ≡ map grant_event grants
  pub among : Sub grants before
  pub calm : T (all (λ r. not (wanted (before ++ after) r)) grants)

pub spare : (t : Table) → Sound t.issued t.lasts t.locks → Walked t.issued Spared (turns (length t.locks) t)
spare t S = walk Spared t on by S (record { grants = []; are = refl; among = sub.none; calm = tt })
  where
    on : OnGrant t.issued Spared
    on lasts before w after es S f P =
        let g : Lock = grant lasts (before ++ (w ∷ after)) w in
        record {
          grants = P.grants ++ (g ∷ []);
          are = ap (λ (l : List Event). l ++ (grant_event g ∷ [])) P.are ∙ sym (map-append grant_event P.grants (g ∷ []));
          among = sub.with-last g P.among;
          calm =
              rw append_snoc
              (all_join (λ r. not (wanted (before ++ (g ∷ after)) r)) P.grants (g ∷ [])
              (all-imp (λ r. not (wanted (before ++ (w ∷ after)) r)) (λ r. not (wanted (before ++ (g ∷ after)) r)) (less-wanted t.issued lasts before w after S g (grant-held lasts (before ++ (w ∷ after)) w)) P.grants P.calm)
              (and_i (not (wanted (before ++ (g ∷ after)) g)) true (unwanted t.issued lasts before w after S f) tt));
        }

    by : OnWait t.issued Spared
    by lasts before w after es S f P = record { grants = P.grants; are = P.are; among = sub.skip-last w P.among; calm = rw append_snoc P.calm }

-- The events of a call
abbrev pub handles : List Event → List ℕ
handles = map (λ e. handle_of e.lock)

abbrev pub distinct : List ℕ → Bool
distinct = pairs (λ a b. not (eqb a b))

abbrev pub rising : List Lock → Bool
rising = pairs (λ a b. ltb (handle_of a) (handle_of b))

pub record Once (es : List Event) : Type 0 where
  pub grants : List Lock
  pub revoked : List Lock
  pub are : es ≡ map grant_event grants ++ map revocation revoked
  pub grants-rise : T (rising grants)
  pub revoked-rise : T (rising revoked)
  pub one_each : T (distinct (handles es))
  pub at_most : length es ≤ max_records

same-handles : (a b : List Lock) → handles (map grant_event a ++ map revocation b) ≡ map handle_of (a ++ b)
same-handles a b =
    map-append (λ e. handle_of e.lock) (map grant_event a) (map revocation b)
    ∙ ap₂ (λ (x y : List ℕ). x ++ y) (map-map (λ e. handle_of e.lock) grant_event a) (map-map (λ e. handle_of e.lock) revocation b)
    ∙ sym (map-append handle_of a b)

rises : (a b : Lock) → T (agree a b) → T (ltb (handle_of a) (handle_of b))
unfolding agree
rises a b t = and_l (ltb (handle_of a) (handle_of b)) (differ a b && share a b) t

apart : (a b : Lock) → T (agree a b) → T (other a b)
apart a b t = not_T (eqb (handle_of a) (handle_of b)) (λ e. let h = ltb→lt (handle_of a) (handle_of b) (rises a b t) in let q = eqb→eq (handle_of a) (handle_of b) e in omega arith)

pairs-imp : (f g : Lock → Lock → Bool) → ((a b : Lock) → T (f a b) → T (g a b)) → (rs : List Lock) → T (pairs f rs) → T (pairs g rs)
pairs-imp f g h [] t = tt
pairs-imp f g h (r ∷ rs) t =
    and_i (all (g r) rs) (pairs g rs) (all-imp (f r) (g r) (h r) rs (and_l (all (f r) rs) (pairs f rs) t)) (pairs-imp f g h rs (and_r (all (f r) rs) (pairs f rs) t))

once : (issued : ℕ) (s : Settled) → Walked issued Spared s → Once (s.events ++ revocations s.table.locks)
once issued s W =
    record {
      grants = G;
      revoked = map (in_state asked) K;
      are = are;
      grants-rise = sub.sub-pairs (λ a b. ltb (handle_of a) (handle_of b)) W.law.among rise;
      revoked-rise = pairs-map (λ a b. ltb (handle_of a) (handle_of b)) (λ a b. ltb (handle_of a) (handle_of b)) (in_state asked) (λ a b t. t) K (pairs-keep (λ a b. ltb (handle_of a) (handle_of b)) (wanted rs) rs rise);
      one_each =
          subst (λ (l : List ℕ). T (distinct l)) (sym (ap handles are ∙ same-handles G (map (in_state asked) K) ∙ handles-kept))
          (pairs-map other (λ a b. not (eqb a b)) handle_of (λ a b t. t) (G ++ K) (sub.once (wanted rs) other turned W.law.among calm (pairs-imp agree other apart rs W.sound.apart)));
      at_most =
          omega (arith, length-append s.events (revocations rs), length-map G grant_event, ap length W.law.are, length-map K (λ r. revocation (in_state asked r)), sub.few (wanted rs) W.law.among calm, W.sound.fits);
    }
  where
    rs : List Lock
    rs = s.table.locks

    G : List Lock
    G = W.law.grants

    K : List Lock
    K = keep (wanted rs) rs

    rise : T (rising rs)
    rise = pairs-imp agree (λ a b. ltb (handle_of a) (handle_of b)) rises rs W.sound.apart

    calm : T (all (λ r. not (wanted rs r)) G)
    calm = rw append-nil at W.law.calm

    are : s.events ++ revocations rs ≡ map grant_event G ++ map revocation (map (in_state asked) K)
    are = ap₂ (λ (a b : List Event). a ++ b) W.law.are (sym (map-map revocation (in_state asked) K))

    handles-kept : map handle_of (G ++ map (in_state asked) K) ≡ map handle_of (G ++ K)
    handles-kept = map-append handle_of G (map (in_state asked) K) ∙ ap (λ (l : List ℕ). map handle_of G ++ l) (map-map handle_of (in_state asked) K) ∙ sym (map-append handle_of G K)

-- Each record gets at most one event in a call, so there are at most 256
pub settle-once : (t : Table) → T (sound t) → Once (settle t).events
unfolding settle
settle-once t s = once t.issued (turns (length t.locks) t) (spare t (sound→ t s))

pub served-once : (list : List Rule) (h : ℕ) (u t : Table) → (T (eqb (first_hit list) 0) → T (sound u)) → Once (served list h u t).events
served-once list h u t g =
    by-served list h u t (λ (o : Outcome). Once o.events) (λ e. settle-once u (g e))
    (record { grants = []; revoked = []; are = refl; grants-rise = tt; revoked-rise = tt; one_each = tt; at_most = zero-le })

pub serve-once : (t : Table) (m : Message) → T (sound t) → Once (serve t m).events
unfolding serve
serve-once t m s = served-once (rules t m) (answered t m) (change t m) t (change-keeps t m s)
