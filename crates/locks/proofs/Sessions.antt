-- Over any session: the table stays sound, each waiting request has an obstacle, none is overtaken; and the write grants of a stripe are numbered
-- 1, 2, 3, ..: each takes the stripe's last number plus one.
use Prim.Native.Nat.{ℕ, zero, suc, ◌+◌, ◌<◌}
use native.Mathlib.Omega.{arith}
use mathlib.Core.Bool.{Bool, true, false, ◌&&◌, cond}
use mathlib.Core.List.{List, [], ◌∷◌, ◌++◌, map, map-append, append-nil}
use mathlib.Core.Path.{◌≡◌, refl, sym, ap, subst, ◌∙◌}
use lib.Dec.{T, eqb, eqb→eq}
use lib.ListN.{length, get_or, replicate}
use Rattle.common.specs.Refusals.{Rule, first_hit}
use Rattle.common.specs.Tests.{all, any, keep, up_from}
use Rattle.common.proofs.Bools.{and_l, and_r, by_cond}
use Rattle.common.proofs.Listed.{keep_append}
use Rattle.modes.specs.Codes.{granted, asked, canceling}
use Rattle.table.specs.declared.Lock.{Lock}
use Rattle.table.specs.Table.{Table, empty, stripe_count, number_of, writes, last_of}
use Rattle.table.specs.Sound.{sound}
use Rattle.table.proofs.Facts.{Sound, sound→}
use Rattle.table.proofs.Zeros.{empty-sound}
use Rattle.locks.specs.declared.Message.{Message}
use Rattle.locks.specs.declared.Message.TheVariants.{Request, Acknowledge, Downgrade, Release}
use Rattle.locks.specs.Conflicts.{hurries}
use Rattle.locks.specs.Settle.{Event, grant_event, revocation, given, in_state, next_number, lasts_after, last_given, grant, turns, wanted, revocations, settle}
use Rattle.locks.specs.Refusals.{rules}
use Rattle.locks.specs.Serve.{Outcome, change, answered, served, serve}
use Rattle.locks.specs.Session.{table_after, events, write_grant, numbers}
use Rattle.locks.proofs.Numbering.{next-is, lasts-at}
use Rattle.locks.proofs.Turn.{w-valid-here}
use Rattle.locks.proofs.Walk.{OnGrant, OnWait, walk}
use Rattle.locks.proofs.Served.{change-keeps, by-served, serve-sound}
use Rattle.locks.proofs.Waits.{stuck, serve-stuck}
use Rattle.locks.proofs.Overtaken.{in_order, serve-in-order}
use Rattle.locks.proofs.Rows.{Row, row-none, row-join, row-from-one}

pub session-sound : (t : Table) (ms : List Message) → T (sound t) → T (sound (table_after t ms))
session-sound t [] s = s
session-sound t (m ∷ ms) s = session-sound (serve t m).table ms (serve-sound t m s)

-- what each message keeps holds after a session from the empty table
session-keeps : (P : Table → Type 0) → ((t : Table) (m : Message) → T (sound t) → P t → P (serve t m).table) → (t : Table) (ms : List Message) → T (sound t) → P t → P (table_after t ms)
session-keeps P f t [] s p = p
session-keeps P f t (m ∷ ms) s p = session-keeps P f (serve t m).table ms (serve-sound t m s) (f t m s p)

pub session-stuck : (ms : List Message) → T (all (stuck (table_after empty ms).locks) (table_after empty ms).locks)
session-stuck ms = session-keeps (λ t. T (all (stuck t.locks) t.locks)) serve-stuck empty ms empty-sound tt

pub session-in-order : (ms : List Message) → T (in_order (table_after empty ms).locks)
session-in-order ms = session-keeps (λ t. T (in_order t.locks)) serve-in-order empty ms empty-sound tt

-- Numbers: those of a stripe's write grants, where its last number was `base`
abbrev Counted : ℕ → ℕ → List ℕ → List Event → Type 0
Counted s base lasts es = Row base (get_or lasts s 0) (numbers s es)

numbers-append : (s : ℕ) (es fs : List Event) → numbers s (es ++ fs) ≡ numbers s es ++ numbers s fs
numbers-append s es fs = ap (map (λ e. number_of e.lock)) (keep_append (write_grant s) es fs) ∙ map-append (λ e. number_of e.lock) (keep (write_grant s) es) (keep (write_grant s) fs)

-- one row after the other
joined : (s base : ℕ) (lasts lasts' : List ℕ) (es fs : List Event) → Counted s base lasts es → Counted s (get_or lasts s 0) lasts' fs → Counted s base lasts' (es ++ fs)
joined s base lasts lasts' es fs c d =
    subst (λ (l : List ℕ). Row base (get_or lasts' s 0) l) (sym (numbers-append s es fs)) (row-join base (get_or lasts s 0) (get_or lasts' s 0) (numbers s es) (numbers s fs) c d)

-- the grant of w, in either state
one : (s : ℕ) (lasts : List ℕ) (w : Lock) (state l : ℕ) → w.stripe < length lasts
    → Counted s (get_or lasts s 0) (lasts_after lasts w) (grant_event (given w state (next_number lasts w) l) ∷ [])
one s lasts w state l h = record { many = cond own 1 0; are = row own number; ends = lasts-at lasts w h s }
  where
    own : Bool
    own = writes w && eqb w.stripe s

    e : Event
    e = grant_event (given w state (next_number lasts w) l)

    number : T own → next_number lasts w ≡ get_or lasts s 0 + 1
    number t = next-is lasts w (and_l (writes w) (eqb w.stripe s) t) ∙ ap (λ (i : ℕ). get_or lasts i 0 + 1) (eqb→eq w.stripe s (and_r (writes w) (eqb w.stripe s) t))

    row : (b : Bool) → (T b → next_number lasts w ≡ get_or lasts s 0 + 1) → map (λ e. number_of e.lock) (cond b (e ∷ []) []) ≡ up_from (get_or lasts s 0 + 1) (cond b 1 0)
    row true f = ap (λ (n : ℕ). n ∷ []) (f tt)
    row false f = refl

granted-one : (s : ℕ) (lasts : List ℕ) (rs : List Lock) (w : Lock) → w.stripe < length lasts → Counted s (get_or lasts s 0) (lasts_after lasts w) (grant_event (grant lasts rs w) ∷ [])
unfolding grant
granted-one s lasts rs w h =
    by_cond (λ (g : Lock). Counted s (get_or lasts s 0) (lasts_after lasts w) (grant_event g ∷ [])) (any (hurries w) rs)
    (given w canceling (next_number lasts w) w.last) (given w granted (next_number lasts w) (last_given rs w))
    (λ t. one s lasts w canceling w.last h) (λ t. one s lasts w granted (last_given rs w) h)

no_number : (s : ℕ) (rs : List Lock) → numbers s (map (λ r. revocation (in_state asked r)) rs) ≡ []
no_number s [] = refl
no_number s (r ∷ rs) = no_number s rs

settle-counted : (t : Table) (s : ℕ) → Sound t.issued t.lasts t.locks → Counted s (last_of t s) (settle t).table.lasts (settle t).events
unfolding settle
settle-counted t s S =
    let c = (walk (λ lasts before rest es. Counted s (last_of t s) lasts es) t on by S (row-none (last_of t s))).law in
    let rs : List Lock = (turns (length t.locks) t).table.locks in
    let es : List Event = (turns (length t.locks) t).events in
    subst (λ (l : List ℕ). Row (last_of t s) (get_or (turns (length t.locks) t).table.lasts s 0) l)
    (sym (numbers-append s es (revocations rs) ∙ ap (λ (l : List ℕ). numbers s es ++ l) (no_number s (keep (wanted rs) rs)) ∙ append-nil (numbers s es))) c
  where
    on : OnGrant t.issued (λ lasts before rest es. Counted s (last_of t s) lasts es)
    on lasts before w rest es S f c =
        joined s (last_of t s) lasts (lasts_after lasts w) es (grant_event (grant lasts (before ++ (w ∷ rest)) w) ∷ []) c
        (granted-one s lasts (before ++ (w ∷ rest)) w (let h = (w-valid-here t.issued lasts before w rest S f).stripe-hi in let n = S.sixteen in omega arith))

    by : OnWait t.issued (λ lasts before rest es. Counted s (last_of t s) lasts es)
    by lasts before w rest es S f c = c

same-lasts : (t : Table) (m : Message) → (change t m).lasts ≡ t.lasts
unfolding change
same-lasts t (Request c s m f l k) = refl
same-lasts t (Acknowledge c h) = refl
same-lasts t (Downgrade c h) = refl
same-lasts t (Release c h) = refl

pub served-counted : (list : List Rule) (h : ℕ) (u t : Table) (s : ℕ) → (T (eqb (first_hit list) 0) → T (sound u)) → u.lasts ≡ t.lasts
    → Counted s (last_of t s) (served list h u t).table.lasts (served list h u t).events
served-counted list h u t s g q =
    by-served list h u t (λ (o : Outcome). Counted s (last_of t s) o.table.lasts o.events)
    (λ e. subst (λ (l : List ℕ). Counted s (get_or l s 0) (settle u).table.lasts (settle u).events) q (settle-counted u s (sound→ u (g e))))
    (row-none (last_of t s))

pub serve-counted : (t : Table) (m : Message) (s : ℕ) → T (sound t) → Counted s (last_of t s) (serve t m).table.lasts (serve t m).events
unfolding serve
serve-counted t m s q = served-counted (rules t m) (answered t m) (change t m) t s (change-keeps t m q) (same-lasts t m)

pub session-counted : (t : Table) (ms : List Message) (s : ℕ) → T (sound t) → Counted s (last_of t s) (table_after t ms).lasts (events t ms)
session-counted t [] s q = row-none (last_of t s)
session-counted t (m ∷ ms) s q =
    joined s (last_of t s) (serve t m).table.lasts (table_after (serve t m).table ms).lasts (serve t m).events (events (serve t m).table ms)
    (serve-counted t m s q) (session-counted (serve t m).table ms s (serve-sound t m q))

-- From the empty table: 1, 2, 3, .. up to the stripe's last number
none_yet : (n s : ℕ) → get_or {A = ℕ} (replicate n 0) s 0 ≡ 0
none_yet zero s = refl
none_yet (suc n) zero = refl
none_yet (suc n) (suc s) = none_yet n s

pub session-numbers : (ms : List Message) (s : ℕ) → numbers s (events empty ms) ≡ up_from 1 (last_of (table_after empty ms) s)
session-numbers ms s =
    row-from-one (last_of (table_after empty ms) s) (numbers s (events empty ms))
    (subst (λ (n : ℕ). Row n (last_of (table_after empty ms) s) (numbers s (events empty ms))) (none_yet stripe_count s) (session-counted empty ms s empty-sound))
