-- How many events requests bring together. A record can still be told of twice while it waits, once while it is granted, and else not at all; each
-- event takes one of these away, and a request adds two. So requests one after the other bring at most two events for each record that has room.
use Prim.Native.Nat.{ℕ, ◌+◌, ◌*◌, ◌-◌, ◌≤◌}
use native.Mathlib.Omega.{arith}
use mathlib.Core.Bool.{Bool, true, false, cond}
use mathlib.Core.List.{List, [], ◌∷◌, ◌++◌, map, append-nil}
use mathlib.Core.Path.{◌≡◌, refl}
use lib.Dec.{T, eqb, eqb→eq}
use lib.ListN.{length, length-append, length-map}
use Rattle.common.specs.Tests.{all, keep}
use Rattle.common.proofs.Bools.{and_l, and_r, true-is, false-is}
use Rattle.modes.specs.Codes.{granted, asked}
use Rattle.table.specs.declared.Lock.{Lock}
use Rattle.table.specs.Table.{Table, max_records, waits, held}
use Rattle.table.specs.Sound.{sound}
use Rattle.table.proofs.Facts.{Sound, sound→}
use Rattle.locks.specs.declared.Message.{Message}
use Rattle.locks.specs.declared.Message.TheVariants.{Request, Acknowledge, Downgrade, Release}
use Rattle.locks.specs.Settle.{Settled, grant_event, revocation, in_state, grant, turns, wanted, revoked, revocations, settle}
use Rattle.locks.specs.Refusals.{rules}
use Rattle.locks.specs.Serve.{Outcome, change, answered, serve}
use Rattle.locks.specs.Session.{events, requests}
use Rattle.locks.proofs.Walk.{OnGrant, OnWait, walk, turns-sound}
use Rattle.locks.proofs.Events.{grant-held}
use Rattle.locks.proofs.Served.{change-keeps, by-served, serve-sound}

-- how many events can still tell of a record, and of all of them
abbrev weight_of : Lock → ℕ
weight_of r = cond (waits r) 2 (cond (eqb r.state granted) 1 0)

abbrev weight : List Lock → ℕ
weight [] = 0
weight (r ∷ rs) = weight_of r + weight rs

weight-append : (a b : List Lock) → weight (a ++ b) ≡ weight a + weight b
weight-append [] b = omega arith
weight-append (r ∷ a) b = let h = weight-append a b in omega arith

weight-held : (r : Lock) → T (held r) → weight_of r ≤ 1
weight-held r h = rw (false-is (waits r) h) (go (eqb r.state granted))
  where
    go : (b : Bool) → cond {A = ℕ} b 1 0 ≤ 1
    go true = omega arith
    go false = omega arith

weight-most : (rs : List Lock) → weight rs ≤ 2 * length rs
weight-most [] = omega arith
weight-most (r ∷ rs) = let h = weight-most rs in let g = one (waits r) (eqb r.state granted) in omega arith
  where
    one : (a b : Bool) → cond {A = ℕ} a 2 (cond b 1 0) ≤ 2
    one true b = omega arith
    one false true = omega arith
    one false false = omega arith

-- a turn takes a waiting record to a held one and tells one event
turns-weigh : (t : Table) → Sound t.issued t.lasts t.locks
    → length (turns (length t.locks) t).events + weight (turns (length t.locks) t).table.locks ≤ weight t.locks
turns-weigh t S = rw append-nil at (walk (λ lasts before after es. length es + weight (before ++ after) ≤ weight t.locks) t on by S (omega arith)).law
  where
    on : OnGrant t.issued (λ lasts before after es. length es + weight (before ++ after) ≤ weight t.locks)
    on lasts before w after es S f P =
        let g : Lock = grant lasts (before ++ (w ∷ after)) w in
        let e : weight_of w ≡ 2 = rw (true-is (waits w) (search and_l)) refl in
        omega (
          arith,
          weight-held g (grant-held lasts (before ++ (w ∷ after)) w),
          length-append es (grant_event g ∷ []),
          weight-append before (w ∷ after),
          weight-append (before ++ (g ∷ [])) after,
          weight-append before (g ∷ []),
        )

    by : OnWait t.issued (λ lasts before after es. length es + weight (before ++ after) ≤ weight t.locks)
    by lasts before w after es S f P = omega (arith, weight-append before (w ∷ after), weight-append (before ++ (w ∷ [])) after, weight-append before (w ∷ []))

-- a revocation takes a granted lock to an asked one
revokes-weigh : (rs xs : List Lock) → length (keep (wanted rs) xs) + weight (map (revoked rs) xs) ≤ weight xs
revokes-weigh rs [] = omega arith
revokes-weigh rs (x ∷ xs) = go (wanted rs x) (λ t. eqb→eq x.state granted (search and_l)) (revokes-weigh rs xs)
  where
    go : (b : Bool) → (T b → x.state ≡ granted) → length (keep (wanted rs) xs) + weight (map (revoked rs) xs) ≤ weight xs
        → length (cond b (x ∷ keep (wanted rs) xs) (keep (wanted rs) xs)) + (weight_of (cond b (in_state asked x) x) + weight (map (revoked rs) xs)) ≤ weight_of x + weight xs
    go true f h = let e : weight_of x ≡ 1 = rw (f tt) refl in omega arith
    go false f h = omega arith

settle-weighs : (t : Table) → Sound t.issued t.lasts t.locks → length (settle t).events + weight (settle t).table.locks ≤ weight t.locks
unfolding settle
settle-weighs t S =
    let s : Settled = turns (length t.locks) t in
    let rs : List Lock = s.table.locks in
    let h = turns-weigh t S in
    omega (arith, length-append s.events (revocations rs), length-map (keep (wanted rs) rs) (λ r. revocation (in_state asked r)), revokes-weigh rs rs)

settle-long : (t : Table) → Sound t.issued t.lasts t.locks → length (settle t).table.locks ≡ length t.locks
unfolding settle
settle-long t S =
    let s : Settled = turns (length t.locks) t in
    let e = (turns-sound t S (length t.locks) (omega arith)).long in
    omega (arith, length-map s.table.locks (revoked s.table.locks))

-- how many events requests can still bring: those of the records, and two for each record that has room
abbrev left_of : List Lock → ℕ
left_of rs = weight rs + 2 * (max_records - length rs)

abbrev pub left : Table → ℕ
left t = left_of t.locks

pub left-most : (t : Table) → T (sound t) → left t ≤ 2 * max_records
left-most t s = omega (arith, weight-most t.locks, (sound→ t s).fits)

added-left : (rs : List Lock) (w : Lock) → T (waits w) → length (rs ++ (w ∷ [])) ≤ max_records → left_of (rs ++ (w ∷ [])) ≤ left_of rs
added-left rs w t h =
    let e : weight_of w ≡ 2 = rw (true-is (waits w) t) refl in
    omega (arith, length-append rs (w ∷ []), weight-append rs (w ∷ []))

change-left : (t : Table) (m : Message) → T (requests m) → length (change t m).locks ≤ max_records → left (change t m) ≤ left t
unfolding change
change-left t (Request c s m f l k) r h = added-left t.locks _ tt h
change-left t (Acknowledge c h) r _ = absurd r
change-left t (Downgrade c h) r _ = absurd r
change-left t (Release c h) r _ = absurd r

pub serve-left : (t : Table) (m : Message) → T (requests m) → T (sound t) → length (serve t m).events + left (serve t m).table ≤ left t
unfolding serve
serve-left t m r s =
    by-served (rules t m) (answered t m) (change t m) t (λ (o : Outcome). length o.events + left o.table ≤ left t)
    (λ e.
    let S : Sound (change t m).issued (change t m).lasts (change t m).locks = sound→ (change t m) (change-keeps t m s e) in
    omega (arith, settle-weighs (change t m) S, settle-long (change t m) S, change-left t m r S.fits))
    (omega arith)

-- all of them together
pub events-left : (t : Table) (ms : List Message) → T (all requests ms) → T (sound t) → length (events t ms) ≤ left t
events-left t [] a s = omega arith
events-left t (m ∷ ms) a s =
    let u : Table = (serve t m).table in
    omega (
      arith,
      length-append (serve t m).events (events u ms),
      serve-left t m (and_l (requests m) (all requests ms) a) s,
      events-left u ms (and_r (requests m) (all requests ms) a) (serve-sound t m s),
    )

pub requests-few : (t : Table) (ms : List Message) → T (all requests ms) → T (sound t) → length (events t ms) ≤ 2 * max_records
requests-few t ms a s = omega (arith, events-left t ms a s, left-most t s)
