-- What the events of an accepted call are, and why: revocations of the wanted locks, and grants, each at the turn of its place. The thought: the events of
-- the turns are grants alone, and the last of n + 1 turns adds the grant at place n or nothing.
use Prim.Native.Nat.{ℕ, zero, suc, ◌≤◌, ◌<◌}
use native.Mathlib.Omega.{arith}
use mathlib.Core.Bool.{Bool, true, false, not, ◌&&◌, cond}
use mathlib.Core.List.{List, [], ◌∷◌, ◌++◌, append-nil}
use mathlib.Core.Logic.{◌⊎◌, inl, inr, ⊎_elim}
use mathlib.Core.Path.{◌≡◌, refl, sym, ap, subst, ◌∙◌}
use lib.Dec.{T, eqb, eqb→eq}
use lib.ListN.{length}
use Rattle.common.specs.Ranges.{eof}
use Rattle.common.specs.Tests.{any, keep}
use Rattle.common.proofs.Bools.{and_l, and_r, and_i, imp-e, cond-true, cond-false, true-is, false-is}
use Rattle.common.proofs.Order.{below, eq→eqb}
use Rattle.modes.specs.Codes.{granted, asked, canceling}
use Rattle.table.specs.declared.Lock.{Lock}
use Rattle.table.specs.Table.{Table, nth, waits, marked}
use Rattle.table.specs.Sound.{sound}
use Rattle.table.proofs.Facts.{Sound, sound→}
use Rattle.locks.specs.declared.Message.{Message}
use Rattle.locks.specs.Conflicts.{obstacle, hurries}
use Rattle.locks.specs.Settle.{Event, Settled, grant_event, revocation, in_state, given, next_number, widest, last_given, grant, free, granting, turn, turns, presses, wanted, revoked, revocations, settle}
use Rattle.locks.specs.Refusals.{refusal}
use Rattle.locks.specs.Serve.{Outcome, change, answered, accepted, refused, serve}
use Rattle.locks.proofs.Served.{change-sound}
use Rattle.locks.proofs.Events.{Spared, spare, grant-held}
use Rattle.locks.proofs.Revoked.{waits-same}
use Rattle.locks.proofs.Places.{settled-place}
use Rattle.locks.proofs.Waits.{stuck, serve-calm}
use Rattle.locks.proofs.Greatest.{Greatest, turn-greatest}
use Rattle.promises.specs.Among.{Among}
use Rattle.promises.specs.Reasoned.{Granted, Reasoned}
use Rattle.promises.proofs.Members.{in_all, in_split, in_left, in_right, in-keep, keep-in, in_map, map-in}

module _ (U : Table) (S : Sound U.issued U.lasts U.locks) where
  -- when all turns are over
  abbrev all-over : Settled
  all-over = turns (length U.locks) U

  abbrev rs : List Lock
  rs = all-over.table.locks

  -- the events of the turns are grants
  grants : (e : Event) → Among e all-over.events → e.kind ≡ 1
  grants e h =
      let P : Spared all-over.table.lasts rs [] all-over.events = (spare U S).law in
      let k = in_map grant_event e P.grants (subst (λ (l : List Event). Among e l) P.are h) in
      ap (λ (x : Event). x.kind) k.2

  pub is-revoked : (e : Event) → Among e (settle U).events → e.kind ≡ 2
      → (r : Lock) × Among r rs × (e ≡ revocation (in_state asked r)) × (r.state ≡ granted) × T (any (presses r) rs)
  unfolding settle
  is-revoked e h two = go (in_split e all-over.events (revocations rs) h)
    where
      go : Among e all-over.events ⊎ Among e (revocations rs) → (r : Lock) × Among r rs × (e ≡ revocation (in_state asked r)) × (r.state ≡ granted) × T (any (presses r) rs)
      go (inl k) = absurd (let z : ⊥ = (let g = grants e k in omega arith) in z)
      go (inr k) =
          let q = in_map (λ r. revocation (in_state asked r)) e (keep (wanted rs) rs) k in
          let r : Lock = q.0 in
          let w = in-keep (wanted rs) r rs q.1 in
          (r, w.0, q.2, eqb→eq r.state granted (and_l (eqb r.state granted) (any (presses r) rs) w.1), and_r (eqb r.state granted) (any (presses r) rs) w.1)

  pub each-revoked : (r : Lock) → Among r rs → r.state ≡ granted → T (any (presses r) rs) → Among (revocation (in_state asked r)) (settle U).events
  unfolding settle
  each-revoked r h s t =
      in_right (revocation (in_state asked r)) all-over.events (revocations rs)
      (map-in (λ r. revocation (in_state asked r)) r (keep (wanted rs) rs) (keep-in (wanted rs) r rs h (and_i (eqb r.state granted) (any (presses r) rs) (eq→eqb r.state granted s) t)))

  -- at the turn of place n: the table, the record whose turn it is, and what it becomes if it is granted
  abbrev present : ℕ → Table
  present n = (turns n U).table

  abbrev next : ℕ → Lock
  next n = nth (present n) n

  abbrev becomes : ℕ → Lock
  becomes n = grant (present n).lasts (present n).locks (next n)

  abbrev Free : ℕ → Type 0
  Free n = T (free (present n).locks (next n))

  granted-here : (n : ℕ) → n < length U.locks → Free n → Granted (present n) (next n) (grant_event (becomes n))
  unfolding grant
  granted-here n h f =
      record {
        unhindered = and_r (waits w) (not (any (obstacle w) ps)) f;
        early = λ u. ap grant_event (cond-true (any (hurries w) ps) short wide u);
        widened = λ u k.
            let e : becomes n ≡ wide = cond-false (any (hurries w) ps) short wide u in
            let G = subst (λ (g : Lock). Greatest w ps g.last) e (turn-greatest U S n h f u k) in
            (wide.last, ap grant_event e, record { reaches = G.reaches; ends = G.within-eof; clear = G.clear-of-all; greatest = G.no-further });
        exact = λ u k.
            ap grant_event
            (cond-false (any (hurries w) ps) short wide u ∙ ap (given w granted (next_number (present n).lasts w)) (cond-true (marked w) w.last (widest w eof ps) k));
      }
    where
      w : Lock
      w = next n

      ps : List Lock
      ps = (present n).locks

      short : Lock
      short = given w canceling (next_number (present n).lasts w) w.last

      wide : Lock
      wide = given w granted (next_number (present n).lasts w) (last_given ps w)

  -- each event of the turns is the grant at a place
  abbrev At : Event → Type 0
  At e = (n : ℕ) × (n < length U.locks) × Free n × (e ≡ grant_event (becomes n))

  placed : (n : ℕ) (e : Event) → n ≤ length U.locks → Among e (turns n U).events → At e
  unfolding turns turn
  placed zero e h i = absurd i
  placed (suc n) e h i = go (free (present n).locks (next n)) (λ f. f) (placed n e (omega arith)) i
    where
      last_one : Free n → (Among e (turns n U).events → At e) → Among e (turns n U).events ⊎ Among e (grant_event (becomes n) ∷ []) → At e
      last_one f r (inl j) = r j
      last_one f r (inr (inl q)) = (n, h, f, q)
      last_one f r (inr (inr z)) = absurd z

      go : (b : Bool) → (T b → Free n) → (Among e (turns n U).events → At e) → Among e (cond b (granting n (turns n U) (next n) (becomes n)) (turns n U)).events → At e
      go true f r j = last_one (f tt) r (in_split e (turns n U).events (grant_event (becomes n) ∷ []) j)
      go false f r j = r j

  pub is-granted : (e : Event) → Among e (settle U).events → e.kind ≡ 1
      → (n : ℕ) × ((n < length U.locks) × T (waits (next n))) × Granted (present n) (next n) e
  unfolding settle
  is-granted e h one = go (in_split e all-over.events (revocations rs) h)
    where
      go : Among e all-over.events ⊎ Among e (revocations rs) → (n : ℕ) × ((n < length U.locks) × T (waits (next n))) × Granted (present n) (next n) e
      go (inl k) =
          let p = placed (length U.locks) e (omega arith) k in
          let n : ℕ = p.0 in
          (n, (p.1, and_l (waits (next n)) (not (any (obstacle (next n)) (present n).locks)) p.2), subst (λ (x : Event). Granted (present n) (next n) x) (sym p.3) (granted-here n p.1 p.2))
      go (inr k) =
          let q = in_map (λ r. revocation (in_state asked r)) e (keep (wanted rs) rs) k in
          let two : e.kind ≡ 2 = ap (λ (x : Event). x.kind) q.2 in
          absurd (let z : ⊥ = omega arith in z)

  -- and each grant at a place is one of them
  told : (n k : ℕ) → n < k → Free n → Among (grant_event (becomes n)) (turns k U).events
  unfolding turns turn
  told n zero h f = absurd (let z : ⊥ = omega arith in z)
  told n (suc k) h f =
      ⊎_elim (λ (u : n < k). more (free (present k).locks (next k)) (told n k u f)) (λ (u : k ≤ n). let e : n ≡ k = omega arith in subst Last e new) (below n k)
    where
      more : (b : Bool) → Among (grant_event (becomes n)) (turns k U).events → Among (grant_event (becomes n)) (cond b (granting k (turns k U) (next k) (becomes k)) (turns k U)).events
      more true j = in_left (grant_event (becomes n)) (turns k U).events (grant_event (becomes k) ∷ []) j
      more false j = j

      Last : ℕ → Type 0
      Last i = Among (grant_event (becomes n)) (turn i (turns i U)).events

      new : Last n
      new =
          subst (λ (s : Settled). Among (grant_event (becomes n)) s.events)
          (sym (cond-true (free (present n).locks (next n)) (granting n (turns n U) (next n) (becomes n)) (turns n U) f))
          (in_right (grant_event (becomes n)) (turns n U).events (grant_event (becomes n) ∷ []) (inl refl))

  -- what is granted is not asked in the same call
  spared : (n : ℕ) → n < length U.locks → Free n → T (not (wanted rs (becomes n)))
  spared n h f =
      let P : Spared all-over.table.lasts rs [] all-over.events = (spare U S).law in
      let k = in_map grant_event (grant_event (becomes n)) P.grants (subst (λ (l : List Event). Among (grant_event (becomes n)) l) P.are (told n (length U.locks) h f)) in
      subst (λ (g : Lock). T (not (wanted rs g))) (sym (ap (λ (x : Event). x.lock) k.2))
      (in_all (λ r. not (wanted rs r)) k.0 P.grants k.1 (rw append-nil at P.calm))

  pub goes_on : (n : ℕ) → n < length U.locks → T (waits (next n)) → waits (nth (settle U).table n) ≡ any (obstacle (next n)) (present n).locks
  goes_on n h t =
      ap waits (settled-place U S n h) ∙ waits-same rs (cond (free (present n).locks (next n)) (becomes n) (next n))
      ∙ go (waits (next n)) (any (obstacle (next n)) (present n).locks) t (true-is (waits (next n)) t) (false-is (waits (becomes n)) (grant-held (present n).lasts (present n).locks (next n)))
    where
      go : (a b : Bool) → T a → waits (next n) ≡ true → waits (becomes n) ≡ false → waits (cond (a && not b) (becomes n) (next n)) ≡ b
      go true true t p q = p
      go true false t p q = q
      go false b t p q = absurd t

  pub is-told : (n : ℕ) → n < length U.locks → T (waits (next n)) → T (not (any (obstacle (next n)) (present n).locks))
      → Among (grant_event (nth (settle U).table n)) (settle U).events
  unfolding settle
  is-told n h t u =
      subst (λ (x : Lock). Among (grant_event x) (all-over.events ++ revocations rs)) (sym stands)
      (in_left (grant_event (becomes n)) all-over.events (revocations rs) (told n (length U.locks) h f))
    where
      f : Free n
      f = and_i (waits (next n)) (not (any (obstacle (next n)) (present n).locks)) t u

      stands : nth (settle U).table n ≡ becomes n
      stands =
          settled-place U S n h ∙ ap (revoked rs) (cond-true (free (present n).locks (next n)) (becomes n) (next n) f)
          ∙ cond-false (wanted rs (becomes n)) (in_state asked (becomes n)) (becomes n) (spared n h f)

-- An accepted call
module _ (X : Table) (m : Message) (q : T (sound X)) (z : T (eqb (refusal X m) 0)) where
  pub good : Sound (change X m).issued (change X m).lasts (change X m).locks
  good = change-sound X m z (sound→ X q)

  pub is-accepted : serve X m ≡ accepted (answered X m) (settle (change X m))
  unfolding serve
  is-accepted = cond-true (eqb (refusal X m) 0) (accepted (answered X m) (settle (change X m))) (refused X (refusal X m)) z

  own : (e : Event) → Among e (serve X m).events → Among e (settle (change X m)).events
  own e h = subst (λ (o : Outcome). Among e o.events) is-accepted h

  pub serve-reasoned : Reasoned X m
  serve-reasoned = record {
    grants = λ e h k. is-granted (change X m) good e (own e h) k;
    exactly = λ n h. subst (λ (o : Outcome). waits (nth o.table n) ≡ any (obstacle (next (change X m) good n)) (present (change X m) good n).locks) (sym is-accepted) (goes_on (change X m) good n h.0 h.1);
    otherwise = λ n h u. subst (λ (o : Outcome). Among (grant_event (nth o.table n)) o.events) (sym is-accepted) (is-told (change X m) good n h.0 h.1 u);
    waiters = λ w h t.
        imp-e (waits w) (any (obstacle w) (serve X m).table.locks) (in_all (stuck (serve X m).table.locks) w (serve X m).table.locks h (serve-calm X m q z).waiters) t;
    revoked = λ e h k. is-revoked (change X m) good e (own e h) k;
    each = λ r h s t. subst (λ (o : Outcome). Among (revocation (in_state asked r)) o.events) (sym is-accepted) (each-revoked (change X m) good r h s t);
  }
