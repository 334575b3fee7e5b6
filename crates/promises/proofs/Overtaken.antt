-- Nobody is overtaken, on bytes. The rules keep the order (locks/Overtaken), and leave each waiting request an obstacle (locks/Waits). New here: a waiting
-- request that a call finds and leaves in the table has its turn in it, so it is granted there, or still waits and has an obstacle, with a smaller handle.
use Prim.Native.Nat.{ℕ, ◌+◌, ◌≤◌, ◌<◌}
use native.Mathlib.Omega.{arith}
use mathlib.Core.Bool.{Bool, not, ◌&&◌, ◌||◌, cond}
use mathlib.Core.List.{List, [], ◌∷◌, map}
use mathlib.Core.Logic.{◌⊎◌, inl, inr, ⊎_elim}
use mathlib.Core.Path.{◌≡◌, refl, sym, ap, subst, ◌∙◌}
use lib.Dec.{T, T_not, not_T, eqb, ltb, ltb→lt}
use lib.ListN.{length, length-map}
use Rattle.common.specs.Counters.{width}
use Rattle.common.specs.Tests.{all, any, pairs}
use Rattle.common.proofs.Bools.{and_l, and_r, and_i, or-e, imp-e, either, nand-r, cond-false}
use Rattle.common.proofs.Order.{eq→eqb}
use Rattle.modes.specs.Codes.{canceling}
use Rattle.table.specs.declared.Lock.{Lock}
use Rattle.table.specs.Table.{Table, handle_of, nth, waits, held, blank}
use Rattle.table.specs.Sound.{valid, agree, sound}
use Rattle.table.specs.Bytes.{table_of}
use Rattle.table.proofs.Facts.{Sound, sound→, valid→}
use Rattle.table.proofs.Zeros.{bytes-sound}
use Rattle.locks.specs.declared.Message.{Message}
use Rattle.locks.specs.declared.Message.TheVariants.{Request, Acknowledge, Downgrade, Release}
use Rattle.locks.specs.Conflicts.{conflicts, obstacle}
use Rattle.locks.specs.Settle.{Event, grant_event, in_state, grant, free, turns, presses, revoked, settle}
use Rattle.locks.specs.Refusals.{refusal, named, may_acknowledge, may_downgrade}
use Rattle.locks.specs.Serve.{Outcome, asking, downgraded, change, answered, accepted, refused, serve}
use Rattle.locks.specs.Session.{table_after, events, requests}
use Rattle.locks.specs.List.{request_of}
use Rattle.locks.proofs.Served.{serve-sound}
use Rattle.locks.proofs.Lists.{all-requests, list-events}
use Rattle.locks.proofs.Walk.{turns-sound}
use Rattle.locks.proofs.Waits.{stuck, serve-stuck}
use Rattle.locks.proofs.Milder.{Milder, revoked-milder, acknowledged-milder, downgraded-milder}
use Rattle.locks.proofs.Overtaken.{overtakes, in_order, serve-in-order}
use Rattle.locks.proofs.Places.{before-turn, settled-place, same-handle}
use Rattle.locks.proofs.Sessions.{session-stuck, session-in-order}
use Rattle.promises.specs.Among.{Among}
use Rattle.promises.specs.Reasoned.{turned, at_turn, Asks}
use Rattle.promises.specs.Overtaken.{NoneOvertaken}
use Rattle.promises.proofs.Members.{in_all, in_split, in_left, in_right, in-keep, in_map, any-in, in_pairs, pairs-both, in_place, place_in}
use Rattle.promises.proofs.Sessions.{outcome-is}
use Rattle.promises.proofs.Lists.{list-is}
use Rattle.promises.proofs.Settled.{good, is-accepted, serve-reasoned}
use Rattle.promises.proofs.Demand2.{demand2}

-- A table that keeps the order, with an obstacle for each waiting request
record InOrder (X : Table) : Type 0 where
  sound : T (sound X)
  order : T (in_order X.locks)
  stuck : T (all (stuck X.locks) X.locks)

serve-keeps-order : (X : Table) (m : Message) → InOrder X → InOrder (serve X m).table
serve-keeps-order X m K = record { sound = serve-sound X m K.sound; order = serve-in-order X m K.sound K.order; stuck = serve-stuck X m K.sound K.stuck }

module _ (X : Table) (K : InOrder X) where
  elders : (w r : Lock) → Among w X.locks → Among r X.locks → T (waits w) → T (obstacle w r) → handle_of r < handle_of w
  unfolding agree
  elders w r h k t o =
      go (in_pairs (λ a b. agree a b && not (overtakes b a)) w r X.locks h k (pairs-both agree (λ a b. not (overtakes b a)) X.locks (sound→ X K.sound).apart K.order))
    where
      c : T (conflicts w r)
      c = and_r (held r || ltb (handle_of r) (handle_of w)) (conflicts w r) o

      go : (w ≡ r) ⊎ (T (agree w r && not (overtakes r w)) ⊎ T (agree r w && not (overtakes w r))) → handle_of r < handle_of w
      go (inl e) = absurd (T_not (eqb (handle_of w) (handle_of r)) (let d : T (conflicts w r) = c in search (and_l)) (eq→eqb (handle_of w) (handle_of r) (ap handle_of e)))
      go (inr (inl p)) =
          ⊎_elim
          (λ (u : T (held r)). absurd (T_not (overtakes r w) (and_r (agree w r) (not (overtakes r w)) p) (and_i (held r) (presses r w) u (and_i (waits w) (conflicts w r) t c))))
          (λ (u : T (ltb (handle_of r) (handle_of w))). ltb→lt (handle_of r) (handle_of w) u)
          (or-e (held r) (ltb (handle_of r) (handle_of w)) (and_l (held r || ltb (handle_of r) (handle_of w)) (conflicts w r) o))
      go (inr (inr p)) = ltb→lt (handle_of r) (handle_of w) (search (and_l))

  -- what a waiting request waits for
  held_up : (w : Lock) → Among w X.locks → T (waits w) → (r : Lock) × Among r X.locks × T (obstacle w r) × (handle_of r < handle_of w)
  held_up w h t =
      let a = any-in (obstacle w) X.locks (imp-e (waits w) (any (obstacle w) X.locks) (in_all (stuck X.locks) w X.locks h K.stuck) t) in
      (a.0, a.1, a.2, elders w a.0 h a.1 t a.2)

  smallest : (w : Lock) → Among w X.locks → ((r : Lock) → Among r X.locks → handle_of w ≤ handle_of r) → T (held w)
  smallest w h f = ⊎_elim (λ (t : T (waits w)). let a = held_up w h t in let l = f a.0 a.1 in let k = a.3 in absurd (let z : ⊥ = omega arith in z)) (λ (t : T (held w)). t) (either (waits w))

-- No two records have one handle
unique : (rs : List Lock) → T (pairs agree rs) → (a b : Lock) → Among a rs → Among b rs → handle_of a ≡ handle_of b → a ≡ b
unfolding agree
unique rs p a b h k e = go (in_pairs agree a b rs h k p)
  where
    go : (a ≡ b) ⊎ (T (agree a b) ⊎ T (agree b a)) → a ≡ b
    go (inl q) = q
    go (inr (inl q)) = absurd (let l = ltb→lt (handle_of a) (handle_of b) (search (and_l)) in let z : ⊥ = omega arith in z)
    go (inr (inr q)) = absurd (let l = ltb→lt (handle_of b) (handle_of a) (search (and_l)) in let z : ⊥ = omega arith in z)

-- A message's own change leaves a waiting request as it is, or takes it out
module _ (X : Table) (S : Sound X.issued X.lasts X.locks) (w : Lock) (h : Among w X.locks) (t : T (waits w)) (x : Lock) (e : handle_of x ≡ handle_of w) where
  by-change : (g : Lock → Lock) → ((r : Lock) → Milder r (g r)) → Among x (map g X.locks) → x ≡ w
  by-change g milder j =
      let y = in_map g x X.locks j in
      let d : y.0 ≡ w = unique X.locks S.apart y.0 w y.1 h (sym (milder y.0).handle-is ∙ sym (ap handle_of y.2) ∙ e) in
      y.2 ∙ ap g d ∙ (milder w).left (subst T (sym (milder w).waits-is) t)

  unmoved : (m : Message) → Among x (change X m).locks → x ≡ w
  unfolding change
  unmoved (Request c s m f l k) j = go (in_split x X.locks (asking (X.issued + 1) c s m f l k ∷ []) j)
    where
      go : Among x X.locks ⊎ Among x (asking (X.issued + 1) c s m f l k ∷ []) → x ≡ w
      go (inl a) = unique X.locks S.apart x w a h e
      go (inr (inl d)) =
          let v = (valid→ X.issued X.lasts w (in_all (valid X.issued X.lasts) w X.locks h S.each)).handle-hi in
          let n : handle_of x ≡ X.issued + 1 = ap handle_of d in
          absurd (let z : ⊥ = omega arith in z)
      go (inr (inr z)) = absurd z
  unmoved (Acknowledge c k) j = by-change (λ r. cond (may_acknowledge c k r) (in_state canceling r) r) (acknowledged-milder c k) j
  unmoved (Downgrade c k) j = by-change (λ r. cond (may_downgrade c k r) (downgraded r) r) (downgraded-milder c k) j
  unmoved (Release c k) j = unique X.locks S.apart x w (in-keep (λ r. not (named c k r)) x X.locks j).0 h e

settled-long : (U : Table) → Sound U.issued U.lasts U.locks → length (settle U).table.locks ≡ length U.locks
unfolding settle
settled-long U S =
    let rs : List Lock = (turns (length U.locks) U).table.locks in
    length-map rs (revoked rs) ∙ (turns-sound U S (length U.locks) (omega arith)).long

-- A refused message leaves the table
left_alone : (X : Table) (m : Message) → T (not (eqb (refusal X m) 0)) → (serve X m).table ≡ X
unfolding serve
left_alone X m z = ap (λ (o : Outcome). o.table) (cond-false (eqb (refusal X m) 0) (accepted (answered X m) (settle (change X m))) (refused X (refusal X m)) z)

-- The grant of w is told among the events
abbrev Told : Lock → List Event → Type 0
Told w es = (x : Event) × Among x es × (x.kind ≡ 1) × (handle_of x.lock ≡ handle_of w)

-- A waiting request w that the message finds, and leaves as v: it stands as it was, or its grant is told
module _ (X : Table) (m : Message) (K : InOrder X) (w v : Lock) (h : Among w X.locks) (t : T (waits w)) (k : Among v (serve X m).table.locks) (e : handle_of v ≡ handle_of w) where
  by-refusal : T (not (eqb (refusal X m) 0)) → v ≡ w
  by-refusal z = unique X.locks (sound→ X K.sound).apart v w (subst (λ (Y : Table). Among v Y.locks) (left_alone X m z) k) h e

  -- Where the message is accepted, w has its turn at the place n
  module _ (z : T (eqb (refusal X m) 0)) where
    abbrev U : Table
    U = change X m

    S : Sound U.issued U.lasts U.locks
    S = good X m K.sound z

    is : serve X m ≡ accepted (answered X m) (settle U)
    is = is-accepted X m K.sound z

    module _ (n : ℕ) (inside : n < length U.locks) (stands : nth (settle U).table n ≡ v) where
      its-turn : at_turn X m n ≡ w
      its-turn =
          before-turn U n n (omega arith)
          ∙ unmoved X (sound→ X K.sound) w h t (nth U n) (sym (same-handle U S n inside) ∙ ap handle_of stands ∙ e) m (place_in blank U.locks n inside)

      asks : Asks X m n
      asks = (inside, subst (λ (x : Lock). T (waits x)) (sym its-turn) t)

      abbrev hindered : Bool
      hindered = any (obstacle (at_turn X m n)) (turned X m n).locks

      -- with an obstacle at its turn it stands as it was
      as_it_was : T hindered → v ≡ w
      as_it_was u =
          let rs : List Lock = (turns (length U.locks) U).table.locks in
          let g : Lock = grant (turned X m n).lasts (turned X m n).locks (at_turn X m n) in
          let b : T (not (free (turned X m n).locks (at_turn X m n))) = nand-r (waits (at_turn X m n)) (not hindered) (not_T (not hindered) (λ y. T_not hindered y u)) in
          let M = revoked-milder rs (at_turn X m n) in
          sym stands ∙ settled-place U S n inside ∙ ap (revoked rs) (cond-false (free (turned X m n).locks (at_turn X m n)) g (at_turn X m n) b)
          ∙ M.left (subst T (sym M.waits-is) asks.1) ∙ its-turn

      found_turn : (v ≡ w) ⊎ Told w (serve X m).events
      found_turn =
          ⊎_elim
          (λ (u : T hindered). inl (as_it_was u))
          (λ (u : T (not hindered)). inr (grant_event (nth (serve X m).table n), (serve-reasoned X m K.sound z).otherwise n asks u, refl, ap (λ (o : Outcome). handle_of (nth o.table n)) is ∙ ap handle_of stands ∙ e))
          (either hindered)

    by_turn : (v ≡ w) ⊎ Told w (serve X m).events
    by_turn =
        let p = in_place blank v (settle U).table.locks (subst (λ (o : Outcome). Among v o.table.locks) is k) in
        found_turn p.0 (subst (λ (j : ℕ). p.0 < j) (settled-long U S) p.1) p.2

  waits-or-told : (v ≡ w) ⊎ Told w (serve X m).events
  waits-or-told = ⊎_elim by_turn (λ (z : T (not (eqb (refusal X m) 0))). inl (by-refusal z)) (either (eqb (refusal X m) 0))

-- w still waits in the table, and no record of a smaller handle is in its way: that cannot be
stands-free : (X : Table) → InOrder X → (w : Lock) → Among w X.locks → T (waits w) → ((r : Lock) → Among r X.locks → handle_of r < handle_of w → T (not (obstacle w r))) → ⊥
stands-free X K w h t p = let a = held_up X K w h t in T_not (obstacle w a.0) (p a.0 a.1 a.3) a.2

told : (X : Table) (m : Message) → InOrder X → (w v : Lock) → Among w X.locks → T (waits w) → Among v (serve X m).table.locks → handle_of v ≡ handle_of w
    → ((r : Lock) → Among r (serve X m).table.locks → handle_of r < handle_of w → T (not (obstacle w r))) → Told w (serve X m).events
told X m K w v h t k e p =
    ⊎_elim
    (λ (d : v ≡ w). absurd (stands-free (serve X m).table (serve-keeps-order X m K) w (subst (λ (x : Lock). Among x (serve X m).table.locks) d k) t p))
    (λ (x : Told w (serve X m).events). x) (waits-or-told X m K w v h t k e)

-- A request takes no record out: each still stands there, under its handle
stays : (X : Table) (m : Message) → T (requests m) → T (sound X) → (w : Lock) → Among w X.locks → (v : Lock) × Among v (serve X m).table.locks × (handle_of v ≡ handle_of w)
unfolding change
stays X m r s w h = go (either (eqb (refusal X m) 0))
  where
    kept : (q : Message) → T (requests q) → Among w (change X q).locks
    kept (Request c a k f l d) i = in_left w X.locks (asking (X.issued + 1) c a k f l d ∷ []) h
    kept (Acknowledge c a) i = absurd i
    kept (Downgrade c a) i = absurd i
    kept (Release c a) i = absurd i

    go : T (eqb (refusal X m) 0) ⊎ T (not (eqb (refusal X m) 0)) → (v : Lock) × Among v (serve X m).table.locks × (handle_of v ≡ handle_of w)
    go (inl z) =
        let U : Table = change X m in
        let S = good X m s z in
        let q = in_place blank w U.locks (kept m r) in
        let v : Lock = nth (settle U).table q.0 in (
          v,
          subst (λ (o : Outcome). Among v o.table.locks) (sym (is-accepted X m s z)) (place_in blank (settle U).table.locks q.0 (subst (λ (j : ℕ). q.0 < j) (sym (settled-long U S)) q.1)),
          same-handle U S q.0 q.1 ∙ ap handle_of q.2,
        )
    go (inr z) = (w, subst (λ (Y : Table). Among w Y.locks) (sym (left_alone X m z)) h, refl)

-- The same of requests one after the other: an item that leaves w as it was leaves it to the next
told-all : (ms : List Message) → T (all requests ms) → (X : Table) → InOrder X → (w v : Lock) → Among w X.locks → T (waits w) → Among v (table_after X ms).locks → handle_of v ≡ handle_of w
    → ((r : Lock) → Among r (table_after X ms).locks → handle_of r < handle_of w → T (not (obstacle w r))) → Told w (events X ms)
told-all [] i X K w v h t k e p = absurd (stands-free X K w h t p)
told-all (m ∷ ms) i X K w v h t k e p =
    let Y : Table = (serve X m).table in
    let y = stays X m (and_l (requests m) (all requests ms) i) K.sound w h in
    ⊎_elim
    (λ (d : y.0 ≡ w).
    let x = told-all ms (and_r (requests m) (all requests ms) i) Y (serve-keeps-order X m K) w v (subst (λ (z : Lock). Among z Y.locks) d y.1) t k e p in
    (x.0, in_right x.0 (serve X m).events (events Y ms) x.1, x.2, x.3))
    (λ (x : Told w (serve X m).events). (x.0, in_left x.0 (serve X m).events (events Y ms) x.1, x.2, x.3))
    (waits-or-told X m K w y.0 h t y.1 y.2)

pub none-overtaken : NoneOvertaken
none-overtaken ms es t S =
    let F = demand2.follow ms es t S in
    let X : Table = table_of width t in
    let K : InOrder X =
    record {
      sound = bytes-sound t F.sound;
      order = subst (λ (Y : Table). T (in_order Y.locks)) (sym F.table) (session-in-order ms);
      stuck = subst (λ (Y : Table). T (all (stuck Y.locks) Y.locks)) (sym F.table) (session-stuck ms);
    } in
    record {
      obstacles = elders X K;
      first = smallest X K;
      granted = λ m b a u c l L w v h y k e p.
          let C = demand2.anywhere t F.sound m b a u c l L in
          let T' = told X m K w v h y (subst (λ (Y : Table). Among v Y.locks) C.table k) e (λ r j o. p r (subst (λ (Y : Table). Among r Y.locks) (sym C.table) j) o) in
          (T'.0, subst (λ (o : Outcome). Among T'.0 o.events) (sym (outcome-is m t b F.sound l)) T'.1, T'.2, T'.3);
      granted-list = λ xs b a ys u c i l L w v h y k e p.
          let C = demand2.lists-anywhere t F.sound xs b a ys u c i l L in
          let T' = told-all (map request_of xs) (all-requests xs) X K w v h y (subst (λ (Y : Table). Among v Y.locks) C.table k) e (λ r j o. p r (subst (λ (Y : Table). Among r Y.locks) (sym C.table) j) o) in
          (T'.0, subst (λ (l : List Event). Among T'.0 l) (sym (ap (λ (o : Outcome). o.events) (list-is xs t b F.sound i l) ∙ list-events X xs)) T'.1, T'.2, T'.3);
    }
