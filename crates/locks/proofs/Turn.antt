-- A grant keeps the table sound. The waiting record w stands between the records before and after it.
use Prim.Native.Nat.{ℕ, ◌+◌, ◌≤◌, ◌<◌}
use native.Mathlib.Omega.{arith}
use native.Mathlib.Nat.{le_refl, le_trans}
use mathlib.Core.Bool.{Bool, true, false, not, ◌&&◌, ◌||◌, cond}
use mathlib.Core.List.{List, ◌∷◌, ◌++◌}
use mathlib.Core.Logic.{◌⊎◌, inl, inr}
use mathlib.Core.Path.{◌≡◌, refl, ap, ◌∙◌}
use lib.Dec.{T, T_not, not_T, ltb, eqb, leb→le, le→leb, ltb→lt, lt→ltb, nltb→le, eqb→eq, lit≤}
use lib.ListN.{length, get_or}
use Rattle.common.specs.Ranges.{eof}
use Rattle.common.specs.Tests.{all, any, count, implies}
use Rattle.common.proofs.Bools.{and_l, and_r, and_i, or_l, or_r, imp-i, imp-e, by_cond, cond-true, either}
use Rattle.common.proofs.Listed.{all-imp, all_both, all-imp2, none, all-out, all-at, all-put, all_left, all_right, pairs-out, pairs-before, pairs-after, pairs-put, count-put, length-put}
use Rattle.common.proofs.Order.{eq→eqb}
use Rattle.modes.specs.Codes.{granted, canceling}
use Rattle.modes.specs.Conflict.{conflict}
use Rattle.modes.proofs.Rule.{harmless, Harmless}
use Rattle.table.specs.declared.Lock.{Lock}
use Rattle.table.specs.Table.{handle_of, waits, held, writes, marked}
use Rattle.table.specs.Sound.{valid, differ, share, agree, room, stripes, wants}
use Rattle.table.proofs.Facts.{Valid, valid→, →valid, still-valid, Clear, Friends, →friends, friends-sym, Sound}
use Rattle.locks.specs.Conflicts.{other, against, conflicts, obstacle, hurries}
use Rattle.locks.specs.Settle.{given, next_number, lasts_after, widest, last_given, grant, free}
use Rattle.locks.proofs.Widening.{clear, at_most, at_least}
use Rattle.locks.proofs.Numbering.{next-is, lasts-length, lasts-at, lasts-own}

-- What hinders w: a held lock that conflicts with it, and an earlier record that does
by-holder : (w r : Lock) → T (held r) → T (conflicts w r) → T (obstacle w r)
by-holder w r h c = search (and_i, or_l)

pub by-elder : (w r : Lock) → T (ltb (handle_of r) (handle_of w)) → T (conflicts w r) → T (obstacle w r)
by-elder w r h c = and_i (held r || ltb (handle_of r) (handle_of w)) (conflicts w r) (or_r (held r) (ltb (handle_of r) (handle_of w)) h) c

pub is_held : (s : ℕ) → 1 ≤ s → T (not (eqb s 0))
is_held s h = not_T (eqb s 0) (λ z. let e = eqb→eq s 0 z in omega arith)

is-write : (r : Lock) → 2 ≤ r.mode → T (writes r)
is-write r h = not_T (eqb r.mode 1) (λ z. let e = eqb→eq r.mode 1 z in omega arith)

not_equal : (a b : ℕ) → (a < b) ⊎ (b < a) → T (not (eqb a b))
not_equal a b (inl h) = not_T (eqb a b) (λ e. let q = eqb→eq a b e in omega arith)
not_equal a b (inr h) = not_T (eqb a b) (λ e. let q = eqb→eq a b e in omega arith)

-- A record that stays
stays : (issued : ℕ) (lasts : List ℕ) (w r : Lock) → w.stripe < length lasts → Valid issued lasts r → Valid issued (lasts_after lasts w) r
stays issued lasts w r i v = still-valid r (le_refl issued) (let e = lasts-at lasts w i r.stripe in omega arith) v

module _ (issued : ℕ) (lasts : List ℕ) (w : Lock) (s l : ℕ) where
  abbrev made : Lock
  made = given w s (next_number lasts w) l

  made-valid : w.stripe < length lasts → Valid issued lasts w → 1 ≤ s → s ≤ 3 → w.first ≤ l → l ≤ eof → Valid issued (lasts_after lasts w) made
  made-valid e v h k i j = record {
    handle-lo = v.handle-lo;
    handle-hi = v.handle-hi;
    client-hi = v.client-hi;
    stripe-hi = v.stripe-hi;
    mode-lo = v.mode-lo;
    mode-hi = v.mode-hi;
    state-hi = k;
    ordered = i;
    ends = j;
    mark_of = λ t. lit≤ tt;
    mark-no = λ t. refl;
    number-of = λ t.
        let u : T (writes w) = search (and_r) in
        let n = next-is lasts w u in
        let m = lasts-own lasts w e u in
        (omega arith, omega arith);
    number-no = λ t.
        by_cond (λ (n : ℕ). n ≡ 0) (writes w) (get_or lasts w.stripe 0 + 1) 0
        (λ u. absurd (T_not (held made && writes made) t (and_i (held made) (writes made) (is_held s h) u))) (λ u. refl);
  }

  made-friends : (r : Lock) → T (other w r) → Valid issued lasts w → Valid issued lasts r → (T (held r) → T (not (against w l r))) → Friends made r
  made-friends r o v u c = record {
    differ = λ h k e p q d.
        let n = next-is lasts w p in
        let m = u.number-of (and_i (held r) (writes r) k q) in
        let z : get_or lasts w.stripe 0 ≡ get_or lasts r.stripe 0 = ap (λ (i : ℕ). get_or lasts i 0) e in
        omega arith;
    clear = λ h k e p q. cases k e (harmless w.mode r.mode r.state v.mode-lo v.mode-hi u.mode-lo u.mode-hi
        (not_T (conflict w.mode r.mode r.state) (λ z. T_not (against w l r) (c k) (search (and_i, eq→eqb, le→leb)))));
  }
    where
      cases : T (held r) → w.stripe ≡ r.stripe → Harmless w.mode r.mode r.state → Clear made r
      cases k e (inl t) = inl t
      cases k e (inr t) =
          let n = next-is lasts w (is-write w t.2) in
          let m = u.number-of (and_i (held r) (writes r) k (is-write r (omega arith))) in
          let z : get_or lasts w.stripe 0 ≡ get_or lasts r.stripe 0 = ap (λ (i : ℕ). get_or lasts i 0) e in
          inr (inr (record { less = omega arith; nbw = t.0; canceling = t.1; lo = t.2; hi = t.3 }))

-- w waits to be granted among the others, before and after, as it becomes in state s with the last byte l
abbrev Free : Lock → ℕ → Lock → Bool
Free w l r = implies (held r) (not (against w l r))

one : (a b c : Bool) → T a → cond {A = ℕ} ((a && b) && c) 1 0 ≡ cond (b && c) 1 0
one true b c t = refl
one false b c t = absurd t

none_of : (a b c : Bool) → T (not a) → cond {A = ℕ} ((a && b) && c) 1 0 ≡ 0
none_of true b c t = absurd t
none_of false b c t = refl

module _ (issued : ℕ) (lasts : List ℕ) (before : List Lock) (w : Lock) (after : List Lock) (s l : ℕ)
    (S : Sound issued lasts (before ++ (w ∷ after))) (wt : T (waits w)) (s-lo : 1 ≤ s) (s-hi : s ≤ 3) (l-lo : w.first ≤ l) (l-hi : l ≤ eof)
    (free : T (all (Free w l) (before ++ after))) where
  abbrev new : Lock
  new = made issued lasts w s l

  w-valid : Valid issued lasts w
  w-valid = valid→ issued lasts w (all-at (valid issued lasts) before w after S.each)

  inside : w.stripe < length lasts
  inside = let h = w-valid.stripe-hi in let e = S.sixteen in omega arith

  others : T (all (valid issued lasts) (before ++ after))
  others = all-out (valid issued lasts) before w after S.each

  friendly : (r : Lock) → T (other w r) → T (valid issued lasts r) → T (Free w l r) → Friends new r
  friendly r o t f = made-friends issued lasts w s l r o w-valid (valid→ issued lasts r t) (imp-e (held r) (not (against w l r)) f)

  agree_left : (r : Lock) → T (agree r w) → T (valid issued lasts r && Free w l r) → T (agree r new)
  unfolding agree
  agree_left r t u =
      and_i (ltb (handle_of r) (handle_of w)) (differ r new && share r new) (search (and_l))
      (→friends r new (friends-sym new r (friendly r (not_equal (handle_of w) (handle_of r) (inr (ltb→lt (handle_of r) (handle_of w) (search (and_l))))) (search (and_l)) (search (and_r)))))

  agree_right : (r : Lock) → T (agree w r) → T (valid issued lasts r && Free w l r) → T (agree new r)
  unfolding agree
  agree_right r t u =
      and_i (ltb (handle_of w) (handle_of r)) (differ new r && share new r) (search (and_l))
      (→friends new r (friendly r (not_equal (handle_of w) (handle_of r) (inl (ltb→lt (handle_of w) (handle_of r) (search (and_l))))) (search (and_l)) (search (and_r))))

  room-kept : (i : ℕ) → T (room issued lasts (before ++ (w ∷ after)) i) → T (room issued (lasts_after lasts w) (before ++ (new ∷ after)) i)
  unfolding room
  room-kept i t =
      let h : get_or lasts i 0 + count (wants i) (before ++ (w ∷ after)) ≤ issued = leb→le (get_or lasts i 0 + count (wants i) (before ++ (w ∷ after))) issued t in
      le→leb (get_or (lasts_after lasts w) i 0 + count (wants i) (before ++ (new ∷ after))) issued
      (omega (
        arith,
        count-put (wants i) before w after,
        count-put (wants i) before new after,
        lasts-at lasts w inside i,
        one (waits w) (writes w) (eqb w.stripe i) wt,
        none_of (waits new) (writes new) (eqb new.stripe i) (is_held s s-lo),
      ))

  pub placed : Sound issued (lasts_after lasts w) (before ++ (new ∷ after))
  placed = record {
    few = S.few;
    sixteen = lasts-length lasts w ∙ S.sixteen;
    fits = let a = length-put before w after in let b = length-put before new after in let c = S.fits in omega arith;
    each =
        all-put (valid issued (lasts_after lasts w)) before new after
        (→valid issued (lasts_after lasts w) new (made-valid issued lasts w s l inside w-valid s-lo s-hi l-lo l-hi))
        (all-imp (valid issued lasts) (valid issued (lasts_after lasts w)) (λ r t. →valid issued (lasts_after lasts w) r (stays issued lasts w r inside (valid→ issued lasts r t))) (before ++ after) others);
    apart =
        pairs-put agree before new after (pairs-out agree before w after S.apart)
        (all-imp2 (λ r. agree r w) (λ r. valid issued lasts r && Free w l r) (λ r. agree r new) agree_left before
        (pairs-before agree before w after S.apart) (all_left (λ r. valid issued lasts r && Free w l r) before after both))
        (all-imp2 (agree w) (λ r. valid issued lasts r && Free w l r) (agree new) agree_right after
        (pairs-after agree before w after S.apart) (all_right (λ r. valid issued lasts r && Free w l r) before after both));
    rooms = all-imp (room issued lasts (before ++ (w ∷ after))) (room issued (lasts_after lasts w) (before ++ (new ∷ after))) room-kept stripes S.rooms;
  }
    where
      both : T (all (λ r. valid issued lasts r && Free w l r) (before ++ after))
      both = all_both (valid issued lasts) (Free w l) (before ++ after) others free

-- A marked request is given what it asked
pub given-exact : (rs : List Lock) (w : Lock) → T (marked w) → last_given rs w ≡ w.last
given-exact rs w k = cond-true (marked w) w.last (widest w eof rs) k

-- The turn of w: what its tests say of each record
held-free : (w r : Lock) → T (not (obstacle w r)) → T (Free w w.last r)
held-free w r o = imp-i (held r) (not (conflicts w r)) (λ h. not_T (conflicts w r) (λ c. T_not (obstacle w r) o (by-holder w r h c)))

no-conflict : (w r : Lock) → T (not (obstacle w r)) → T (not (hurries w r)) → T (not (conflicts w r))
no-conflict w r o u = not_T (conflicts w r) (λ c. go c (either (waits r)) (either (ltb (handle_of r) (handle_of w))))
  where
    go : T (conflicts w r) → T (waits r) ⊎ T (held r) → T (ltb (handle_of r) (handle_of w)) ⊎ T (not (ltb (handle_of r) (handle_of w))) → ⊥
    go c (inr h) k = T_not (obstacle w r) o (by-holder w r h c)
    go c (inl h) (inl k) = T_not (obstacle w r) o (by-elder w r k c)
    go c (inl h) (inr k) =
        T_not (hurries w r) u
        (and_i (waits r && ltb (handle_of w) (handle_of r)) (conflicts w r)
        (and_i (waits r) (ltb (handle_of w) (handle_of r)) h
        (lt→ltb (handle_of w) (handle_of r) (let a = nltb→le (handle_of r) (handle_of w) k in let b = ne in omega arith))) c)
      where
        ne : handle_of w ≡ handle_of r → ⊥
        ne e = T_not (eqb (handle_of w) (handle_of r)) (search (and_l)) (eq→eqb (handle_of w) (handle_of r) e)

module _ (issued : ℕ) (lasts : List ℕ) (before : List Lock) (w : Lock) (after : List Lock) where
  abbrev table : List Lock
  table = before ++ (w ∷ after)

  -- when w is granted: it waits, no record hinders it, and where none hurries it none conflicts
  module _ (S : Sound issued lasts table) (t : T (free table w)) where
    pub w-waits : T (waits w)
    w-waits = search (and_l)

    pub w-valid-here : Valid issued lasts w
    w-valid-here = valid→ issued lasts w (all-at (valid issued lasts) before w after S.each)

    pub unhindered : T (all (λ r. not (obstacle w r)) table)
    unhindered = none (obstacle w) table (and_r (waits w) (not (any (obstacle w) table)) t)

    pub quiet : T (not (any (hurries w) table)) → T (all (λ r. not (conflicts w r)) table)
    quiet u =
        all-imp2 (λ r. not (obstacle w r)) (λ r. not (hurries w r)) (λ r. not (conflicts w r)) (no-conflict w) table unhindered (none (hurries w) table u)

    -- the last byte that is given lies between the one asked and the greatest, so the range conflicts with no other record
    given-between : T (not (any (hurries w) table)) → (w.last ≤ last_given table w) × (last_given table w ≤ widest w eof table)
    given-between u =
        let h = at_least w eof table w-valid-here.ends (quiet u) in
        by_cond (λ (l : ℕ). (w.last ≤ l) × (l ≤ widest w eof table)) (marked w) w.last (widest w eof table) (λ _. (le_refl w.last, h)) (λ _. (h, le_refl (widest w eof table)))

    pub widened-clear : T (not (any (hurries w) table)) → T (all (λ r. not (against w (last_given table w) r)) table)
    widened-clear u = clear w eof table (last_given table w) (given-between u).1 (quiet u)

    pub grant-sound : Sound issued (lasts_after lasts w) (before ++ (grant lasts table w ∷ after))
    unfolding grant
    grant-sound =
        by_cond (λ (g : Lock). Sound issued (lasts_after lasts w) (before ++ (g ∷ after))) (any (hurries w) table)
        (given w canceling (next_number lasts w) w.last) (given w granted (next_number lasts w) (last_given table w))
        (λ u. placed issued lasts before w after 3 w.last S w-waits (lit≤ tt) (lit≤ tt) w-valid-here.ordered w-valid-here.ends
        (all-out (Free w w.last) before w after (all-imp (λ r. not (obstacle w r)) (Free w w.last) (held-free w) table unhindered)))
        (λ u. placed issued lasts before w after 1 (last_given table w) S w-waits (lit≤ tt) (lit≤ tt)
        (le_trans w-valid-here.ordered (given-between u).0) (le_trans (given-between u).1 (at_most w eof table))
        (all-out (Free w (last_given table w)) before w after
        (all-imp (λ r. not (against w (last_given table w) r)) (Free w (last_given table w)) (λ r c. imp-i (held r) (not (against w (last_given table w) r)) (λ h. c)) table (widened-clear u))))
