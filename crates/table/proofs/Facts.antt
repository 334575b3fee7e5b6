-- What the tests of a sound table say, as facts with names, and back.
use Prim.Native.Nat.{ℕ, ◌≤◌, ◌<◌}
use native.Mathlib.Omega.{arith}
use mathlib.Core.Bool.{Bool, not, ◌&&◌, ◌||◌, cond}
use mathlib.Core.List.{List}
use mathlib.Core.Logic.{◌⊎◌, inl, inr, ⊎_elim}
use mathlib.Core.Path.{◌≡◌, sym}
use lib.Dec.{T, T_not, not_T, eqb, leb, leb→le, le→leb, ltb→lt, lt→ltb, eqb→eq}
use lib.ListN.{length, get_or}
use Rattle.common.specs.Counters.{width, highest}
use Rattle.common.specs.Ranges.{within, overlap, eof}
use Rattle.common.specs.Tests.{all, pairs, implies}
use Rattle.common.proofs.Bools.{and_l, and_r, and_i, or-e, or_l, or_r, imp-i, imp-e, choice-l, choice-r, choice-i}
use Rattle.common.proofs.Order.{eq→eqb}
use Rattle.table.specs.declared.Lock.{Lock}
use Rattle.table.specs.Table.{Table, handle_of, number_of, waits, held, writes, max_client, max_stripe, stripe_count, max_records}
use Rattle.table.specs.Sound.{valid, yields, together, differ, share, agree, room, stripes, sound}

-- One record
pub record Valid (issued : ℕ) (lasts : List ℕ) (r : Lock) : Type 0 where
  pub handle-lo : 1 ≤ handle_of r
  pub handle-hi : handle_of r ≤ issued
  pub client-hi : r.client ≤ max_client
  pub stripe-hi : r.stripe ≤ max_stripe
  pub mode-lo : 1 ≤ r.mode
  pub mode-hi : r.mode ≤ 4
  pub state-hi : r.state ≤ 3
  pub ordered : r.first ≤ r.last
  pub ends : r.last ≤ eof
  pub mark_of : T (waits r) → r.mark ≤ 1
  pub mark-no : T (held r) → r.mark ≡ 0
  pub number-of : T (held r && writes r) → (1 ≤ number_of r) × (number_of r ≤ get_or lasts r.stripe 0)
  pub number-no : T (not (held r && writes r)) → number_of r ≡ 0

pub valid→ : (issued : ℕ) (lasts : List ℕ) (r : Lock) → T (valid issued lasts r) → Valid issued lasts r
unfolding valid
valid→ issued lasts r t = record {
  handle-lo = search (and_l, and_r, leb→le) depth 12;
  handle-hi = search (and_l, and_r, leb→le) depth 12;
  client-hi = search (and_l, and_r, leb→le) depth 12;
  stripe-hi = search (and_l, and_r, leb→le) depth 12;
  mode-lo = search (and_l, and_r, leb→le) depth 12;
  mode-hi = search (and_l, and_r, leb→le) depth 12;
  state-hi = search (and_l, and_r, leb→le) depth 12;
  ordered = search (and_l, and_r, leb→le) depth 12;
  ends = search (and_l, and_r, leb→le) depth 12;
  mark_of = λ h. leb→le r.mark 1 (choice-l (waits r) (leb r.mark 1) (eqb r.mark 0) (search (and_l, and_r) depth 4) h);
  mark-no = λ h. eqb→eq r.mark 0 (choice-r (waits r) (leb r.mark 1) (eqb r.mark 0) (search (and_l, and_r) depth 4) h);
  number-of = λ h.
      let u : T (within 1 (number_of r) (get_or lasts r.stripe 0)) =
      choice-l (held r && writes r) (within 1 (number_of r) (get_or lasts r.stripe 0)) (eqb (number_of r) 0) (search (and_r)) h in
      (search (and_l, leb→le), search (and_r, leb→le));
  number-no = λ h.
      eqb→eq (number_of r) 0 (choice-r (held r && writes r) (within 1 (number_of r) (get_or lasts r.stripe 0)) (eqb (number_of r) 0) (search (and_r)) h);
}

pub →valid : (issued : ℕ) (lasts : List ℕ) (r : Lock) → Valid issued lasts r → T (valid issued lasts r)
unfolding valid
→valid issued lasts r v =
    let u : T (cond (held r && writes r) (within 1 (number_of r) (get_or lasts r.stripe 0)) (eqb (number_of r) 0)) =
    choice-i (held r && writes r) (within 1 (number_of r) (get_or lasts r.stripe 0)) (eqb (number_of r) 0)
    (λ h. let n = v.number-of h in search (and_i, le→leb)) (λ h. eq→eqb (number_of r) 0 (v.number-no h)) in
    let m : T (cond (waits r) (leb r.mark 1) (eqb r.mark 0)) =
    choice-i (waits r) (leb r.mark 1) (eqb r.mark 0) (λ h. le→leb r.mark 1 (v.mark_of h)) (λ h. eq→eqb r.mark 0 (v.mark-no h)) in
    search (and_i, le→leb) depth 12

-- a record stays valid where more handles are issued or numbers taken
pub still-valid : {issued issued' : ℕ} {lasts lasts' : List ℕ} (r : Lock) → issued ≤ issued' → get_or lasts r.stripe 0 ≤ get_or lasts' r.stripe 0 → Valid issued lasts r → Valid issued' lasts' r
still-valid r h k v =
    record {
      handle-lo = v.handle-lo;
      handle-hi = omega arith;
      client-hi = v.client-hi;
      stripe-hi = v.stripe-hi;
      mode-lo = v.mode-lo;
      mode-hi = v.mode-hi;
      state-hi = v.state-hi;
      ordered = v.ordered;
      ends = v.ends;
      mark_of = v.mark_of;
      mark-no = v.mark-no;
      number-of = λ t. let n = v.number-of t in (n.0, omega arith);
      number-no = v.number-no;
    }

-- Two records
pub record Yields (a b : Lock) : Type 0 where
  pub less : number_of a < number_of b
  pub nbw : a.mode ≡ 2
  pub canceling : a.state ≡ 3
  pub lo : 2 ≤ b.mode
  pub hi : b.mode ≤ 3

abbrev pub Clear : Lock → Lock → Type 0
Clear a b = ((a.mode ≡ 1) × (b.mode ≡ 1)) ⊎ (Yields a b ⊎ Yields b a)

pub record Friends (a b : Lock) : Type 0 where
  pub differ : T (held a) → T (held b) → a.stripe ≡ b.stripe → T (writes a) → T (writes b) → number_of a ≡ number_of b → ⊥
  pub clear : T (held a) → T (held b) → a.stripe ≡ b.stripe → a.first ≤ b.last → b.first ≤ a.last → Clear a b

yields→ : (a b : Lock) → T (yields a b) → Yields a b
yields→ a b t = record {
  less = search (and_l, and_r, ltb→lt);
  nbw = search (and_l, and_r, eqb→eq);
  canceling = search (and_l, and_r, eqb→eq);
  lo = search (and_l, and_r, leb→le);
  hi = search (and_l, and_r, leb→le);
}

→yields : (a b : Lock) → Yields a b → T (yields a b)
→yields a b y = search (and_i, eq→eqb, le→leb, lt→ltb) depth 8

abbrev apart : Lock → Lock → Bool
apart a b = not (eqb (number_of a) (number_of b))

abbrev clear : Lock → Lock → Bool
clear a b = (eqb a.mode 1 && eqb b.mode 1) || (yields a b || yields b a)

clear→ : (a b : Lock) → T (clear a b) → Clear a b
clear→ a b t =
    ⊎_elim
    (λ (u : T (eqb a.mode 1 && eqb b.mode 1)). inl (search (and_l, and_r, eqb→eq)))
    (λ (u : T (yields a b || yields b a)). inr (⊎_elim (λ y. inl (yields→ a b y)) (λ y. inr (yields→ b a y)) (or-e (yields a b) (yields b a) u)))
    (or-e (eqb a.mode 1 && eqb b.mode 1) (yields a b || yields b a) t)

→clear : (a b : Lock) → Clear a b → T (clear a b)
→clear a b (inl p) = or_l (eqb a.mode 1 && eqb b.mode 1) (yields a b || yields b a) (search (and_i, eq→eqb))
→clear a b (inr (inl y)) = or_r (eqb a.mode 1 && eqb b.mode 1) (yields a b || yields b a) (or_l (yields a b) (yields b a) (→yields a b y))
→clear a b (inr (inr y)) = or_r (eqb a.mode 1 && eqb b.mode 1) (yields a b || yields b a) (or_r (yields a b) (yields b a) (→yields b a y))

pub friends→ : (a b : Lock) → T (differ a b && share a b) → Friends a b
friends→ a b t = record {
  differ = λ h k e u v q.
      T_not (eqb (number_of a) (number_of b))
      (imp-e (together a b && (writes a && writes b)) (apart a b) (search (and_l)) (search (and_i, eq→eqb)))
      (eq→eqb (number_of a) (number_of b) q);
  clear = λ h k e p q.
      clear→ a b
      (imp-e (together a b && overlap a.first a.last b.first b.last) (clear a b) (search (and_r)) (search (and_i, eq→eqb, le→leb)));
}

pub →friends : (a b : Lock) → Friends a b → T (differ a b && share a b)
→friends a b f =
    and_i (implies (together a b && (writes a && writes b)) (apart a b))
    (implies (together a b && overlap a.first a.last b.first b.last) (clear a b))
    (imp-i (together a b && (writes a && writes b)) (apart a b)
    (λ t. not_T (eqb (number_of a) (number_of b))
    (λ q. f.differ (search (and_l, and_r)) (search (and_l, and_r)) (search (and_l, and_r, eqb→eq)) (search (and_l, and_r)) (search (and_l, and_r)) (eqb→eq (number_of a) (number_of b) q))))
    (imp-i (together a b && overlap a.first a.last b.first b.last) (clear a b)
    (λ t. →clear a b (f.clear (search (and_l, and_r)) (search (and_l, and_r)) (search (and_l, and_r, eqb→eq)) (search (and_l, and_r, leb→le)) (search (and_l, and_r, leb→le)))))

pub friends-sym : (a b : Lock) → Friends a b → Friends b a
friends-sym a b f = record {
  differ = λ h k e u v q. f.differ k h (sym e) v u (sym q);
  clear = λ h k e p q. turned (f.clear k h (sym e) q p);
}
  where
    turned : Clear a b → Clear b a
    turned (inl p) = inl (p.1, p.0)
    turned (inr (inl y)) = inr (inr y)
    turned (inr (inr y)) = inr (inl y)

-- A table
pub record Sound (issued : ℕ) (lasts : List ℕ) (rs : List Lock) : Type 0 where
  pub few : issued ≤ highest width
  pub sixteen : length lasts ≡ stripe_count
  pub fits : length rs ≤ max_records
  pub each : T (all (valid issued lasts) rs)
  pub apart : T (pairs agree rs)
  pub rooms : T (all (room issued lasts rs) stripes)

pub sound→ : (t : Table) → T (sound t) → Sound t.issued t.lasts t.locks
unfolding sound
sound→ t s = record {
  few = search (and_l, and_r, leb→le) depth 8;
  sixteen = search (and_l, and_r, eqb→eq) depth 8;
  fits = search (and_l, and_r, leb→le) depth 8;
  each = search (and_l, and_r) depth 8;
  apart = search (and_l, and_r) depth 8;
  rooms = search (and_l, and_r) depth 8;
}

pub →sound : (t : Table) → Sound t.issued t.lasts t.locks → T (sound t)
unfolding sound
→sound t s = search (and_i, le→leb, eq→eqb) depth 8
