-- Changes that leave a record's handle, number, range and place: a revocation, an acknowledgement, a downgrade. They keep a table sound.
use Prim.Native.Nat.{ℕ, ◌≤◌, ◌<◌}
use native.Mathlib.Omega.{arith}
use native.Mathlib.Nat.{le_refl}
use mathlib.Core.Bool.{Bool, not, ◌&&◌, cond}
use mathlib.Core.List.{List, map}
use mathlib.Core.Logic.{inl, inr}
use mathlib.Core.Path.{◌≡◌, refl, sym, ap, ap₂, subst, ◌∙◌}
use lib.Dec.{T, ltb, eqb, leb→le, ltb→lt, lt→ltb, eqb→eq}
use lib.ListN.{get_or, length-map}
use borrow.Author.Tests.{ne_eqb}
use Rattle.common.proofs.Bools.{and_l, and_r, and_i, by_cond}
use Rattle.common.proofs.Listed.{all_map, pairs-map, count_map, all-imp}
use Rattle.modes.specs.Codes.{granted, asked, canceling, pr, nbw, bw}
use Rattle.table.specs.declared.Lock.{Lock}
use Rattle.table.specs.Table.{handle_of, number_of, remade, waits, held, writes}
use Rattle.table.specs.Sound.{valid, differ, share, agree, room, stripes, wants}
use Rattle.table.proofs.Facts.{Valid, valid→, →valid, Yields, Clear, Friends, friends→, →friends, Sound}
use Rattle.locks.specs.Settle.{in_state, wanted, revoked}
use Rattle.locks.specs.Refusals.{may_acknowledge, may_downgrade}
use Rattle.locks.specs.Serve.{downgraded}

-- what such a change leaves of a record: all but its mode and state
record Same (r r' : Lock) : Type 0 where
  handle-is : handle_of r' ≡ handle_of r
  client-is : r'.client ≡ r.client
  stripe-is : r'.stripe ≡ r.stripe
  number_is : number_of r' ≡ number_of r
  first-is : r'.first ≡ r.first
  last-is : r'.last ≡ r.last

same_refl : (r : Lock) → Same r r
same_refl r = record { handle-is = refl; client-is = refl; stripe-is = refl; number_is = refl; first-is = refl; last-is = refl }

same : (m s : ℕ) (r : Lock) → Same r (remade r m s (number_of r) r.last)
same m s r = record { handle-is = refl; client-is = refl; stripe-is = refl; number_is = refl; first-is = refl; last-is = refl }

-- r' is r after such a change
pub record Calm (r r' : Lock) : Type 0 where
  same-is : Same r r'
  mark-hi : r'.mark ≤ r.mark
  pub waits-is : waits r' ≡ waits r
  pub writes-is : writes r' ≡ writes r
  pub state-hi : r.state ≤ 3 → r'.state ≤ 3
  pub mode-in : (1 ≤ r.mode) × (r.mode ≤ 4) → (1 ≤ r'.mode) × (r'.mode ≤ 4)
  pub mode-mid : (2 ≤ r.mode) × (r.mode ≤ 3) → (2 ≤ r'.mode) × (r'.mode ≤ 3)
  pub stays-pr : r.mode ≡ 1 → r'.mode ≡ 1
  pub stays-nbw : (r.mode ≡ 2) × (r.state ≡ 3) → (r'.mode ≡ 2) × (r'.state ≡ 3)

calm-refl : (r : Lock) → Calm r r
calm-refl r =
    record {
      same-is = same_refl r;
      mark-hi = le_refl r.mark;
      waits-is = refl;
      writes-is = refl;
      state-hi = λ h. h;
      mode-in = λ h. h;
      mode-mid = λ h. h;
      stays-pr = λ h. h;
      stays-nbw = λ h. h;
    }

still-held : (r r' : Lock) → Calm r r' → T (held r') → T (held r)
still-held r r' c t = subst (λ (b : Bool). T (not b)) c.waits-is t

still-writes : (r r' : Lock) → Calm r r' → T (writes r') → T (writes r)
still-writes r r' c t = subst T c.writes-is t

calm-valid : (issued : ℕ) (lasts : List ℕ) (r r' : Lock) → Calm r r' → Valid issued lasts r → Valid issued lasts r'
calm-valid issued lasts r r' c v =
    let m = c.mode-in (v.mode-lo, v.mode-hi) in
    record {
      handle-lo = omega arith;
      handle-hi = omega arith;
      client-hi = omega arith;
      stripe-hi = omega arith;
      mode-lo = m.0;
      mode-hi = m.1;
      state-hi = c.state-hi v.state-hi;
      ordered = omega arith;
      ends = omega arith;
      mark_of = λ h. let k = v.mark_of (subst T c.waits-is h) in let l = c.mark-hi in omega arith;
      mark-no = λ h. let k = v.mark-no (still-held r r' c h) in let l = c.mark-hi in omega arith;
      number-of = λ h.
          let n = v.number-of (subst T e h) in
          let z : get_or lasts r'.stripe 0 ≡ get_or lasts r.stripe 0 = ap (λ (i : ℕ). get_or lasts i 0) c.same-is.stripe-is in
          (omega arith, omega arith);
      number-no = λ h. c.same-is.number_is ∙ v.number-no (subst (λ (b : Bool). T (not b)) e h);
    }
  where
    e : (held r' && writes r') ≡ (held r && writes r)
    e = ap₂ (λ (a b : Bool). not a && b) c.waits-is c.writes-is

calm-yields : (a b a' b' : Lock) → Calm a a' → Calm b b' → Yields a b → Yields a' b'
calm-yields a b a' b' c d y =
    let n = c.stays-nbw (y.nbw, y.canceling) in
    let m = d.mode-mid (y.lo, y.hi) in
    record { less = let l = y.less in let e = c.same-is.number_is in let f = d.same-is.number_is in omega arith; nbw = n.0; canceling = n.1; lo = m.0; hi = m.1 }

calm-friends : (a b a' b' : Lock) → Calm a a' → Calm b b' → Friends a b → Friends a' b'
calm-friends a b a' b' c d f = record {
  differ = λ h k e p q n.
      f.differ (still-held a a' c h) (still-held b b' d k) (sym c.same-is.stripe-is ∙ e ∙ d.same-is.stripe-is) (still-writes a a' c p) (still-writes b b' d q)
      (sym c.same-is.number_is ∙ n ∙ d.same-is.number_is);
  clear = λ h k e p q.
      moved
      (f.clear (still-held a a' c h) (still-held b b' d k) (sym c.same-is.stripe-is ∙ e ∙ d.same-is.stripe-is) (omega arith) (omega arith));
}
  where
    moved : Clear a b → Clear a' b'
    moved (inl p) = inl (c.stays-pr p.0, d.stays-pr p.1)
    moved (inr (inl y)) = inr (inl (calm-yields a b a' b' c d y))
    moved (inr (inr y)) = inr (inr (calm-yields b a b' a' d c y))

-- Each record of a sound table is changed so
module _ (issued : ℕ) (lasts : List ℕ) (g : Lock → Lock) (calm : (r : Lock) → Calm r (g r)) (rs : List Lock) where
  calm-agree : (a b : Lock) → T (agree a b) → T (agree (g a) (g b))
  unfolding agree
  calm-agree a b t =
      and_i (ltb (handle_of (g a)) (handle_of (g b))) (differ (g a) (g b) && share (g a) (g b))
      (lt→ltb (handle_of (g a)) (handle_of (g b)) (let h = ltb→lt (handle_of a) (handle_of b) (search (and_l)) in omega (arith, (calm a).same-is.handle-is, (calm b).same-is.handle-is)))
      (→friends (g a) (g b) (calm-friends a b (g a) (g b) (calm a) (calm b) (friends→ a b (search (and_r)))))

  calm-wants : (s : ℕ) (r : Lock) → wants s (g r) ≡ wants s r
  calm-wants s r =
      ap₂ (λ (a b : Bool). a && b) (ap₂ (λ (a b : Bool). a && b) (calm r).waits-is (calm r).writes-is) (ap (λ (i : ℕ). eqb i s) (calm r).same-is.stripe-is)

  calm-room : (s : ℕ) → T (room issued lasts rs s) → T (room issued lasts (map g rs) s)
  unfolding room
  calm-room s t = rw (count_map (wants s) (wants s) g (calm-wants s) rs) t

  pub changed : Sound issued lasts rs → Sound issued lasts (map g rs)
  changed S = record {
    few = S.few;
    sixteen = S.sixteen;
    fits = rw length-map S.fits;
    each = all_map (valid issued lasts) (valid issued lasts) g (λ r t. →valid issued lasts (g r) (calm-valid issued lasts r (g r) (calm r) (valid→ issued lasts r t))) rs S.each;
    apart = pairs-map agree agree g calm-agree rs S.apart;
    rooms = all-imp (room issued lasts rs) (room issued lasts (map g rs)) calm-room stripes S.rooms;
  }

-- The three changes are such: a held lock that is not canceling goes to another held state, and a BW or PW becomes NBW
moved : (s : ℕ) (r : Lock) → 1 ≤ r.state → r.state < 3 → 1 ≤ s → s ≤ 3 → Calm r (in_state s r)
moved s r lo hi l h =
    record {
      same-is = same r.mode s r;
      mark-hi = omega arith;
      waits-is = ne_eqb s 0 (omega arith) ∙ sym (ne_eqb r.state 0 (omega arith));
      writes-is = refl;
      state-hi = λ _. h;
      mode-in = λ m. m;
      mode-mid = λ m. m;
      stays-pr = λ m. m;
      stays-nbw = λ m. omega arith;
    }

pub calm-revoked : (rs : List Lock) (r : Lock) → Calm r (revoked rs r)
calm-revoked rs r =
    by_cond (Calm r) (wanted rs r) (in_state asked r) r
    (λ t. let e = eqb→eq r.state granted (search (and_l)) in moved asked r (omega arith) (omega arith) (omega arith) (omega arith)) (λ t. calm-refl r)

pub calm-acknowledged : (c h : ℕ) (r : Lock) → Calm r (cond (may_acknowledge c h r) (in_state canceling r) r)
calm-acknowledged c h r =
    by_cond (Calm r) (may_acknowledge c h r) (in_state canceling r) r
    (λ t. let e = eqb→eq r.state asked (search (and_r)) in moved canceling r (omega arith) (omega arith) (omega arith) (omega arith)) (λ t. calm-refl r)

pub calm-downgraded : (c h : ℕ) (r : Lock) → Calm r (cond (may_downgrade c h r) (downgraded r) r)
calm-downgraded c h r = by_cond (Calm r) (may_downgrade c h r) (downgraded r) r (λ t. lowered (leb→le bw r.mode (search (and_l, and_r)))) (λ t. calm-refl r)
  where
    lowered : bw ≤ r.mode → Calm r (downgraded r)
    lowered e =
        record {
          same-is = same nbw r.state r;
          mark-hi = omega arith;
          waits-is = refl;
          writes-is = sym (ap not (ne_eqb r.mode pr (omega arith)));
          state-hi = λ h. h;
          mode-in = λ h. omega arith;
          mode-mid = λ h. omega arith;
          stays-pr = λ h. omega arith;
          stays-nbw = λ h. omega arith;
        }
